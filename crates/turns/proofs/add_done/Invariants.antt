-- `turns::add_done` meets its contract: the blocks before the one that is due are done. Assumes nothing.
use Prim.Native.Nat.{◌≤◌, ◌*◌, ◌-◌}
use Rattle.tables.specs.RowMajor.{table}
use Rattle.turns.proofs.Turns.{flag, Blocks}
use Rattle.turns.proofs.add_done.Given as goal

abbrev pub invariant-loop-block : goal.invariant-loop-block
invariant-loop-block g l = (l.block ≤ l.block-end) × Blocks l.r (flag g.row.FALLING) l.s (table l.t) (table l.initial.b) l.b (8 * l.block)

abbrev pub decreases-loop-block : goal.decreases-loop-block
decreases-loop-block g l = l.block-end - l.block
