-- `columns::products_told` meets its contract: at turn q the turns before it are tested. Assumes nothing.
use Prim.Native.Nat.{◌≤◌, ◌-◌}
use Rattle.tables.specs.RowMajor.{table}
use Rattle.steps.proofs.Gathering.{Gathered}
use Rattle.passes.specs.RowPass.{turn, reach}
use Rattle.ranges.specs.Quick.{products_at}
use Rattle.turns.proofs.Turns.{flag}
use Rattle.columns.proofs.products_told.Given as goal

abbrev pub invariant-loop-q : goal.invariant-loop-q
invariant-loop-q g l = (l.q ≤ l.s) × Gathered (λ q. products_at (reach l.r (flag g.row.FALLING) q) (table l.t (turn l.r (flag g.row.FALLING) l.s)) (table l.b) (turn l.r (flag g.row.FALLING) q)) 0 l.q l.ok

abbrev pub decreases-loop-q : goal.decreases-loop-q
decreases-loop-q g l = l.s - l.q
