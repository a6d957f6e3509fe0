-- `columns::pass` meets its contract: before turn s the rows of the turns before it are done and told. Assumes nothing.
use Prim.Native.Nat.{◌≤◌, ◌<◌, ◌-◌}
use Rattle.tables.specs.RowMajor.{table}
use Rattle.passes.proofs.Told.{ToldEach}
use Rattle.columns.proofs.Passing.{Passing, turn_test, TurnFinite}
use Rattle.turns.proofs.Turns.{flag}
use Rattle.columns.proofs.pass.Given as goal

abbrev pub invariant-loop-s : goal.invariant-loop-s
invariant-loop-s g l =
    (1 ≤ l.s)
    × (1 < l.s → l.s ≤ l.r)
    × Passing l.r (flag g.row.FALLING) (table l.t) (table l.initial.b) l.lo l.b l.s
    × ToldEach (turn_test l.r (flag g.row.FALLING) (table l.t) (table l.initial.b)) (TurnFinite l.r (flag g.row.FALLING) (table l.t) (table l.initial.b)) 0 l.s l.ok

abbrev pub decreases-loop-s : goal.decreases-loop-s
decreases-loop-s g l = l.r - l.s
