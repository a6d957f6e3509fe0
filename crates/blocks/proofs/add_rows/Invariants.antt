-- `blocks::add_rows` meets its contract: after q turns q rows are added. Assumes nothing.
use mathlib.Core.Bool.{not}
use lib.Dec.{eqb}
use Prim.Native.Nat.{◌≤◌, ◌-◌}
use Rattle.tables.specs.RowMajor.{table}
use Rattle.blocks.specs.Blocks.{nth}
use Rattle.blocks.proofs.Blocks.{Adding}
use Rattle.blocks.proofs.add_rows.Given as goal

abbrev pub invariant-loop-q : goal.invariant-loop-q
invariant-loop-q g l = (l.q ≤ l.count) × Adding (nth l.first (not (eqb g.row.FALLING 0))) (table l.t) (table l.b) l.i l.j l.q l.x

abbrev pub decreases-loop-q : goal.decreases-loop-q
decreases-loop-q g l = l.count - l.q
