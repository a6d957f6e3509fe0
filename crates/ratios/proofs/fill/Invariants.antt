-- `ratios::fill` meets its contract: at stage i the stages before it are done. Assumes nothing.
use Prim.Native.Nat.{◌≤◌, ◌-◌}
use Rattle.tables.specs.RowMajor.{table}
use Rattle.tables.specs.Vectors.{vector}
use Rattle.ratios.specs.Ratios.{RatiosTested}
use Rattle.ratios.proofs.fill.Given as goal

abbrev pub invariant-loop-i : goal.invariant-loop-i
invariant-loop-i l = (l.i ≤ l.n) × RatiosTested l.n (table l.t) (vector l.d) l.i l.ok l.a l.k l.kept

abbrev pub decreases-loop-i : goal.decreases-loop-i
decreases-loop-i l = l.n - l.i
