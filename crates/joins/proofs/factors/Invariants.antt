-- `joins::factors` meets its contract: at place l the places before it are done and tested. Assumes nothing.
use mathlib.Core.Bool.{not, ◌||◌}
use Prim.Native.Nat.{◌≤◌, ◌-◌}
use Rattle.definitions.specs.Numbers.{◌⊘◌, div_in_range}
use Rattle.steps.proofs.Gathering.{Gathered}
use Rattle.tables.specs.RowMajor.{table}
use Rattle.tables.specs.Vectors.{vector}
use Rattle.tables.proofs.Vectors.{AlongVector}
use Rattle.compact.specs.Listing.{marked}
use Rattle.joins.specs.StageJoin.{knows}
use Rattle.joins.proofs.factors.Given as goal

abbrev pub invariant-loop-l : goal.invariant-loop-l
invariant-loop-l l =
    (l.l ≤ l.n) × AlongVector 0 (λ m. table l.t m l.c ⊘ l.p) (vector l.initial.w) l.w l.l × Gathered (λ m. not (knows l.c (marked l.kept) m) || div_in_range (table l.t m l.c) l.p) 0 l.l l.ok

abbrev pub decreases-loop-l : goal.decreases-loop-l
decreases-loop-l l = l.n - l.l
