-- `rows::dot` meets its contract: at column j the products before it are added and tested. Assumes nothing.
use Prim.Native.Nat.{◌≤◌, ◌-◌}
use Rattle.definitions.specs.Numbers.{◌⊗◌, 0·0, mul_in_range}
use Rattle.steps.proofs.Gathering.{Gathered, Summed}
use Rattle.tables.specs.RowMajor.{table}
use Rattle.tables.specs.Vectors.{vector}
use Rattle.rows.proofs.dot.Given as goal

abbrev pub invariant-loop-j : goal.invariant-loop-j
invariant-loop-j w =
    (w.j ≤ w.hi) × Summed 0·0 (λ l. table w.a w.i l ⊗ vector w.v l) w.lo w.j w.sum × Gathered (λ l. mul_in_range (table w.a w.i l) (vector w.v l)) w.lo w.j w.ok

abbrev pub decreases-loop-j : goal.decreases-loop-j
decreases-loop-j l = l.hi - l.j
