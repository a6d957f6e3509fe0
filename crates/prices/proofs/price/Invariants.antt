-- `prices::price` meets its contract: at column j the products before it are added. Assumes nothing.
use Prim.Native.Nat.{◌≤◌, ◌-◌}
use Rattle.definitions.specs.Numbers.{◌⊗◌, 0·0}
use Rattle.definitions.specs.Prices.{unit_price}
use Rattle.steps.proofs.Gathering.{Summed}
use Rattle.tables.specs.RowMajor.{table}
use Rattle.prices.proofs.price.Given as goal

abbrev pub invariant-loop-j : goal.invariant-loop-j
invariant-loop-j w = (w.j ≤ w.n) × Summed 0·0 (λ l. table w.x w.i l ⊗ unit_price w.prices l) 0 w.j w.sum

abbrev pub decreases-loop-j : goal.decreases-loop-j
decreases-loop-j l = l.n - l.j
