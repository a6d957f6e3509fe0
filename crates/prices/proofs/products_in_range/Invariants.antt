-- `prices::products_in_range` meets its contract: at column j the products before it are tested. Assumes nothing.
use Prim.Native.Nat.{◌≤◌, ◌-◌}
use Rattle.definitions.specs.Numbers.{mul_in_range}
use Rattle.definitions.specs.Prices.{unit_price}
use Rattle.steps.proofs.Gathering.{Gathered}
use Rattle.tables.specs.RowMajor.{table}
use Rattle.prices.proofs.products_in_range.Given as goal

abbrev pub invariant-loop-j : goal.invariant-loop-j
invariant-loop-j w = (w.j ≤ w.n) × Gathered (λ l. mul_in_range (table w.x w.i l) (unit_price w.prices l)) 0 w.j w.ok

abbrev pub decreases-loop-j : goal.decreases-loop-j
decreases-loop-j l = l.n - l.j
