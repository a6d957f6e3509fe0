-- `prices::fill` meets its contract: at stage i the stages before it are done. Assumes nothing.
use Prim.Native.Nat.{◌≤◌, ◌-◌}
use Rattle.definitions.specs.Prices.{unit_price, request_price}
use Rattle.tables.specs.RowMajor.{table}
use Rattle.tables.specs.Vectors.{vector}
use Rattle.tables.proofs.Vectors.{AlongVector}
use Rattle.prices.proofs.fill.Given as goal

abbrev pub invariant-loop-i : goal.invariant-loop-i
invariant-loop-i l = (l.i ≤ l.n) × AlongVector 0 (request_price l.n (table l.x) (unit_price l.prices)) (vector l.initial.p) l.p l.i

abbrev pub decreases-loop-i : goal.decreases-loop-i
decreases-loop-i l = l.n - l.i
