-- `ranges::row_quick` meets its contract: at column k the multipliers before it are tested. Assumes nothing.
use Prim.Native.Nat.{ℕ, ◌≤◌, ◌<◌, ◌-◌}
use lib.Dec.{T}
use lib.Ieee.{binary64, fits}
use Rattle.tables.specs.RowMajor.{table}
use Rattle.ranges.specs.Quick.{quick_at}
use Rattle.steps.proofs.Gathering.{Gathered}
use Rattle.ranges.proofs.row_quick.Given as goal

abbrev pub invariant-loop-k : goal.invariant-loop-k
invariant-loop-k l = (l.k ≤ l.to) × Gathered (quick_at l.lo (table l.t l.i)) l.from l.k l.ok × ((a : ℕ) → a < l.k → l.from ≤ a → T (fits binary64 (table l.t l.i a)))

abbrev pub decreases-loop-k : goal.decreases-loop-k
decreases-loop-k l = l.to - l.k
