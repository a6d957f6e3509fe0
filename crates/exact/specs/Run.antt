-- A whole elimination run whose steps are each within some roundings of an exact step, for one column of right sides.
-- A k holds the numbers as level k begins; level k has k as its lowest stage and m stages after it.
use Rattle.std.specs.Prelude.{◌≡◌, ◌≢◌, ℕ, zero, suc, ◌+◌, ◌*◌, ◌≤◌, ◌<◌}
use Rattle.exact.specs.Chains.{In}
use Rattle.exact.specs.Near.{Near}
use Rattle.exact.specs.Systems.{Equations, mix, Solves, AllOut}
use Rattle.exact.specs.Elimination.{pivot}

-- One step of the numbers that every column shares: T'_ij p is near T_ij p + T_ik T_kj, off the diagonal, and s likewise.
pub record Step (e k m : ℕ) (A B : Equations) : Type 0 where
  pub size :
      (i j : ℕ) → In (suc k) m i → In (suc k) m j → i ≢ j
      → Near e ((B i).size j * pivot k m A) ((A i).size j * pivot k m A + (A i).size k * (A k).size j)
  pub exit :
      (i : ℕ) → In (suc k) m i
      → Near e ((B i).exit * pivot k m A) ((A i).exit * pivot k m A + (A i).size k * (A k).exit)

-- The same step of one column's right sides.
abbrev pub RightStep : ℕ → ℕ → ℕ → Equations → Equations → Type 0
RightStep e k m A B =
    (i : ℕ) → In (suc k) m i
    → Near e ((B i).right * pivot k m A) ((A i).right * pivot k m A + (A i).size k * (A k).right)

-- The shared steps of the levels before q; level m is the count of roundings of a level with m stages.
pub record SharedSteps (level : ℕ → ℕ) (n : ℕ) (A : ℕ → Equations) (q : ℕ) : Type 0 where
  pub step : (k m : ℕ) → suc (k + m) ≡ n → k < q → Step (level (suc m)) k m (A k) (A (suc k))

-- The steps of one column: its right sides go down, and its answers w over d go up (p w_k is near b_k + Σ_{j>k} T_kj w_j).
pub record ColumnSteps (level row : ℕ → ℕ) (n : ℕ) (A : ℕ → Equations) (d : ℕ) (w : ℕ → ℕ) : Type 0 where
  pub down : (k m : ℕ) → suc (k + m) ≡ n → RightStep (level (suc m)) k m (A k) (A (suc k))
  pub up :
      (k m : ℕ) → suc (k + m) ≡ n
      → Near (row (suc m)) (pivot k m (A k) * w k) ((A k k).right * d + mix (suc k) m (A k k) w)

-- Roundings in all: E(m+1) = E(m) + 2 m level(m+1) + row(m+1).
unfoldable pub total : (ℕ → ℕ) → (ℕ → ℕ) → ℕ → ℕ
total level row zero = zero
total level row (suc m) = total level row m + 2 * m * level (suc m) + row (suc m)

-- Theorem: the answers w/d are within the total of the exact solution z/c of the system that the run began with.
unfoldable pub RunAccuracy : Type 0
RunAccuracy =
    (level row : ℕ → ℕ) (n : ℕ) (A : ℕ → Equations) (c d : ℕ) (w z : ℕ → ℕ)
    → AllOut zero n (A zero) → SharedSteps level n A n → ColumnSteps level row n A d w
    → Solves zero n (A zero) c z
    → (i : ℕ) → i < n → Near (total level row n) (w i * c) (z i * d)

-- The counts of an engine: m + a for a level with m stages, 2m + b for its row, r for the last row.
unfoldable pub level_count : ℕ → ℕ → ℕ
level_count a m = m + a

unfoldable pub row_count : ℕ → ℕ → ℕ → ℕ
row_count r b zero = zero
row_count r b (suc zero) = r
row_count r b (suc (suc m)) = 2 * suc (suc m) + b

-- Theorem: with one rounding more for the last division the total is within 2n³, and within 3n³ where every pivot has a weight.
unfoldable pub RunBound : Type 0
RunBound = (n : ℕ) → 0 < n → total (level_count 2) (row_count 0 0) n + 1 ≤ 2 * (n * n * n)

unfoldable pub WeightedRunBound : Type 0
WeightedRunBound = (n : ℕ) → 0 < n → total (level_count 4) (row_count 1 2) n + 1 ≤ 3 * (n * n * n)
