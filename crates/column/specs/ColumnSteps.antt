-- One column of b through the steps for leaving rates (document 01, "Steps for leaving rates" and question 10).
use Rattle.std.specs.Prelude.{◌≡◌, ℕ, suc, ◌+◌, ◌-◌, ◌≤◌, ◌<◌, Bool, ◌&&◌, ◌||◌, cond, List, T, eqb, Float}
use Rattle.std.specs.Float.Ieee.{lt}
use Rattle.definitions.specs.Numbers.{◌⊕◌, ◌⊗◌, ◌⊘◌, 0·0, 1·0, smallest, is_zero, div_in_range, all}
use Rattle.definitions.specs.LeavingRates.{none, System, downward, m↓, m↑, b↓, b↑, solved, quotient, shared, column}
use Rattle.tables.specs.Operators.{between}
use Rattle.tables.specs.Vectors.{vector, IsVector, VectorHolds}
use Rattle.passes.specs.Multipliers.{system_in, Multipliers}

-- A product that is in range wherever it is finite.
unfoldable pub large_product : Float → Float → Bool
large_product m y = is_zero m || is_zero y || lt smallest (m ⊗ y)

-- Stage k on the rows from lo up to hi of the column v, with the multipliers g: whether the products are large, and the column.
pub record StageGives (k lo hi : ℕ) (g : ℕ → ℕ → Float) (v : ℕ → Float) (ok : Bool) (xs : List Float) : Type 0 where
  pub large : ok ≡ all (λ i. large_product (g i k) (v k)) lo (hi - lo)
  pub holds : VectorHolds xs (between lo hi (λ i. v i ⊕ g i k ⊗ v k) v)

-- Over `at`, the systems as the stages begin.
module _ (r : ℕ) (at : ℕ → System) (j : ℕ) where
  -- Column j as the downward stage k begins: row i is done once its own stage has come.
  pub record DownAt (k : ℕ) (v : ℕ → Float) : Type 0 where
    pub done : (i : ℕ) → i < k → i < r → v i ≡ b↓ r at j i i
    pub due : (i : ℕ) → k ≤ i → i < r → v i ≡ b↓ r at j k i

  -- After q upward stages: row i is done after those above it.
  pub record UpAt (q : ℕ) (v : ℕ → Float) : Type 0 where
    pub done : (i : ℕ) → r ≤ i + q → i < r → v i ≡ solved r at j i
    pub due : (i : ℕ) → i + q < r → v i ≡ b↑ r at j q i

  -- The products of downward stage k, and of upward stage q, are large.
  unfoldable pub large_down : ℕ → Bool
  large_down k = all (λ i. large_product (m↓ r at k i) (b↓ r at j k k)) (suc k) (r - suc k)

  unfoldable pub large_up : ℕ → Bool
  large_up q = all (λ i. large_product (m↑ r at (r - suc q) i) (b↑ r at j q (r - suc q))) 0 (r - suc q)

-- Column j of the identity of r stages, which b starts as; past the last stage it has no 1 (document 02, U3).
pub record UnitColumn (r j : ℕ) (xs : List Float) : Type 0 where
  pub long : IsVector xs
  pub is : (i : ℕ) → i < r → vector xs i ≡ cond (eqb i j) 1·0 0·0

-- The downward stages from j on, from a column v: where g has the multipliers of `at`, and v is the column as stage j begins.
pub record DownwardGives (r j : ℕ) (g : ℕ → ℕ → Float) (v : ℕ → Float) (ok : Bool) (xs : List Float) : Type 0 where
  pub long : IsVector xs
  pub large : (at : ℕ → System) → Multipliers r at g → DownAt r at j j v → ok ≡ all (large_down r at j) j (r - j)
  pub is : (at : ℕ → System) → Multipliers r at g → DownAt r at j j v → DownAt r at j r (vector xs)

-- The upward stages, of any column.
pub record UpwardGives (r : ℕ) (g : ℕ → ℕ → Float) (v : ℕ → Float) (ok : Bool) (xs : List Float) : Type 0 where
  pub long : IsVector xs
  pub large : (at : ℕ → System) (j : ℕ) → Multipliers r at g → UpAt r at j 0 v → ok ≡ all (large_up r at j) 0 r
  pub is : (at : ℕ → System) (j : ℕ) → Multipliers r at g → UpAt r at j 0 v → UpAt r at j r (vector xs)

-- The last division, by the numbers on the diagonal of g.
pub record QuotientsGive (r : ℕ) (g : ℕ → ℕ → Float) (v : ℕ → Float) (ok : Bool) (xs : List Float) : Type 0 where
  pub range : ok ≡ all (λ i. div_in_range (v i) (g i i)) 0 r
  pub holds : VectorHolds xs (between 0 r (λ i. v i ⊘ g i i) v)

-- Column j of the system in f, without weights: whether its steps are in range; where they are, its quotients.
pub record ColumnSolved (r j : ℕ) (f : ℕ → ℕ → Float) (ok : Bool) (xs : List Float) : Type 0 where
  pub range : ok ≡ (shared r (downward r (system_in none f)) && column r (downward r (system_in none f)) j)
  pub quotients : T ok → (i : ℕ) → i < r → vector xs i ≡ quotient r (downward r (system_in none f)) i j
  pub long : IsVector xs
