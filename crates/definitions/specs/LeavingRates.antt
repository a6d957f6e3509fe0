-- Steps for leaving rates (document 01, the section of that name, with the pivots of document 02, U8; source 000, Proposition 2.4), on r
-- stages in compact order; with weights the steps of reading 3 (document 02, U10; source 000, Remark 2.5).
-- Stage k of the paper is k - 1 here, so stages run from 0 to r - 1.
use Rattle.std.specs.Prelude.{ℕ, zero, suc, ◌-◌, Bool, true, ◌&&◌, ◌||◌, cond, leb, eqb, Float}
use Rattle.definitions.specs.Numbers.{◌⊕◌, ◌⊗◌, ◌⊘◌, 0·0, 1·0, add_in_range, mul_in_range, div_in_range, add_product_in_range, sum, sum_in_range, all}
use Rattle.definitions.specs.Tables.{stored, stored_table}

-- A weight z_j for each stage, in reading 3; the other readings have none.
pub data Weights : Type 0 where
  none : Weights
  some : (ℕ → Float) → Weights

-- Sizes t_ij, leaving rates s_i, and weights z.
pub record System : Type 0 where
  pub t : ℕ → ℕ → Float
  pub s : ℕ → Float
  pub z : Weights

-- What a pivot adds for stage j: the row's t_kj, or with weights t_kj·z_j.
abbrev pub weighed : Weights → (ℕ → Float) → ℕ → Float
weighed none row j = row j
weighed (some z) row j = row j ⊗ z j

-- A row of r numbers from its last one back; what row k adds for the stages after k, added so.
abbrev pub falling : ℕ → (ℕ → Float) → ℕ → Float
falling r row q = row (r - suc q)

abbrev pub later_sizes : ℕ → System → ℕ → Float
later_sizes r a k = sum 0·0 (falling r (weighed a.z (a.t k))) 0 (r - suc k)

-- Document 02, U10: "the sum is divided by z_k".
abbrev pub over_weight : Weights → ℕ → Float → Float
over_weight none k total = total
over_weight (some z) k total = total ⊘ z k

-- Document 02, U8: "a pivot adds t_kj for j falling from n to k+1, starting at plus zero, and s_k last"; U10: "adds t_kj·z_j for
-- falling j, then s_k, and the sum is divided by z_k".
unfoldable pub pivot : ℕ → System → ℕ → Float
pivot r a k = over_weight a.z k (later_sizes r a k ⊕ a.s k)

-- Its steps in range (question 10): the products with weights, the additions, the division by a weight.
abbrev pub products_in_range : Weights → (ℕ → Float) → ℕ → ℕ → Bool
products_in_range none row k m = true
products_in_range (some z) row k m = all (λ j. mul_in_range (row j) (z j)) k m

abbrev pub over_weight_in_range : Weights → ℕ → Float → Bool
over_weight_in_range none k total = true
over_weight_in_range (some z) k total = div_in_range total (z k)

unfoldable pub pivot_in_range : ℕ → System → ℕ → Bool
pivot_in_range r a k =
    products_in_range a.z (a.t k) (suc k) (r - suc k)
    && sum_in_range 0·0 (falling r (weighed a.z (a.t k))) 0 (r - suc k)
    && add_in_range (later_sizes r a k) (a.s k)
    && over_weight_in_range a.z k (later_sizes r a k ⊕ a.s k)

-- "m = t_ik / p_k"
unfoldable pub multiplier : ℕ → System → ℕ → ℕ → Float
multiplier r a k i = a.t i k ⊘ pivot r a k

-- "s_i becomes s_i + m·s_k. For j = k+1 to n, j ≠ i, t_ij becomes t_ij + m·t_kj."
-- Only places i, j > k with j ≠ i are read again.
unfoldable pub eliminate : ℕ → System → ℕ → System
eliminate r a k =
    record {
      t = stored_table 0·0 r (λ i j. a.t i j ⊕ multiplier r a k i ⊗ a.t k j);
      s = stored 0·0 r (λ i. a.s i ⊕ multiplier r a k i ⊗ a.s k);
      z = a.z;
    }

-- The system as stage k begins: after the downward stages before k.
unfoldable pub begun : ℕ → System → ℕ → System
begun r start zero = start
begun r start (suc k) = let a = begun r start k in eliminate r a k

unfoldable pub downward : ℕ → System → ℕ → System
downward r start = stored start r (begun r start)

-- Over the systems as the stages begin: at k is `downward r start k`.
module _ (r : ℕ) (at : ℕ → System) where
  -- Stage k's pivot p_k, and row k's sizes t_kj, which later stages leave alone.
  unfoldable pub p : ℕ → Float
  p k = pivot r (at k) k

  unfoldable pub u : ℕ → ℕ → Float
  u k j = (at k).t k j

  -- The multiplier of row i at stage k: downward for i > k, upward for i < k.
  unfoldable pub m↓ : ℕ → ℕ → Float
  m↓ k i = multiplier r (at k) k i

  unfoldable pub m↑ : ℕ → ℕ → Float
  m↑ k i = u i k ⊘ p k

  -- Column j of b, which starts as the identity, as stage k begins: "for j = 1 to k, b_ij becomes b_ij + m·b_kj".
  unfoldable pub b↓ : ℕ → ℕ → ℕ → Float
  b↓ j zero = λ i. cond (eqb i j) 1·0 0·0
  b↓ j (suc k) = let b = b↓ j k in cond (leb j k) (stored 0·0 r (λ i. b i ⊕ m↓ k i ⊗ b k)) b

  -- Column j of b after q upward stages, from r - 1 down to r - q: "for i = 1 to k−1, m = t_ik / p_k; b_ij becomes b_ij + m·b_kj".
  unfoldable pub b↑ : ℕ → ℕ → ℕ → Float
  b↑ j zero = stored 0·0 r (λ i. b↓ j i i)
  b↑ j (suc q) = let b = b↑ j q in stored 0·0 r (λ i. b i ⊕ m↑ (r - suc q) i ⊗ b (r - suc q))

  -- Row i is touched by the upward stages above i alone.
  unfoldable pub solved : ℕ → ℕ → Float
  solved j i = b↑ j (r - suc i) i

  -- "Last, x_ij = b_ij / p_i."
  unfoldable pub quotient : ℕ → ℕ → Float
  quotient i j = solved j i ⊘ p i

  -- Every step in range (question 10). First the steps that serve every column: row i at stage k;
  unfoldable pub row_in_range : ℕ → ℕ → Bool
  row_in_range k i =
      div_in_range ((at k).t i k) (p k)
      && add_product_in_range ((at k).s i) (m↓ k i) ((at k).s k)
      && all (λ j. eqb i j || add_product_in_range ((at k).t i j) (m↓ k i) ((at k).t k j)) (suc k) (r - suc k)

  -- the pivot of stage k and its rows;
  unfoldable pub stage_in_range : ℕ → Bool
  stage_in_range k = pivot_in_range r (at k) k && all (row_in_range k) (suc k) (r - suc k)

  -- the stages before k; and all of these with the upward multipliers.
  unfoldable pub shared_before : ℕ → Bool
  shared_before k = all stage_in_range 0 k

  unfoldable pub shared : Bool
  shared = shared_before r && all (λ k. all (λ i. div_in_range (u i k) (p k)) 0 k) 0 r

  -- Then the steps of column j: in the downward stages before k;
  unfoldable pub column_before : ℕ → ℕ → Bool
  column_before j k =
      all (λ l. let b = b↓ j l in all (λ i. add_product_in_range (b i) (m↓ l i) (b l)) (suc l) (r - suc l)) j (k - j)

  -- in the first q upward stages;
  unfoldable pub column_upward : ℕ → ℕ → Bool
  column_upward j q =
      all (λ l. let b = b↑ j l in all (λ i. add_product_in_range (b i) (m↑ (r - suc l) i) (b (r - suc l))) 0 (r - suc l)) 0 q

  -- and all of these with the last division.
  unfoldable pub column : ℕ → Bool
  column j = column_before j r && column_upward j r && all (λ i. div_in_range (solved j i) (p i)) 0 r

  unfoldable pub in_range : Bool
  in_range = shared && all column 0 r
