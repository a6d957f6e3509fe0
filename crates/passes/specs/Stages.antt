-- The steps that serve every column, as operations on a working table f (document 01, "Steps for leaving rates"): s_i stands on the diagonal until stage i is done, and p_i afterwards;
-- the multiplier of row i at stage k takes the place (i, k), which no later step reads as a size.
use Rattle.std.specs.Prelude.{◌≡◌, ℕ, zero, suc, ◌-◌, Bool, ◌&&◌, ◌||◌, eqb, Float}
use Rattle.definitions.specs.Numbers.{◌⊕◌, ◌⊗◌, ◌⊘◌, div_in_range, add_product_in_range, all}
use Rattle.definitions.specs.LeavingRates.{Weights, pivot, stage_in_range}
use Rattle.tables.specs.Operators.{replace, between, put}
use Rattle.tables.specs.Rows.{plus_multiple}
use Rattle.passes.specs.Multipliers.{system_in}

-- The running sum s and the pivot p of stage k.
pub record IsStage (w : Weights) (r k : ℕ) (f : ℕ → ℕ → Float) (s p : Float) : Type 0 where
  pub sum : s ≡ f k k
  pub pivots : p ≡ pivot r (system_in w f) k

-- First the multipliers, in column k: row i, and the rows after k and before hi.
unfoldable pub multiplier_row : ℕ → Float → (ℕ → ℕ → Float) → ℕ → ℕ → Float
multiplier_row k p f i = replace k (f i k ⊘ p) (f i)

unfoldable pub multiplied_rows : ℕ → Float → ℕ → (ℕ → ℕ → Float) → ℕ → ℕ → Float
multiplied_rows k p hi f = between (suc k) hi (multiplier_row k p f) f

-- Then, with its multiplier in column k: row i with its multiple of row k in the columns after k, and its new leaving rate on the diagonal.
unfoldable pub eliminated_row : ℕ → ℕ → Float → (ℕ → ℕ → Float) → ℕ → ℕ → Float
eliminated_row r k s f i = replace i (f i i ⊕ f i k ⊗ s) (between (suc k) r (plus_multiple (f i k) (f i) (f k)) (f i))

unfoldable pub eliminated_rows : ℕ → ℕ → Float → ℕ → (ℕ → ℕ → Float) → ℕ → ℕ → Float
eliminated_rows r k s hi f = between (suc k) hi (eliminated_row r k s f) f

-- What stage k + 1 needs of stage k to begin, with the multipliers of stage k in column k: its own row, and its column in the later rows.
unfoldable pub column_row : ℕ → (ℕ → ℕ → Float) → ℕ → ℕ → Float
column_row k f i = replace (suc k) (f i (suc k) ⊕ f i k ⊗ f k (suc k)) (f i)

unfoldable pub next_begun : ℕ → ℕ → Float → (ℕ → ℕ → Float) → ℕ → ℕ → Float
next_begun r k s f = between (suc (suc k)) r (column_row k f) (replace (suc k) (eliminated_row r k s f (suc k)) f)

-- Then, with the multipliers of both stages in their columns: row i with its multiples of both rows in the columns after k + 1, and its leaving rate after both stages.
unfoldable pub plus_two : Float → Float → (ℕ → Float) → (ℕ → Float) → (ℕ → Float) → ℕ → Float
plus_two m m' own first second j = own j ⊕ m ⊗ first j ⊕ m' ⊗ second j

unfoldable pub pair_row : ℕ → ℕ → Float → Float → (ℕ → ℕ → Float) → ℕ → ℕ → Float
pair_row r k s s' f i =
    replace i (f i i ⊕ f i k ⊗ s ⊕ f i (suc k) ⊗ s') (between (suc (suc k)) r (plus_two (f i k) (f i (suc k)) (f i) (f k) (f (suc k))) (f i))

unfoldable pub pair_rows : ℕ → ℕ → Float → Float → (ℕ → ℕ → Float) → ℕ → ℕ → Float
pair_rows r k s s' f = between (suc (suc k)) r (pair_row r k s s' f) f

-- Stage k, which leaves its pivot on the diagonal; and the stages before k.
unfoldable pub stage_done : Weights → ℕ → ℕ → (ℕ → ℕ → Float) → ℕ → ℕ → Float
stage_done w r k f = let p = pivot r (system_in w f) k in put k k p (eliminated_rows r k (f k k) r (multiplied_rows k p r f))

unfoldable pub stages_done : Weights → ℕ → (ℕ → ℕ → Float) → ℕ → ℕ → ℕ → Float
stages_done w r f zero = f
stages_done w r f (suc k) = stage_done w r k (stages_done w r f k)

-- Row i at stage k, whose pivot is p, in range: the multiplier, the leaving rate, the sizes off the diagonal. The running sum stands in column k of the other row.
unfoldable pub row_test : ℕ → ℕ → ℕ → Float → (ℕ → Float) → (ℕ → Float) → Bool
row_test r k i p own other =
    let m = own k ⊘ p in
    div_in_range (own k) p
    && add_product_in_range (own i) m (other k)
    && all (λ j. eqb i j || add_product_in_range (own j) m (other j)) (suc k) (r - suc k)

abbrev pub row_tests : ℕ → ℕ → Float → (ℕ → ℕ → Float) → Bool
row_tests r k p f = all (λ i. row_test r k i p (f i) (f k)) (suc k) (r - suc k)

unfoldable pub stages_in_range : Weights → ℕ → (ℕ → ℕ → Float) → ℕ → Bool
stages_in_range w r f k = all (λ l. stage_in_range r (λ _. system_in w (stages_done w r f l)) l) 0 k

-- The upward multipliers, where every stage is done: sizes after the diagonal over the pivots of their columns, in the rows before hi.
unfoldable pub over_pivot : (ℕ → ℕ → Float) → ℕ → ℕ → Float
over_pivot f i k = f i k ⊘ f k k

unfoldable pub upward_rows : ℕ → ℕ → (ℕ → ℕ → Float) → ℕ → ℕ → Float
upward_rows r hi f = between 0 hi (λ i. between (suc i) r (over_pivot f i) (f i)) f

unfoldable pub upward_row_in_range : ℕ → (ℕ → ℕ → Float) → ℕ → Bool
upward_row_in_range r f i = all (λ k. div_in_range (f i k) (f k k)) (suc i) (r - suc i)
