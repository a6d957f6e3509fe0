-- A stage c that joins, on a working table: the steps of document 01 with the known stages told by a test, and its diagonal p.
use Rattle.std.specs.Prelude.{◌≡◌, ℕ, Bool, not, ◌&&◌, ◌||◌, cond, List, ltb, Float}
use Rattle.definitions.specs.Numbers.{◌⊗◌, ◌⊘◌, 0·0, 1·0, finite, mul_in_range, div_in_range, all}
use Rattle.definitions.specs.Margins.{sum_with}
use Rattle.tables.specs.RowMajor.{Holds}
use Rattle.tables.specs.Operators.{replace, between}
use Rattle.tables.specs.Vectors.{VectorHolds}

-- The stages that are known as stage c joins: the kept ones and those above c.
unfoldable pub knows : ℕ → (ℕ → Bool) → ℕ → Bool
knows c kept i = kept i || ltb c i

module _ (n : ℕ) (known : ℕ → Bool) where
  -- The factors t_l / p of a column of sizes t, in a vector that was v.
  unfoldable pub factors_of : (ℕ → Float) → Float → (ℕ → Float) → ℕ → Float
  factors_of t p v = between 0 n (λ l. t l ⊘ p) v

  unfoldable pub factors_in_range : (ℕ → Float) → Float → Bool
  factors_in_range t p = all (λ l. not (known l) || div_in_range (t l) p) 0 n

  pub record Factors (t : ℕ → Float) (p : Float) (v : ℕ → Float) (ok : Bool) (ws : List Float) : Type 0 where
    pub range : ok ≡ factors_in_range t p
    pub holds : VectorHolds ws (factors_of t p v)

  -- Row i with its place in column c, by the factors w.
  unfoldable pub column_row : ℕ → (ℕ → Float) → ℕ → (ℕ → Float) → ℕ → Float
  column_row c w i row = cond (known i) (replace c (sum_with known (λ l. row l ⊗ w l) n) row) row

  -- Its products in range, and its sum finite: so is every addition.
  unfoldable pub place_in_range : (ℕ → Float) → (ℕ → Float) → Bool
  place_in_range w row = all (λ l. not (known l) || mul_in_range (row l) (w l)) 0 n && finite (sum_with known (λ l. row l ⊗ w l) n)

  unfoldable pub column_in_range : (ℕ → Float) → (ℕ → ℕ → Float) → Bool
  column_in_range w f = all (λ i. not (known i) || place_in_range w (f i)) 0 n

  -- `fill_place` and `fill_column` on a table f.
  pub record PlaceFilled (c : ℕ) (w : ℕ → Float) (i : ℕ) (ok : Bool) (f : ℕ → ℕ → Float) (xs : List Float) : Type 0 where
    pub range : ok ≡ (not (known i) || place_in_range w (f i))
    pub holds : Holds xs (replace i (column_row c w i (f i)) f)

  unfoldable pub column_filled : ℕ → (ℕ → Float) → (ℕ → ℕ → Float) → ℕ → ℕ → Float
  column_filled c w f = between 0 n (λ i. column_row c w i (f i)) f

  pub record ColumnFilled (c : ℕ) (w : ℕ → Float) (ok : Bool) (f : ℕ → ℕ → Float) (xs : List Float) : Type 0 where
    pub range : ok ≡ column_in_range w f
    pub holds : Holds xs (column_filled c w f)

  -- Stage c joins the table f: its column, and its row, 1 / p at c and zeros.
  unfoldable pub unit_row : ℕ → Float → (ℕ → Float) → ℕ → Float
  unit_row c p row = replace c (1·0 ⊘ p) (between 0 n (λ _. 0·0) row)

  unfoldable pub joined_table : ℕ → (ℕ → Float) → Float → (ℕ → ℕ → Float) → ℕ → ℕ → Float
  joined_table c t p f =
      let g = column_filled c (factors_of t p (λ _. 0·0)) f in
      replace c (unit_row c p (g c)) g

  unfoldable pub join_test : (ℕ → Float) → Float → (ℕ → ℕ → Float) → Bool
  join_test t p f = div_in_range 1·0 p && factors_in_range t p && column_in_range (factors_of t p (λ _. 0·0)) f

  pub record JoinDone (c : ℕ) (t : ℕ → Float) (p : Float) (ok : Bool) (f : ℕ → ℕ → Float) (xs : List Float) : Type 0 where
    pub range : ok ≡ join_test t p f
    pub holds : Holds xs (joined_table c t p f)

-- The sum of the products of a row and w over the known stages below m, and whether the products are in range.
pub record KnownSum (known : ℕ → Bool) (row w : ℕ → Float) (m : ℕ) (value : Float) (ok : Bool) : Type 0 where
  pub sums : value ≡ sum_with known (λ l. row l ⊗ w l) m
  pub tests : ok ≡ all (λ l. not (known l) || mul_in_range (row l) (w l)) 0 m
