-- The table that a stage has joined, place by place.
use mathlib.Core.Path.{◌≡◌, ap, ◌∙◌}
use Prim.Native.Nat.{ℕ, ◌<◌, zero-le}
use mathlib.Core.Bool.{Bool, true}
use lib.Ieee.{Float}
use Rattle.exact.proofs.Cases.{by_bool}
use Rattle.definitions.specs.Numbers.{◌⊗◌, ◌⊘◌, 0·0, 1·0}
use Rattle.definitions.specs.Margins.{sum_with}
use Rattle.tables.specs.Operators.{between}
use Rattle.tables.proofs.Operators.{replace_same, replace_other, between_in}
use Rattle.joins.specs.StageJoin.{factors_of, column_row, column_filled, unit_row, joined_table}

module _ (n : ℕ) (known : ℕ → Bool) (c : ℕ) (t : ℕ → Float) (p : Float) (f : ℕ → ℕ → Float) where
  w : ℕ → Float
  w = factors_of n known t p (λ _. 0·0)

  pub factor_at : (l : ℕ) → l < n → factors_of n known t p (λ _. 0·0) l ≡ t l ⊘ p
  unfolding factors_of
  factor_at l h = between_in 0 n (λ l. t l ⊘ p) (λ _. 0·0) l zero-le h

  column-at : (i : ℕ) (row : ℕ → Float) → known i ≡ true → column_row n known c w i row c ≡ sum_with known (λ l. row l ⊗ w l) n
  unfolding column_row
  column-at i row k = rw k (replace_same c (sum_with known (λ l. row l ⊗ w l) n) row)

  column_else : (i j : ℕ) (row : ℕ → Float) → (j ≡ c → ⊥) → column_row n known c w i row j ≡ row j
  unfolding column_row
  column_else i j row m =
      by_bool (known i) (λ k. rw k (replace_other c (sum_with known (λ l. row l ⊗ w l) n) row j m)) (λ k. rw k)

  own_row : joined_table n known c t p f c ≡ unit_row n known c p (column_filled n known c w f c)
  unfolding joined_table w
  own_row = replace_same c (unit_row n known c p (column_filled n known c w f c)) (column_filled n known c w f)

  other_row : (i : ℕ) → (i ≡ c → ⊥) → i < n → joined_table n known c t p f i ≡ column_row n known c w i (f i)
  unfolding joined_table column_filled w
  other_row i m l =
      replace_other c (unit_row n known c p (column_filled n known c w f c)) (column_filled n known c w f) i m
      ∙ between_in 0 n (λ i. column_row n known c w i (f i)) f i zero-le l

  pub at-corner : joined_table n known c t p f c c ≡ 1·0 ⊘ p
  unfolding unit_row
  at-corner = ap (λ row. row c) own_row ∙ replace_same c (1·0 ⊘ p) (between 0 n (λ _. 0·0) (column_filled n known c w f c))

  pub at_row : (j : ℕ) → (j ≡ c → ⊥) → j < n → joined_table n known c t p f c j ≡ 0·0
  unfolding unit_row
  at_row j m l =
      let zeros = between 0 n (λ _. 0·0) (column_filled n known c w f c) in
      ap (λ row. row j) own_row ∙ replace_other c (1·0 ⊘ p) zeros j m ∙ between_in 0 n (λ _. 0·0) (column_filled n known c w f c) j zero-le l

  pub at-column : (i : ℕ) → (i ≡ c → ⊥) → i < n → known i ≡ true → joined_table n known c t p f i c ≡ sum_with known (λ l. f i l ⊗ factors_of n known t p (λ _. 0·0) l) n
  unfolding w
  at-column i m l k = ap (λ row. row c) (other_row i m l) ∙ column-at i (f i) k

  pub at_other : (i j : ℕ) → (i ≡ c → ⊥) → (j ≡ c → ⊥) → i < n → joined_table n known c t p f i j ≡ f i j
  at_other i j m o l = ap (λ row. row j) (other_row i m l) ∙ column_else i j (f i) o
