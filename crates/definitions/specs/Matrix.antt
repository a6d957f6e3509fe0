-- The exact matrix A behind a sheet, and its inverse (document 01, "The sheet and its two readings"; document 02, U10).
use Rattle.std.specs.Prelude.{ℕ, zero, suc, ◌<◌, Bool, true, not, cond, List, T, eqb, ltb, Float}
use Rattle.definitions.specs.Fractions.{Fraction, ◌≈◌, whole, -ᶠ◌, ◌+ᶠ◌, ◌*ᶠ◌, ◌/ᶠ◌, value, total}
use Rattle.definitions.specs.Sheet.{by_reading, size, diagonal, weight}

-- Exact sizes t and diagonal parameters s or d of n stages.
module _ (n : ℕ) (t : ℕ → ℕ → Fraction) (d : ℕ → Fraction) where
  -- Reading 1: "The exact a_ii is s_i plus all t_ij of the row."
  unfoldable pub row_sum : ℕ → Fraction
  row_sum i = d i +ᶠ total (λ j. not (eqb i j)) (t i) n

  -- Reading 2, source 000, formula (1): "h_i is the sum of t_ij·h_j/a_jj over j < i, plus the sum of t_ij over j > i".
  unfoldable pub h_from : (ℕ → Fraction) → ℕ → Fraction
  h_from ratio i = total (λ j. ltb j i) (λ j. t i j *ᶠ ratio j) n +ᶠ total (λ j. ltb i j) (t i) n

  -- The h_j / a_jj of the stages before i, with formula (2): "a_ii = d_i + h_i".
  unfoldable pub ratio_before : ℕ → ℕ → Fraction
  ratio_before zero j = whole 0
  ratio_before (suc i) j = cond (eqb j i) (h_from (ratio_before i) i /ᶠ (d i +ᶠ h_from (ratio_before i) i)) (ratio_before i j)

  unfoldable pub margin_sum : ℕ → Fraction
  margin_sum i = d i +ᶠ h_from (ratio_before i) i

  -- Reading 3, with weights z: "The exact a_ii is s_i plus all t_ij·z_j, divided by z_i."
  unfoldable pub weighted_sum : (ℕ → Fraction) → ℕ → Fraction
  weighted_sum z i = (d i +ᶠ total (λ j. not (eqb i j)) (λ j. t i j *ᶠ z j) n) /ᶠ z i

-- The sheet's sizes, diagonal and weights as fractions.
unfoldable pub exact_size : ℕ → List Float → ℕ → ℕ → Fraction
exact_size n sheet i j = value (size n sheet i j)

unfoldable pub exact_diagonal : ℕ → List Float → ℕ → Fraction
exact_diagonal n sheet i = value (diagonal n sheet i)

unfoldable pub exact_weight : ℕ → List Float → ℕ → Fraction
exact_weight n sheet j = value (weight n sheet j)

-- A: off the diagonal "zero or negative, minus the rate"; on it a_ii under the sheet's reading.
unfoldable pub matrix : ℕ → ℕ → List Float → ℕ → ℕ → Fraction
matrix reading n sheet i j =
    let first = row_sum n (exact_size n sheet) (exact_diagonal n sheet) i in
    let second = margin_sum n (exact_size n sheet) (exact_diagonal n sheet) i in
    let third = weighted_sum n (exact_size n sheet) (exact_diagonal n sheet) (exact_weight n sheet) i in
    cond (eqb i j) (by_reading reading first second third) (-ᶠ exact_size n sheet i j)

-- A stage below n that takes part.
pub record Stage (n : ℕ) (on : ℕ → Bool) (i : ℕ) : Type 0 where
  pub below : i < n
  pub part : T (on i)

abbrev pub every_stage : ℕ → Bool
every_stage i = true

-- "It is the matrix X for which A times X is the identity", over the stages that take part.
unfoldable pub Inverse : ℕ → (ℕ → Bool) → (ℕ → ℕ → Fraction) → (ℕ → ℕ → Fraction) → Type 0
Inverse n on A X =
    (i j : ℕ) → Stage n on i → Stage n on j → total on (λ k. A i k *ᶠ X k j) n ≈ cond (eqb i j) (whole 1) (whole 0)
