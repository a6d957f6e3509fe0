-- The exact inverse on the kept stages: k_i times the solution of the kept system, every column over one denominator.
use mathlib.Core.Path.{◌≡◌, ap, ◌∙◌}
use mathlib.Core.Bool.{Bool, true, false, cond}
use mathlib.Core.Logic.{◌≢◌}
use Prim.Native.Nat.{ℕ, ◌+◌, ◌*◌, ◌/◌, ◌<◌}
use native.Mathlib.Nat.{mul-pos}
use native.Mathlib.Omega.{arith}
use Rattle.exact.specs.Chains.{In}
use Rattle.exact.specs.Systems.{Solves}
use Rattle.exact.specs.Elimination.{Existence}
use Rattle.exact.proofs.Sums.{sum_cong, sum_scale, zero-sum}
use Rattle.exact.proofs.Elimination.{existence}
use Rattle.exact.proofs.CommonDenominator.{product, product-pos, over-product}
use Rattle.rounding.specs.Good.{one·units}
use Rattle.inverse.specs.Reduction.{delta}
use Rattle.inverse.specs.ExactRatios.{ExactRatios}
use Rattle.inverse.proofs.PartialSums.{delta_other}
use Rattle.margins_accuracy.proofs.MarginsExact.{exact_h, diagonal, beside, kept_rows, k-zero, h-zero, kept_out, kept_row}
use Rattle.margins_accuracy.proofs.MarginsJoins.{Part}
use Rattle.exact.proofs.Cases.{by_bool}

module _ {n : ℕ} {t : ℕ → ℕ → ℕ} {d : ℕ → ℕ} {D : ℕ} {K : ℕ → ℕ} (x : ExactRatios n t d D K) where
  -- The right side of column j, and the exact solution of the kept system with it: `answer j` over `over j`.
  abbrev pub right_side : ℕ → ℕ → ℕ
  right_side j i = delta i j (one·units * D)

  solution : (j : ℕ) → (c : ℕ) × (y : ℕ → ℕ) × (0 < c) × Solves 0 n (kept_rows x (right_side j)) c y
  unfolding Existence
  solution j = existence 0 n (kept_rows x (right_side j)) (kept_out x (right_side j))

  pub over : ℕ → ℕ
  over j = (solution j).0

  pub answer : ℕ → ℕ → ℕ
  answer j = (solution j).1

  over-pos : (j : ℕ) → 0 < over j
  unfolding over
  over-pos j = (solution j).2

  pub answer_solves : (j : ℕ) → Solves 0 n (kept_rows x (right_side j)) (over j) (answer j)
  unfolding over answer
  answer_solves j = (solution j).3

  -- One denominator for all columns, and what it is over each column's own.
  common : ℕ
  common = product over 0 n

  pub share : ℕ → ℕ
  share j = common / over j

  share_is : (j : ℕ) → j < n → over j * share j ≡ common
  unfolding common share
  share_is j l = over-product over 0 n j (omega arith)

  common_pos : 0 < common
  unfolding common
  common_pos = product-pos over 0 n (λ j l. over-pos j)

  pub start_over : ℕ
  start_over = D * common

  pub start-over : (j : ℕ) → j < n → over j * D * share j ≡ start_over
  unfolding start_over
  start-over j l = omega (arith, ap (λ v. D * v) (share_is j l))

  -- A test that tells the kept stages.
  pub record KeptTest (kept : ℕ → Bool) : Type 0 where
    pub yes_kept : (i : ℕ) → i < n → kept i ≡ true → 0 < exact_h x i
    pub not-kept : (i : ℕ) → i < n → kept i ≡ false → exact_h x i ≡ 0

  module _ (kept : ℕ → Bool) where
    pub start_table : ℕ → ℕ → ℕ
    start_table i j = cond (kept j) (K i * answer j i * share j) 0

    pub start-kept : (i j : ℕ) → kept j ≡ true → start_table i j ≡ K i * answer j i * share j
    unfolding start_table
    start-kept i j e = rw e

    start_unkept : (i j : ℕ) → kept j ≡ false → start_table i j ≡ 0
    unfolding start_table
    start_unkept i j e = rw e

    module _ (tells : KeptTest kept) where
      -- The row of a kept stage i in column j.
      RowEquation : ℕ → ℕ → Type 0
      RowEquation i j = diagonal x i * start_table i j ≡ delta i j (one·units * D) * start_over + beside x i (λ l. start_table l j)

      row-times :
          (a k d e c r s z x t : ℕ) → a * k ≡ d * (e * c) + r → c * d * s ≡ z → x ≡ k * s → t ≡ r * s → a * x ≡ e * z + t
      row-times a k d e c r s z x t f g i j = omega (arith, ap (λ y. y * s) f, ap (λ y. e * y) g, ap (λ y. a * y) i)

      kept-column : (i j : ℕ) → i < n → j < n → kept i ≡ true → kept j ≡ true → RowEquation i j
      unfolding RowEquation
      kept-column i j bi bj e f =
          let kept : K i ≡ 0 → right_side j i ≡ 0 = λ z. absurd (omega (arith, tells.yes_kept i bi e, h-zero x i bi z)) in
          let row = kept_row x (right_side j) (over j) (answer j) (answer_solves j) i bi kept in
          let scaled =
          sum_cong (λ l. t i l * D * start_table l j) (λ l. t i l * D * (K l * answer j l) * share j) 0 n same
          ∙ sum_scale (λ l. t i l * D * (K l * answer j l)) (share j) 0 n in
          row-times (diagonal x i) (K i * answer j i) D (right_side j i) (over j) (beside x i (λ l. K l * answer j l)) (share j)
          start_over (start_table i j) (beside x i (λ l. start_table l j)) row (start-over j bj) (start-kept i j f) scaled
        where
          same : (l : ℕ) → In 0 n l → t i l * D * start_table l j ≡ t i l * D * (K l * answer j l) * share j
          same l m = omega (arith, ap (λ v. t i l * D * v) (start-kept l j f))

      unkept_column : (i j : ℕ) → i < n → j < n → kept i ≡ true → kept j ≡ false → RowEquation i j
      unfolding RowEquation
      unkept_column i j bi bj e f =
          let d : i ≢ j = λ q. absurd (omega (arith, tells.yes_kept i bi e, tells.not-kept i bi (rw q f))) in
          let left = ap (λ v. diagonal x i * v) (start_unkept i j f) in
          let one = ap (λ v. v * start_over) (delta_other i j (one·units * D) d) in
          let right = zero-sum (λ l. t i l * D * start_table l j) 0 n none in
          omega arith
        where
          none : (l : ℕ) → In 0 n l → t i l * D * start_table l j ≡ 0
          none l m = omega (arith, ap (λ v. t i l * D * v) (start_unkept l j f))

      unkept_row : (i j : ℕ) → i < n → kept i ≡ false → start_table i j ≡ 0
      unkept_row i j b e =
          let z = k-zero x i b (tells.not-kept i b e) in
          by_bool (kept j)
          (λ f. start-kept i j f ∙ (omega (arith, ap (λ v. v * answer j i * share j) z)))
          (λ f. start_unkept i j f)

      pub start-part : Part x kept start_over start_table
      unfolding start_over RowEquation
      start-part =
          record {
            positive = mul-pos x.positive common_pos;
            empty_row = unkept_row;
            empty_column = λ i j b e. start_unkept i j e;
            row = λ i j bi bj e. by_bool (kept j) (kept-column i j bi bj e) (unkept_column i j bi bj e);
          }
