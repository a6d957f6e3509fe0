-- Joins on the exact side: the inverse on the known stages, zero elsewhere, and one more stage that joins them.
use mathlib.Core.Path.{◌≡◌, refl, sym, ap, ◌∙◌}
use mathlib.Core.Bool.{Bool, true, false, true≢false, cond}
use mathlib.Core.Logic.{◌≢◌, inl, inr}
use Prim.Native.Nat.{ℕ, ◌+◌, ◌*◌, ◌<◌}
use native.Mathlib.Nat.{eq-zero-or-pos, mul-pos, mul_comm, zero-mul, mul-zero}
use native.Mathlib.Decide.{ℕ_discrete}
use native.Mathlib.Omega.{arith}
use lib.Dec.{eqb}
use borrow.Author.Tests.{eq-eqb, ne_eqb}
use Rattle.exact.specs.Chains.{In}
use Rattle.exact.specs.Sums.{sum}
use Rattle.exact.proofs.Sums.{sum-add, sum_cong, sum_scale, sum_swap, sum-single, zero-sum}
use Rattle.rounding.specs.Good.{one·units}
use Rattle.inverse.specs.Reduction.{delta}
use Rattle.inverse.specs.ExactRatios.{ExactRatios}
use Rattle.inverse.proofs.PartialSums.{delta_same, delta_other, sum-delta}
use Rattle.margins_accuracy.proofs.MarginsExact.{exact_a, diagonal, beside, a-pos}

-- A delta the other way round in a sum.
sum-delta-left : (j c n : ℕ) (f : ℕ → ℕ) → j < n → sum (λ k. f k * delta k j c) 0 n ≡ f j * c
sum-delta-left j c n f b =
    sum-single (λ k. f k * delta k j c) 0 n j (omega arith)
    (λ k m e. ap (λ s. f k * s) (delta_other k j c (λ g. e (sym g))) ∙ mul-zero (f k))
    ∙ ap (λ s. f j * s) (delta_same j c)

-- X over Z is the inverse on the known stages: the row of a known stage holds in every column, and X is zero unless both
-- stages are known.
pub record Part
    {n : ℕ} {t : ℕ → ℕ → ℕ} {d : ℕ → ℕ} {D : ℕ} {K : ℕ → ℕ} (x : ExactRatios n t d D K)
    (known : ℕ → Bool) (Z : ℕ) (X : ℕ → ℕ → ℕ) : Type 0 where
  pub positive : 0 < Z
  pub empty_row : (i j : ℕ) → i < n → known i ≡ false → X i j ≡ 0
  pub empty_column : (i j : ℕ) → j < n → known j ≡ false → X i j ≡ 0
  pub row :
      (i j : ℕ) → i < n → j < n → known i ≡ true
      → diagonal x i * X i j ≡ delta i j (one·units * D) * Z + beside x i (λ l. X l j)

module _
    {n : ℕ} {t : ℕ → ℕ → ℕ} {d : ℕ → ℕ} {D : ℕ} {K : ℕ → ℕ} {x : ExactRatios n t d D K}
    {known : ℕ → Bool} {Z : ℕ} {X : ℕ → ℕ → ℕ} where
  -- The same stages known, by another test.
  pub part_same : {known' : ℕ → Bool} → ((i : ℕ) → i < n → known' i ≡ known i) → Part x known Z X → Part x known' Z X
  part_same same p =
      record {
        positive = p.positive;
        empty_row = λ i j b e. p.empty_row i j b (sym (same i b) ∙ e);
        empty_column = λ i j b e. p.empty_column i j b (sym (same j b) ∙ e);
        row = λ i j bi bj e. p.row i j bi bj (sym (same i bi) ∙ e);
      }

  -- Stage c joins, whose sizes lead to stages that are not known: X_cc = 1 / a_c, X_ic = Σ_l X_il t_lc / a_c, all over Z·a_c.
  module _
      (part : Part x known Z X) (c : ℕ) (below : c < n) (unknown : known c ≡ false)
      (away : (l : ℕ) → l < n → c ≢ l → 0 < t c l → known l ≡ false) where
    abbrev pub column_sum : ℕ → ℕ
    column_sum i = sum (λ l. X i l * (t l c * D)) 0 n

    abbrev pub corner : ℕ
    corner = Z * (one·units * D)

    pub joined : ℕ → ℕ → ℕ
    joined i j = cond (eqb j c) (column_sum i + delta i c corner) (X i j * exact_a x c)

    in_column : (i j : ℕ) → j ≡ c → joined i j ≡ column_sum i + delta i c corner
    unfolding joined
    in_column i j e = rw (eq-eqb j c e)

    pub joined_other : (i j : ℕ) → j ≢ c → joined i j ≡ X i j * exact_a x c
    unfolding joined
    joined_other i j e = rw (ne_eqb j c e)

    no_sum : (i : ℕ) → i < n → known i ≡ false → column_sum i ≡ 0
    no_sum i b e = zero-sum (λ l. X i l * (t l c * D)) 0 n none
      where
        none : (l : ℕ) → In 0 n l → X i l * (t l c * D) ≡ 0
        none l m = ap (λ s. s * (t l c * D)) (part.empty_row i l b e) ∙ zero-mul (t l c * D)

    pub joined-corner : (i j : ℕ) → i ≡ c → j ≡ c → joined i j ≡ corner
    joined-corner i j e f =
        in_column i j f
        ∙ ap (λ i. column_sum i + delta i c corner) e
        ∙ (omega (arith, no_sum c below unknown, delta_same c corner))

    pub joined-column : (i j : ℕ) → i ≢ c → j ≡ c → joined i j ≡ column_sum i
    joined-column i j e f = in_column i j f ∙ (omega (arith, delta_other i c corner e))

    pub joined-row : (i j : ℕ) → i ≡ c → j ≢ c → joined i j ≡ 0
    joined-row i j e f =
        joined_other i j f
        ∙ ap (λ s. s * exact_a x c) (ap (λ i. X i j) e ∙ part.empty_row c j below unknown)
        ∙ zero-mul (exact_a x c)

    joined_unknown : (i j : ℕ) → i < n → known i ≡ false → i ≢ c → joined i j ≡ 0
    joined_unknown i j b e o =
        elim (ℕ_discrete j c) [
          | yes q ↦ joined-column i j o q ∙ no_sum i b e
          | no q ↦ joined_other i j q ∙ ap (λ s. s * exact_a x c) (part.empty_row i j b e) ∙ zero-mul (exact_a x c)
        ]

    -- Row i beside the diagonal, in an old column and in the new one.
    beside_other : (i j : ℕ) → j ≢ c → beside x i (λ l. joined l j) ≡ beside x i (λ l. X l j) * exact_a x c
    beside_other i j e =
        sum_cong (λ l. t i l * D * joined l j) (λ l. t i l * D * X l j * exact_a x c) 0 n
        (λ l m. omega (arith, ap (λ s. t i l * D * s) (joined_other l j e)))
        ∙ sum_scale (λ l. t i l * D * X l j) (exact_a x c) 0 n

    -- Σ_m t_im Σ_l X_ml t_lc
    twice : ℕ → ℕ
    twice i = sum (λ m. t i m * D * column_sum m) 0 n

    beside_new : (i : ℕ) → beside x i (λ l. joined l c) ≡ twice i + t i c * D * corner
    unfolding twice
    beside_new i =
        let sums : ℕ → ℕ = λ m. t i m * D * column_sum m in
        let corners : ℕ → ℕ = λ m. t i m * D * delta m c corner in
        sum_cong (λ m. t i m * D * joined m c) (λ m. sums m + corners m) 0 n
        (λ m b. omega (arith, ap (λ s. t i m * D * s) (in_column m c refl)))
        ∙ sum-add sums corners 0 n
        ∙ ap (λ s. sum sums 0 n + s) (sum-delta-left c corner n (λ m. t i m * D) below)

    -- The same from the rows of the old columns: Σ_l (A X)_il t_lc.
    twice_other : (i : ℕ) → sum (λ l. beside x i (λ m. X m l) * (t l c * D)) 0 n ≡ twice i
    unfolding twice
    twice_other i =
        let term : ℕ → ℕ → ℕ = λ l m. t i m * D * X m l * (t l c * D) in
        sum_cong (λ l. beside x i (λ m. X m l) * (t l c * D)) (λ l. sum (term l) 0 n) 0 n
        (λ l b. sym (sum_scale (λ m. t i m * D * X m l) (t l c * D) 0 n))
        ∙ sum_swap term 0 n 0 n
        ∙ sum_cong (λ m. sum (λ l. term l m) 0 n) (λ m. t i m * D * column_sum m) 0 n (λ m b. inner m)
      where
        inner : (m : ℕ) → sum (λ l. t i m * D * X m l * (t l c * D)) 0 n ≡ t i m * D * column_sum m
        inner m =
            sum_cong (λ l. t i m * D * X m l * (t l c * D)) (λ l. X m l * (t l c * D) * (t i m * D)) 0 n (λ l b. omega arith)
            ∙ sum_scale (λ l. X m l * (t l c * D)) (t i m * D) 0 n
            ∙ mul_comm (column_sum m) (t i m * D)

    images : (i : ℕ) → i < n → known i ≡ true → diagonal x i * column_sum i ≡ one·units * D * (Z * (t i c * D)) + twice i
    images i b e =
        mul_comm (diagonal x i) (column_sum i)
        ∙ sym (sum_scale (λ l. X i l * (t l c * D)) (diagonal x i) 0 n)
        ∙ sum_cong (λ l. X i l * (t l c * D) * diagonal x i) (λ l. one l + rest l) 0 n split
        ∙ sum-add one rest 0 n
        ∙ ap (λ s. s + sum rest 0 n) (sum-delta i (one·units * D) n (λ l. Z * (t l c * D)) b)
        ∙ ap (λ s. one·units * D * (Z * (t i c * D)) + s) (twice_other i)
      where
        one : ℕ → ℕ
        one l = delta i l (one·units * D) * (Z * (t l c * D))

        rest : ℕ → ℕ
        rest l = beside x i (λ m. X m l) * (t l c * D)

        term : (x s a e z r : ℕ) → a * x ≡ e * z + r → x * s * a ≡ e * (z * s) + r * s
        term x s a e z r f = omega (arith, ap (λ v. v * s) f)

        split : (l : ℕ) → In 0 n l → X i l * (t l c * D) * diagonal x i ≡ one l + rest l
        split l m =
            term (X i l) (t l c * D) (diagonal x i) (delta i l (one·units * D)) Z (beside x i (λ m. X m l))
            (part.row i l b (omega arith) e)

    -- The row of c, where its own place alone is left beside the diagonal, and the rows of the stages known before.
    RowEquation : ℕ → ℕ → Type 0
    RowEquation i j = diagonal x i * joined i j ≡ delta i j (one·units * D) * (Z * exact_a x c) + beside x i (λ l. joined l j)

    beside-own : (j : ℕ) → beside x c (λ l. joined l j) ≡ t c c * D * joined c j
    beside-own j = sum-single (λ l. t c l * D * joined l j) 0 n c (omega arith) (λ l m e. none l (omega arith) e)
      where
        none : (l : ℕ) → l < n → c ≢ l → t c l * D * joined l j ≡ 0
        none l b e =
            elim (eq-zero-or-pos (t c l)) [
              | inl z ↦ omega (arith, ap (λ s. s * D * joined l j) z)
              | inr p ↦
                  ap (λ s. t c l * D * s) (joined_unknown l j b (away l b e p) (λ f. e (sym f))) ∙ mul-zero (t c l * D)
            ]

    own_row : (a u D j e z s : ℕ) → a * j ≡ e * z → s ≡ u * D * j → (a + u * D) * j ≡ e * z + s
    own_row a u D j e z s f g = omega arith

    new_row : (j : ℕ) → j < n → RowEquation c j
    unfolding RowEquation
    new_row j b =
        own_row (exact_a x c) (t c c) D (joined c j) (delta c j (one·units * D)) (Z * exact_a x c) (beside x c (λ l. joined l j))
        (place (ℕ_discrete j c)) (beside-own j)
      where
        place : Dec (j ≡ c) → exact_a x c * joined c j ≡ delta c j (one·units * D) * (Z * exact_a x c)
        place (yes e) =
            let v = ap (λ s. exact_a x c * s) (joined-corner c j refl e) in
            let w = ap (λ s. s * (Z * exact_a x c)) (ap (λ j. delta c j (one·units * D)) e ∙ delta_same c (one·units * D)) in
            omega arith
        place (no e) =
            let v = ap (λ s. exact_a x c * s) (joined-row c j refl e) in
            let w = ap (λ s. s * (Z * exact_a x c)) (delta_other c j (one·units * D) (λ f. e (sym f))) in
            omega arith

    old_row : (i j : ℕ) → i < n → j < n → known i ≡ true → i ≢ c → RowEquation i j
    unfolding RowEquation
    old_row i j bi bj e o =
        elim (ℕ_discrete j c) [
          | yes f ↦
              let v = ap (λ s. diagonal x i * s) (joined-column i c o refl) in
              let w = ap (λ s. s * (Z * exact_a x c)) (delta_other i c (one·units * D) o) in
              rw f (omega (arith, images i bi e, beside_new i))
          | no f ↦
              row-times (diagonal x i) (X i j) (exact_a x c) (delta i j (one·units * D)) Z (beside x i (λ l. X l j))
              (joined i j) (beside x i (λ l. joined l j)) (part.row i j bi bj e) (joined_other i j f) (beside_other i j f)
        ]
      where
        row-times : (a x c e z r y s : ℕ) → a * x ≡ e * z + r → y ≡ x * c → s ≡ r * c → a * y ≡ e * (z * c) + s
        row-times a x c e z r y s f g h = omega (arith, ap (λ v. v * c) f, ap (λ v. a * v) g)

    -- The stages known before, and c with them.
    pub join_part :
        {known' : ℕ → Bool} → ((i : ℕ) → i < n → i ≢ c → known' i ≡ known i) → known' c ≡ true
        → Part x known' (Z * exact_a x c) joined
    unfolding RowEquation
    join_part {known'} same new =
        record {
          positive = mul-pos part.positive (a-pos x c below);
          empty_row = λ i j b e. let o = apart i e in joined_unknown i j b (sym (same i b o) ∙ e) o;
          empty_column =
              λ i j b e.
              let o = apart j e in
              let none = part.empty_column i j b (sym (same j b o) ∙ e) in
              joined_other i j o ∙ ap (λ s. s * exact_a x c) none ∙ zero-mul (exact_a x c);
          row = λ i j bi bj e. by_stage i j bi bj e (ℕ_discrete i c);
        }
      where
        apart : (i : ℕ) → known' i ≡ false → i ≢ c
        apart i e f = true≢false (sym new ∙ ap known' (sym f) ∙ e)

        by_stage : (i j : ℕ) → i < n → j < n → known' i ≡ true → Dec (i ≡ c) → RowEquation i j
        by_stage i j bi bj e (yes f) = rw f (new_row j bj)
        by_stage i j bi bj e (no o) = old_row i j bi bj (sym (same i bi o) ∙ e) o
