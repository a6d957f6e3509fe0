-- The exact side of the steps for margins: the kept system on all n stages, and what its solutions are to the matrix.
use mathlib.Core.Path.{◌≡◌, ap, ◌∙◌}
use mathlib.Core.Logic.{◌≢◌, inl, inr}
use Prim.Native.Nat.{ℕ, suc, ◌+◌, ◌*◌, ◌-◌, ◌<◌}
use native.Mathlib.Nat.{eq-zero-or-pos, mul-pos}
use native.Mathlib.Decide.{ℕ_discrete, dec_lt}
use native.Mathlib.Omega.{arith}
use Rattle.exact.specs.Chains.{In}
use Rattle.exact.specs.Sums.{sum}
use Rattle.exact.specs.Systems.{Equations, diag, mix, Solves, AllOut}
use Rattle.exact.proofs.Sums.{sum_cong, sum_scale, zero-sum}
use Rattle.inverse.specs.Reduction.{delta}
use Rattle.inverse.specs.ExactRatios.{H, ExactRatios}
use Rattle.inverse.specs.ExactScaled.{scaled, ScaledGetsOut}
use Rattle.inverse.proofs.ExactScaled.{ratio_laws, scaled_gets_out, scaled-diag, not-kept-low, not-kept_high}

module _ {n : ℕ} {t : ℕ → ℕ → ℕ} {d : ℕ → ℕ} {D : ℕ} {K : ℕ → ℕ} (x : ExactRatios n t d D K) where
  -- h_i and a_i over D; the diagonal of row i, and the row beside it.
  abbrev pub exact_h : ℕ → ℕ
  exact_h i = H n t D K i

  abbrev pub exact_a : ℕ → ℕ
  exact_a i = d i * D + H n t D K i

  abbrev pub diagonal : ℕ → ℕ
  diagonal i = d i * D + H n t D K i + t i i * D

  abbrev pub beside : ℕ → (ℕ → ℕ) → ℕ
  beside i z = sum (λ k. t i k * D * z k) 0 n

  pub a-pos : (i : ℕ) → i < n → 0 < exact_a i
  a-pos i l = omega (arith, mul-pos (x.margin i l) x.positive)

  -- 1 − k_i = d_i / a_i
  pub k-rest : (i : ℕ) → i < n → (D - K i) * exact_a i ≡ D * (d i * D)
  k-rest i l = (ratio_laws n t d D K x i l).complement

  pub k-zero : (i : ℕ) → i < n → exact_h i ≡ 0 → K i ≡ 0
  k-zero i l e = (ratio_laws n t d D K x i l).zero.0 e

  pub h-zero : (i : ℕ) → i < n → K i ≡ 0 → exact_h i ≡ 0
  h-zero i l e = (ratio_laws n t d D K x i l).zero.1 e

  -- A row that is not kept has sizes to earlier stages alone, which are not kept either.
  none_kept : (i j : ℕ) → exact_h i ≡ 0 → i < n → j < n → t i j * K j ≡ 0
  none_kept i j e l m =
      elim (dec_lt j i) [
        | yes b ↦ not-kept-low n t d D K x i e j b
        | no b ↦
            elim (ℕ_discrete j i) [
              | yes q ↦ omega (arith, ap (λ k. t i j * k) (ap K q ∙ k-zero i l e))
              | no q ↦ omega (arith, ap (λ s. s * K j) (not-kept_high n t d D K x i e j (omega arith)))
            ]
      ]

  pub leads_to : (i l : ℕ) → i < n → l < n → exact_h i ≡ 0 → i ≢ l → 0 < t i l → (l < i) × (exact_h l ≡ 0)
  leads_to i l hi hl e apart s = (earlier, unkept)
    where
      earlier : l < i
      earlier =
          elim (dec_lt l i) [ yes b ↦ b | no b ↦ absurd (omega (arith, not-kept_high n t d D K x i e l (omega arith))) ]

      unkept : exact_h l ≡ 0
      unkept =
          elim (eq-zero-or-pos (K l)) [
            | inl z ↦ h-zero l hl z
            | inr b ↦ absurd (omega (arith, none_kept i l e hi hl, mul-pos s b))
          ]

  -- The kept system with right sides b, on all n stages.
  abbrev pub exit_sum : ℕ → ℕ
  exit_sum i = sum (λ j. t i j * (D - K j)) (suc i) (n - suc i)

  abbrev pub kept_rows : (ℕ → ℕ) → Equations
  kept_rows b i = record { size = λ j. t i j * K j; exit = exit_sum i + delta (K i) 0 1; right = b i }

  pub kept_out : (b : ℕ → ℕ) → AllOut 0 n (kept_rows b)
  unfolding ScaledGetsOut scaled
  kept_out b = let o = scaled_gets_out n t d D K x in record { out = λ i l. o.out i l }

  kept-diag : (b : ℕ → ℕ) (i : ℕ) → i < n → K i ≢ 0 → diag 0 n (kept_rows b i) ≡ exact_h i + t i i * K i
  unfolding diag scaled
  kept-diag b i l o = scaled-diag n t d D K x i l o

  -- A solution y of it over c gives K_i y_i over c: the rows of the matrix hold for it, those not kept too.
  module _ (b : ℕ → ℕ) (c : ℕ) (y : ℕ → ℕ) (s : Solves 0 n (kept_rows b) c y) where
    beside-mix : (i : ℕ) → beside i (λ l. K l * y l) ≡ mix 0 n (kept_rows b i) y * D
    unfolding mix
    beside-mix i =
        sum_cong (λ l. t i l * D * (K l * y l)) (λ l. t i l * K l * y l * D) 0 n (λ l m. omega arith)
        ∙ sum_scale (λ l. t i l * K l * y l) D 0 n

    none_beside : (i : ℕ) → i < n → exact_h i ≡ 0 → mix 0 n (kept_rows b i) y ≡ 0
    unfolding mix
    none_beside i l e = zero-sum (λ l. t i l * K l * y l) 0 n none
      where
        none : (j : ℕ) → In 0 n j → t i j * K j * y j ≡ 0
        none j m = omega (arith, ap (λ s. s * y j) (none_kept i j e l (omega arith)))

    kept_case :
        (a k y D h b c m s u : ℕ) → k * a ≡ D * h → (h + u * k) * y ≡ b * c + m → s ≡ m * D
        → (a + u * D) * (k * y) ≡ D * (b * c) + s
    kept_case a k y D h b c m s u e f g = omega (arith, ap (λ v. v * y) e, ap (λ v. D * v) f)

    other_case : (a k y D b c m s : ℕ) → k ≡ 0 → b ≡ 0 → m ≡ 0 → s ≡ m * D → a * (k * y) ≡ D * (b * c) + s
    other_case a k y D b c m s e f g i =
        omega (arith, ap (λ v. a * (v * y)) e, ap (λ v. D * (v * c)) f, ap (λ v. v * D) g)

    pub kept_row :
        (i : ℕ) → i < n → (K i ≡ 0 → b i ≡ 0) → diagonal i * (K i * y i) ≡ D * (b i * c) + beside i (λ l. K l * y l)
    kept_row i l z =
        let m = mix 0 n (kept_rows b i) y in
        let v = beside i (λ l. K l * y l) in
        elim (ℕ_discrete (K i) 0) [
          | yes e ↦
              other_case (diagonal i) (K i) (y i) D (b i) c m v e (z e) (none_beside i l (h-zero i l e)) (beside-mix i)
          | no o ↦
              let row = rw (kept-diag b i l o) at (s.row i (omega arith)) in
              kept_case (exact_a i) (K i) (y i) D (exact_h i) (b i) c m v (t i i) (x.each i l) row (beside-mix i)
        ]
