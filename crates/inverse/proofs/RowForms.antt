-- The exact matrices of the readings have their row forms.
use mathlib.Core.Path.{◌≡◌, refl, sym, ap}
use mathlib.Core.Logic.{◌≢◌}
use mathlib.Core.List.{List}
use mathlib.Core.Bool.{Bool, true, false, not, cond}
use Prim.Native.Nat.{ℕ, zero, suc, ◌+◌, ◌*◌, ◌≤◌, ◌<◌}
use native.Mathlib.Nat.{mul-pos}
use native.Mathlib.Omega.{arith}
use lib.Dec.{T, lit<, eqb, ltb, eqb→eq, ltb→lt}
use lib.Ieee.{Float}
use Rattle.exact.specs.Sums.{sum}
use Rattle.definitions.specs.Fractions.{Fraction, -ᶠ◌, ◌+ᶠ◌, ◌*ᶠ◌, ◌/ᶠ◌}
use Rattle.definitions.specs.Matrix.{row_sum, h_from, ratio_before, margin_sum, weighted_sum, exact_size, exact_diagonal, exact_weight, matrix}
use Rattle.rounding.specs.Good.{one·units}
use Rattle.inverse.specs.Reduction.{Ratio, delta}
use Rattle.inverse.specs.ExactRatios.{H, ExactRatios}
use Rattle.definitions.specs.Numbers.{units}
use Rattle.definitions.specs.Sheet.{weight}
use Rattle.exact.proofs.Sums.{sum_scale}
use Rattle.inverse.specs.RowForms.{InUnits, LeavingRatesRows, WeightedRows, MarginsRows}
use Rattle.inverse.proofs.PartialSums.{not_equal, sum_except, sum_below, sum_above}
use Rattle.rounding.proofs.Laws.{one-pos}
use Rattle.inverse.proofs.SignedFractions.{times, ratio_as, ratio_carry, ratio-neg, plain_both, plain_scale, plain_add, plain_mul, plain_div, plain_total, value-ratio}

-- A row with its diagonal entry and, off it, minus the size f_ij.
row-entry :
    (i j a c : ℕ) (x : Fraction) (f : ℕ → Fraction) (t : ℕ → ℕ)
    → Ratio x a (t i) c → (i ≢ j → Ratio (f j) (t j) 0 c)
    → Ratio (cond (eqb i j) x (-ᶠ f j)) (delta i j a) (t j) c
row-entry i j a c x f t on off = go (eqb i j) (eqb→eq i j) (not_equal i j)
  where
    go : (b : Bool) → (T b → i ≡ j) → (T (not b) → i ≢ j) → Ratio (cond b x (-ᶠ f j)) (cond b a 0) (t j) c
    go true e o = ratio_as on refl (ap t (e tt)) refl
    go false e o = ratio-neg (off (o tt))

-- Fractions f_ij, g_i that are t_ij, d_i over u.
module _
    (n : ℕ) (f : ℕ → ℕ → Fraction) (g : ℕ → Fraction) (t : ℕ → ℕ → ℕ) (d : ℕ → ℕ) (u : ℕ)
    (sizes : (i j : ℕ) → i < n → j < n → i ≢ j → Ratio (f i j) (t i j) 0 u)
    (diagonals : (i : ℕ) → i < n → Ratio (g i) (d i) 0 u)
  where
    row-sum : (i : ℕ) → i < n → Ratio (row_sum n f g i) (d i + sum (t i) 0 n) (t i i) u
    unfolding row_sum
    row-sum i l =
        let e = sum_except (t i) i n l in
        let r = plain_total (λ j. not (eqb i j)) (f i) (t i) u n (λ j h o. sizes i j l h (not_equal i j o)) in
        ratio_as (plain_both (t i i) (plain_add (diagonals i l) r)) (omega arith) refl refl

    -- The same with weights e_j that are x_j over u, and then divided by that of stage i.
    weighted_sum_lem : (e : ℕ → Fraction) (x : ℕ → ℕ) → 0 < u → ((j : ℕ) → j < n → Ratio (e j) (x j) 0 u) → ((j : ℕ) → j < n → 0 < x j)
        → (i : ℕ) → i < n → Ratio (weighted_sum n f g e i) (d i * u + sum (λ j. t i j * x j) 0 n) (t i i * x i) (u * x i)
    unfolding weighted_sum
    weighted_sum_lem e x k weights positive i l =
        let terms = plain_total (λ j. not (eqb i j)) (λ j. f i j *ᶠ e j) (λ j. t i j * x j) (u * u) n (λ j h o. plain_mul (sizes i j l h (not_equal i j o)) (weights j h)) in
        let whole = plain_div (mul-pos k k) k (positive i l) (plain_add (plain_scale u (diagonals i l)) terms) (weights i l) in
        let rest = sum (λ j. cond (not (eqb i j)) (t i j * x j) 0) 0 n in
        let all = sum_except (λ j. t i j * x j) i n l in
        let over : Ratio (weighted_sum n f g e i) (d i * u + rest) 0 (u * x i) = ratio_carry (mul-pos (mul-pos k k) (positive i l)) whole (omega arith) in
        ratio_as (plain_both (t i i * x i) over) (omega arith) refl refl

    -- h_i over u·D, from ratios K_j / D of the stages before i.
    h-from :
        (ratio : ℕ → Fraction) (D : ℕ) (K : ℕ → ℕ) (i : ℕ) → i < n
        → ((j : ℕ) → j < i → Ratio (ratio j) (K j) 0 D)
        → Ratio (h_from n f g ratio i) (H n t D K i) 0 (u * D)
    unfolding h_from H
    h-from ratio D K i l before =
        let low =
        plain_total (λ j. ltb j i) (λ j. f i j *ᶠ ratio j) (λ j. t i j * K j) (u * D) n
        (λ j h o. let b = ltb→lt j i o in plain_mul (sizes i j l h (omega arith)) (before j b)) in
        let high = plain_total (λ j. ltb i j) (f i) (t i) u n (λ j h o. let b = ltb→lt i j o in sizes i j l h (omega arith)) in
        let a = sum_below (λ j. t i j * K j) i n l in
        let b = times D (sum_above (t i) i n l) in
        ratio_as (plain_add low (plain_scale D high)) (omega arith) refl refl

    module _ (D : ℕ) (K : ℕ → ℕ) (k : 0 < u) (r : ExactRatios n t d D K) where
      u_d : 0 < u * D
      u_d = mul-pos k r.positive

      -- a_ii = d_i + h_i.
      margin_sum_lem :
          (ratio : ℕ → Fraction) (i : ℕ) → i < n
          → ((j : ℕ) → j < i → Ratio (ratio j) (K j) 0 D)
          → Ratio (g i +ᶠ h_from n f g ratio i) (d i * D + H n t D K i) 0 (u * D)
      margin_sum_lem ratio i l before =
          plain_add (plain_scale D (diagonals i l)) (h-from ratio D K i l before)

      new_ratio :
          (ratio : ℕ → Fraction) (i : ℕ) → i < n
          → ((j : ℕ) → j < i → Ratio (ratio j) (K j) 0 D)
          → Ratio (h_from n f g ratio i /ᶠ (g i +ᶠ h_from n f g ratio i)) (K i) 0 D
      new_ratio ratio i l before =
          let a : 0 < d i * D = mul-pos (r.margin i l) r.positive in
          let b : 0 < d i * D + H n t D K i = omega arith in
          ratio_carry (mul-pos u_d b)
          (plain_div u_d u_d b (h-from ratio D K i l before) (margin_sum_lem ratio i l before))
          (omega (arith, times (u * D) (r.each i l)))

      ratios_before : (i : ℕ) → i ≤ n → (j : ℕ) → j < i → Ratio (ratio_before n f g i j) (K j) 0 D
      unfolding ratio_before
      ratios_before zero l j o = absurd (omega arith)
      ratios_before (suc i) l j o =
          let before : (j : ℕ) → j < i → Ratio (ratio_before n f g i j) (K j) 0 D = ratios_before i (omega arith) in
          go (eqb j i) (new_ratio (ratio_before n f g i) i l before) (eqb→eq j i)
          (λ b. let ne = not_equal j i b in before j (omega arith))
        where
          go :
              {x y : Fraction} (b : Bool) → Ratio x (K i) 0 D → (T b → j ≡ i) → (T (not b) → Ratio y (K j) 0 D)
              → Ratio (cond b x y) (K j) 0 D
          go true h e r = ratio_as h (ap K (sym (e tt))) refl refl
          go false h e r = r tt

-- ---- the sheet
module _ (n : ℕ) (sheet : List Float) (t : ℕ → ℕ → ℕ) (d : ℕ → ℕ) (units_of : InUnits n sheet t d) where
  exact-size : (i j : ℕ) → i < n → j < n → i ≢ j → Ratio (exact_size n sheet i j) (t i j) 0 one·units
  unfolding exact_size
  exact-size i j l h o = ratio_as (value-ratio (units_of.size-good i j l h o)) (units_of.size-units i j l h o) refl refl

  exact-diagonal : (i : ℕ) → i < n → Ratio (exact_diagonal n sheet i) (d i) 0 one·units
  unfolding exact_diagonal
  exact-diagonal i l = ratio_as (value-ratio (units_of.diagonal-good i l)) (units_of.diagonal-units i l) refl refl

pub leaving_rates_rows : LeavingRatesRows
unfolding LeavingRatesRows matrix
leaving_rates_rows n sheet t s h =
    let f = exact_size n sheet in
    let g = exact_diagonal n sheet in
    let sizes = exact-size n sheet t s h in
    record {
      positive = λ i l. mul-pos one-pos (lit< tt);
      entry =
          λ i j l o.
          let all = sum_scale (t i) 1 0 n in
          row-entry i j (s i * 1 + sum (λ j. t i j * 1) 0 n) (one·units * 1) (row_sum n f g i) (f i) (λ j. t i j * 1)
          (ratio_as (row-sum n f g t s one·units sizes (exact-diagonal n sheet t s h) i l) (omega arith) (omega arith) (omega arith))
          (λ e. plain_scale 1 (sizes i j l o e));
    }

pub weighted_rows : WeightedRows
unfolding WeightedRows matrix exact_weight
weighted_rows n sheet t s h good positive =
    let f = exact_size n sheet in
    let g = exact_diagonal n sheet in
    let x : ℕ → ℕ = λ j. units (weight n sheet j) in
    let sizes = exact-size n sheet t s h in
    record {
      positive = λ i l. mul-pos one-pos (positive i l);
      entry =
          λ i j l o.
          row-entry i j (s i * one·units + sum (λ j. t i j * x j) 0 n) (one·units * x i) (weighted_sum n f g (exact_weight n sheet) i) (f i) (λ j. t i j * x i)
          (weighted_sum_lem n f g t s one·units sizes (exact-diagonal n sheet t s h) (exact_weight n sheet) x one-pos (λ j l. value-ratio (good j l)) positive i l)
          (λ e. plain_scale (x i) (sizes i j l o e));
    }

pub margins_rows : MarginsRows
unfolding MarginsRows matrix margin_sum
margins_rows n sheet t d D K h r =
    let f = exact_size n sheet in
    let g = exact_diagonal n sheet in
    let sizes = exact-size n sheet t d h in
    let diagonals = exact-diagonal n sheet t d h in
    let u = one-pos in
    record {
      positive = λ i l. mul-pos u r.positive;
      entry =
          λ i j l o.
          row-entry i j (d i * D + H n t D K i + t i i * D) (one·units * D) (margin_sum n f g i) (f i) (λ j. t i j * D)
          (plain_both (t i i * D)
          (margin_sum_lem n f g t d one·units sizes diagonals D K u r (ratio_before n f g i) i l
          (ratios_before n f g t d one·units sizes diagonals D K u r i (omega arith))))
          (λ e. plain_scale D (sizes i j l o e));
    }
