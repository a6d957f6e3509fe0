-- Numbers times 2^c: ratios stay as they are, and products with the same factor, sums and steps x + m·y are times 2^c too.
use Prim.Native.Nat.{ℕ, zero, suc, ◌+◌, ◌≤◌, ◌<◌}
use native.Mathlib.Nat.{zero-add, add-zero}
use native.Mathlib.Omega.{arith}
use mathlib.Core.Bool.{Bool, true}
use mathlib.Core.Path.{◌≡◌, refl, ap, ◌∙◌, subst}
use lib.Dec.{T}
use lib.IntN.{pos}
use lib.Ieee.{Float}
use Rattle.exact.proofs.Cases.{by_bool}
use Rattle.definitions.specs.Numbers.{◌⊕◌, ◌⊗◌, ◌⊘◌, 0·0, is_zero, add_in_range, mul_in_range, div_in_range, add_product_in_range, sum, sum_in_range}
use Rattle.definitions.specs.Margins.{sum_with, sum_with_in_range}
use Rattle.rounding.specs.Good.{Good}
use Rattle.rounding.specs.Scaling.{Scaled}
use Rattle.rounding.proofs.Laws.{zero_is_good, product_cases, quotient_cases, divisor_above_zero}
use Rattle.rounding.proofs.RoundedSums.{range_before, range_last}
use Rattle.rounding.proofs.Scaling.{scaled-none, scaled-zero, sum_scales, product_scales, divisor_scales, quotient_of_scaled}
use Rattle.rounding.proofs.TimesPower.{times_is_zero, scaled_is_times_power}
use Rattle.steps.proofs.AddProduct.{product_of_step, addition_of_step}
use Rattle.steps.proofs.FloatSums.{sum_with-none, sum_with-add, sum_with_pass, with_range_before, with_range_last}

-- All that a term has to do in a sum: sums that are times 2^c stay so.
pub record Adds (c : ℕ) (y y' : Float) : Type 0 where
  pub to : {x x' : Float} → Scaled c x x' → T (add_in_range x' y') → Scaled c (x ⊕ y) (x' ⊕ y')

module _ {c : ℕ} where
  pub zero-scaled : Scaled c 0·0 0·0
  zero-scaled = scaled-zero c 0·0 0·0 zero_is_good zero_is_good refl refl

  pub zero_test : {x x' : Float} → Scaled c x x' → is_zero x' ≡ is_zero x
  zero_test {x} {x'} s = ap is_zero (scaled_is_times_power c x x' s) ∙ times_is_zero (pos c) x

  -- The divisor is not zero, since the quotient is finite.
  pub same_ratio : {x x' y y' : Float} → Scaled c x x' → Scaled c y y' → T (div_in_range x y) → x' ⊘ y' ≡ x ⊘ y
  same_ratio {x} {x'} {y} {y'} s r t =
      quotient_of_scaled c x x' y y' s r (divisor_above_zero s.from r.from (quotient_cases x y t).0)

  -- x / y' is the smaller quotient.
  pub smaller_quotient : {x y y' : Float} → Good x → Scaled c y y' → T (div_in_range x y) → T (div_in_range x y') → Scaled c (x ⊘ y') (x ⊘ y)
  smaller_quotient {x} {y} {y'} g s t t' = divisor_scales c x y y' g s t' (quotient_cases x y t).0

  pub product-scaled : {x x' m : Float} → Scaled c x x' → Good m → T (mul_in_range x m) → T (mul_in_range x' m) → Scaled c (x ⊗ m) (x' ⊗ m)
  product-scaled {x} {x'} {m} s g t t' = subst (λ k. Scaled k (x ⊗ m) (x' ⊗ m)) (add-zero c) (product_scales c 0 x x' m m s (scaled-none g) t (product_cases x' m t').0)

  pub factor_scaled : {m y y' : Float} → Good m → Scaled c y y' → T (mul_in_range m y) → T (mul_in_range m y') → Scaled c (m ⊗ y) (m ⊗ y')
  factor_scaled {m} {y} {y'} g s t t' = subst (λ k. Scaled k (m ⊗ y) (m ⊗ y')) (zero-add c) (product_scales 0 c m m y y' (scaled-none g) s t (product_cases m y' t').0)

  pub step_scaled : {x x' m y y' : Float} → Scaled c x x' → Good m → Scaled c y y' → T (add_product_in_range x m y) → T (add_product_in_range x' m y')
      → Scaled c (x ⊕ m ⊗ y) (x' ⊕ m ⊗ y')
  step_scaled {x} {x'} {m} {y} {y'} s g r t t' =
      sum_scales c x x' (m ⊗ y) (m ⊗ y') s (factor_scaled g r (product_of_step x m y t) (product_of_step x' m y' t')) (addition_of_step x' m y' t')

  -- Sums, of the larger terms in range.
  pub adds_scaled : {y y' : Float} → Scaled c y y' → Adds c y y'
  adds_scaled {y} {y'} r = record { to = λ {x} {x'} s t. sum_scales c x x' y y' s r t }

  pub sum_adds : {start start' : Float} {f f' : ℕ → Float} (lo m : ℕ) → Scaled c start start'
      → ((i : ℕ) → lo ≤ i → i < lo + m → Adds c (f i) (f' i)) → T (sum_in_range start' f' lo m)
      → Scaled c (sum start f lo m) (sum start' f' lo m)
  unfolding sum
  sum_adds lo zero s h t = s
  sum_adds {start} {start'} {f} {f'} lo (suc m) s h t =
      (h (lo + m) (omega arith) (omega arith)).to (sum_adds lo m s (λ i l u. h i l (omega arith)) (range_before start' f' lo m t)) (range_last start' f' lo m t)

  pub sum-scaled : {start start' : Float} {f f' : ℕ → Float} (lo m : ℕ) → Scaled c start start'
      → ((i : ℕ) → lo ≤ i → i < lo + m → Scaled c (f i) (f' i)) → T (sum_in_range start' f' lo m)
      → Scaled c (sum start f lo m) (sum start' f' lo m)
  sum-scaled lo m s h t = sum_adds lo m s (λ i l u. adds_scaled (h i l u)) t

  pub sum_with-scaled : (test : ℕ → Bool) {f f' : ℕ → Float} (n : ℕ) → ((l : ℕ) → l < n → test l ≡ true → Scaled c (f l) (f' l))
      → T (sum_with_in_range test f' n) → Scaled c (sum_with test f n) (sum_with test f' n)
  sum_with-scaled test {f} {f'} zero h t = rw (sum_with-none test f, sum_with-none test f') zero-scaled
  sum_with-scaled test {f} {f'} (suc n) h t =
      let before = sum_with-scaled test {f = f} {f' = f'} n (λ l b. h l (omega arith)) (with_range_before test f' n t) in
      by_bool (test n)
      (λ e.
      rw (sum_with-add test f n e, sum_with-add test f' n e)
      (sum_scales c (sum_with test f n) (sum_with test f' n) (f n) (f' n) before (h n (omega arith) e) (with_range_last test f' n e t)))
      (λ e. rw (sum_with_pass test f n e, sum_with_pass test f' n e) before)
