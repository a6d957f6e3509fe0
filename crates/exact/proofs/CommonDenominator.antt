-- One denominator for fractions that each have their own: the product.
use mathlib.Core.Path.{◌≡◌, subst}
use mathlib.Core.Logic.{inl, inr}
use Prim.Native.Nat.{ℕ, zero, suc, ◌*◌, ◌/◌, ◌<◌, ◌∣◌}
use native.Mathlib.Nat.{dvd-mul_right, dvd-mul_left_of_dvd, mul-div_cancel', mul-pos}
use native.Mathlib.Omega.{arith}
use Rattle.exact.specs.Chains.{In}
use Rattle.exact.proofs.Sums.{first, later, none_in, first_or_later}

-- p k · p (k+1) · … , m factors.
unfoldable pub product : (ℕ → ℕ) → ℕ → ℕ → ℕ
product p k zero = 1
product p k (suc m) = p k * product p (suc k) m

pub product-pos : (p : ℕ → ℕ) (k m : ℕ) → ((i : ℕ) → In k m i → 0 < p i) → 0 < product p k m
unfolding product
product-pos p k zero h = omega arith
product-pos p k (suc m) h = mul-pos (h k first) (product-pos p (suc k) m (λ i l. h i (later l)))

factor_divides : (p : ℕ → ℕ) (k m i : ℕ) → In k m i → p i ∣ product p k m
unfolding product
factor_divides p k zero i l = absurd (none_in l)
factor_divides p k (suc m) i l =
    elim (first_or_later l) [
      | inl e ↦ subst (λ x. p x ∣ p k * product p (suc k) m) e (dvd-mul_right (p k) (product p (suc k) m))
      | inr n ↦ dvd-mul_left_of_dvd (p i) (factor_divides p (suc k) m i n) (p k)
    ]

-- a / p_i is a · (product / p_i) over the product.
pub over-product : (p : ℕ → ℕ) (k m i : ℕ) → In k m i → p i * (product p k m / p i) ≡ product p k m
over-product p k m i l = mul-div_cancel' (p i) (factor_divides p k m i l)
