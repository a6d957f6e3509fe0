-- Numbers near fractions: a sum and a product of two of them, counted in roundings.
use Prim.Native.Nat.{ℕ, suc, ◌+◌, ◌*◌, ◌≤◌}
use native.Mathlib.Nat.{mul-pos, mul_comm, zero-mul, mul-zero}
use native.Mathlib.Omega.{arith}
use mathlib.Core.Path.{refl, subst, subst₂}
use lib.Dec.{T}
use lib.Ieee.{Float}
use Rattle.exact.specs.Near.{Near}
use Rattle.exact.proofs.Near.{near_eq, near_trans, near_grow, near_scale, near_add}
use Rattle.definitions.specs.Numbers.{◌⊕◌, ◌⊗◌, 0·0, is_zero, add_in_range, mul_in_range, units}
use Rattle.definitions.specs.Fractions.{Fraction, whole, ◌+ᶠ◌, ◌*ᶠ◌, value}
use Rattle.rounding.specs.Good.{Good, one·units}
use Rattle.rounding.proofs.Laws.{one-pos, zero_is_good, units-zero, sum-good, sum_rounds, product-good, product_rounds}
use Rattle.rounding.proofs.Zeros.{zero_plus}
use Rattle.inverse.specs.Reduction.{Ratio, NearFraction}
use Rattle.inverse.proofs.SignedFractions.{ratio_as, plain_add, plain_mul, plain_scale, whole-ratio, value-ratio, zero-ratio}

pub near_more : {e f : ℕ} {x : Float} {y : Fraction} → e ≤ f → NearFraction e x y → NearFraction f x y
near_more l a = record { z = a.z; d = a.d; positive = a.positive; ratio = a.ratio; good = a.good; near = near_grow l a.near }

-- Two fractions over the product of their denominators.
ratio-sum : {x y : Fraction} {p d p' d' : ℕ} → Ratio x p 0 d → Ratio y p' 0 d' → Ratio (x +ᶠ y) (p * d' + p' * d) 0 (d * d')
ratio-sum {d = d} {d' = d'} r s = plain_add (plain_scale d' r) (ratio_as (plain_scale d s) refl refl (mul_comm d' d))

-- A sum has one rounding more.
sum_count : (e s a b z w d c o : ℕ) → Near 1 s (a + b) → Near e (a * d) (z * o) → Near e (b * c) (w * o) → Near (suc e) (s * (d * c)) ((z * c + w * d) * o)
sum_count e s a b z w d c o r f g =
    let terms : Near e ((a + b) * (d * c)) ((z * c + w * d) * o) =
    subst₂ (Near e) (omega arith) (omega arith) (near_add (near_scale c f) (near_scale d g)) in
    near_grow {e = 1 + e} (omega arith) (near_trans (near_scale (d * c) r) terms)

pub near_plus : {e : ℕ} {x y : Float} {p q : Fraction} → NearFraction e x p → NearFraction e y q → T (add_in_range x y) → NearFraction (suc e) (x ⊕ y) (p +ᶠ q)
near_plus {e} {x} {y} a b t =
    record {
      z = a.z * b.d + b.z * a.d;
      d = a.d * b.d;
      positive = mul-pos a.positive b.positive;
      ratio = ratio-sum a.ratio b.ratio;
      good = sum-good a.good b.good t;
      near = sum_count e (units (x ⊕ y)) (units x) (units y) a.z b.z a.d b.d one·units (sum_rounds x y a.good b.good t).near a.near b.near;
    }

-- One with plus zero has none.
pub near_first : {e : ℕ} {x : Float} {p : Fraction} → NearFraction e x p → NearFraction e (0·0 ⊕ x) (whole 0 +ᶠ p)
near_first {x = x} a =
    rw (zero_plus a.good)
    record { z = a.z; d = a.d; positive = a.positive; ratio = ratio_as (ratio-sum (whole-ratio 0) a.ratio) (omega arith) refl (omega arith); good = a.good; near = a.near }

-- A product with a number that is exact has one.
product_count : (e s x c z d o : ℕ) → Near 1 (s * o) (x * c) → Near e (x * d) (z * o) → Near (suc e) (s * (d * o)) (z * c * o)
product_count e s x c z d o r f =
    let rounds : Near 1 (s * (d * o)) (x * d * c) = subst₂ (Near 1) (omega arith) (omega arith) (near_scale d r) in
    let factor : Near e (x * d * c) (z * c * o) = subst (Near e (x * d * c)) (omega arith) (near_scale c f) in
    near_grow {e = 1 + e} (omega arith) (near_trans rounds factor)

pub near_times : {e : ℕ} {x c : Float} {p : Fraction} → NearFraction e x p → Good c → T (mul_in_range x c) → NearFraction (suc e) (x ⊗ c) (p *ᶠ value c)
near_times {e} {x} {c} a g t =
    record {
      z = a.z * units c;
      d = a.d * one·units;
      positive = mul-pos a.positive one-pos;
      ratio = plain_mul a.ratio (value-ratio g);
      good = product-good a.good g t;
      near = product_count e (units (x ⊗ c)) (units x) (units c) a.z a.d one·units (product_rounds x c a.good g t).near a.near;
    }

-- A product with a zero counts as plus zero.
pub near_times_zero : {e : ℕ} {x : Float} {p : Fraction} (f : ℕ) (c : Float) → NearFraction e x p → T (is_zero c) → NearFraction f 0·0 (p *ᶠ value c)
near_times_zero f c a t =
    record {
      z = 0;
      d = a.d * one·units;
      positive = mul-pos a.positive one-pos;
      ratio = ratio_as (plain_mul a.ratio (zero-ratio c t)) (mul-zero a.z) refl refl;
      good = zero_is_good;
      near = near_eq (rw (units-zero, zero-mul (a.d * one·units), zero-mul one·units));
    }
