-- The statements of `specs/Scaling.antt`: what `Powers.antt` says of every format, at binary64.
use mathlib.Core.Path.{◌≡◌, sym, ap, ap₂, ◌∙◌}
use mathlib.Core.Logic.{inl, inr}
use Prim.Native.Nat.{ℕ, ◌+◌, ◌*◌, ◌^◌, ◌<◌}
use native.Mathlib.Nat.{zero-mul, mul-zero, mul-pos, mul-one, mul-mul-mul_comm, lt_irrefl}
use lib.Pow.{pow_pos}
use lib.Ieee.{Float, binary64}
use Rattle.definitions.specs.Numbers.{◌⊗◌, ◌⊘◌, 0·0, units}
use Rattle.rounding.specs.Good.{Good}
use Rattle.rounding.specs.Scaling.{Scaled, SumScales, ProductScales, DividendScales, DivisorScales, QuotientOfScaled}
use Rattle.rounding.proofs.Value.{amount}
use Rattle.rounding.proofs.Operations.{add-good, mul-good, div-good, mul_of_zero, div_of_zero, divisor-pos}
use Rattle.rounding.proofs.Laws.{units_is, units-zero, in_scale, sum_in_range_lem, product-good, quotient-good, product_cases, quotient_cases, zero-amount_of, above_amount}
use Rattle.rounding.proofs.Powers.{add_unscaled_finite, add-scaled, div_alike, mul-scaled, dividend_scaled, divisor-scaled}

amounts : {k : ℕ} {x x' : Float} → Scaled k x x' → amount binary64 x' ≡ amount binary64 x * 2 ^ k
amounts {k} {x} {x'} s = rw (units_is x', units_is x) at s.by

scaled : {k : ℕ} {x x' : Float} → Good x → Good x' → amount binary64 x' ≡ amount binary64 x * 2 ^ k → Scaled k x x'
scaled {k} {x} {x'} g h e = record { from = g; to = h; by = rw (units_is x', units_is x) e }

pub scaled-none : {x : Float} → Good x → Scaled 0 x x
scaled-none {x} g = record { from = g; to = g; by = sym (mul-one (units x)) }

-- both zero
pub scaled-zero : (k : ℕ) (x x' : Float) → Good x → Good x' → x ≡ 0·0 → x' ≡ 0·0 → Scaled k x x'
scaled-zero k x x' g h p q = record { from = g; to = h; by = ap units q ∙ units-zero ∙ sym (ap (λ (a : ℕ). a * 2 ^ k) (ap units p ∙ units-zero) ∙ zero-mul (2 ^ k)) }

pub sum_scales : SumScales
sum_scales k x x' y y' s r t =
    let b = sum_in_range_lem x' y' t in
    let a = add_unscaled_finite s.from s.to r.from r.to k (amounts s) (amounts r) b in
    scaled (add-good s.from r.from a) (add-good s.to r.to b) (add-scaled s.from s.to r.from r.to k (amounts s) (amounts r) b)

pub quotient_of_scaled : QuotientOfScaled
quotient_of_scaled k x x' y y' s r n = div_alike s.from s.to r.from r.to k (amounts s) (amounts r) (rw (units_is y) at n)

pub product_scales : ProductScales
product_scales j k x x' y y' s r t t' = elim (product_cases x y t).1 [
  | inl z ↦ none (ap (λ (a : ℕ). a * amount binary64 y) (zero-amount_of s.from z) ∙ zero-mul (amount binary64 y))
  | inr c ↦ elim c [
    | inl z ↦ none (ap (λ (a : ℕ). amount binary64 x * a) (zero-amount_of r.from z) ∙ mul-zero (amount binary64 x))
    | inr a ↦ scaled good good' (mul-scaled s.from s.to r.from r.to j k (amounts s) (amounts r) (in_scale (x' ⊗ y') t') (above_amount good a))
  ]
]
  where
    good : Good (x ⊗ y)
    good = product-good s.from r.from t

    good' : Good (x' ⊗ y')
    good' = mul-good s.to r.to (in_scale (x' ⊗ y') t')

    none : amount binary64 x * amount binary64 y ≡ 0 → Scaled (j + k) (x ⊗ y) (x' ⊗ y')
    none z =
        scaled-zero (j + k) (x ⊗ y) (x' ⊗ y') good good' (mul_of_zero s.from r.from z)
        (mul_of_zero s.to r.to
        (ap₂ (λ (a b : ℕ). a * b) (amounts s) (amounts r)
        ∙ mul-mul-mul_comm (amount binary64 x) (2 ^ j) (amount binary64 y) (2 ^ k)
        ∙ ap (λ (a : ℕ). a * (2 ^ j * 2 ^ k)) z
        ∙ zero-mul (2 ^ j * 2 ^ k)))

pub dividend_scales : DividendScales
dividend_scales k x x' y s h t t' = elim (quotient_cases x y t).1 [
  | inl z ↦
      scaled-zero k (x ⊘ y) (x' ⊘ y) good good' (div_of_zero s.from h n (zero-amount_of s.from z))
      (div_of_zero s.to h n (amounts s ∙ ap (λ (a : ℕ). a * 2 ^ k) (zero-amount_of s.from z) ∙ zero-mul (2 ^ k)))
  | inr c ↦ elim c [
    | inl z ↦ absurd (lt_irrefl 0 (rw (zero-amount_of h z) at n))
    | inr a ↦ scaled good good' (dividend_scaled s.from s.to h n k (amounts s) (in_scale (x' ⊘ y) t') (above_amount good a))
  ]
]
  where
    n : 0 < amount binary64 y
    n = divisor-pos s.to h (in_scale (x' ⊘ y) t')

    good : Good (x ⊘ y)
    good = quotient-good s.from h t

    good' : Good (x' ⊘ y)
    good' = div-good s.to h n (in_scale (x' ⊘ y) t')

pub divisor_scales : DivisorScales
divisor_scales k x y y' g r t t' = elim (quotient_cases x y' t).1 [
  | inl z ↦ scaled-zero k (x ⊘ y') (x ⊘ y) good' good (div_of_zero g r.to n' (zero-amount_of g z)) (div_of_zero g r.from n (zero-amount_of g z))
  | inr c ↦ elim c [
    | inl z ↦ absurd (lt_irrefl 0 (rw (zero-amount_of r.to z) at n'))
    | inr a ↦ scaled good' good (divisor-scaled g r.from r.to n k (amounts r) (in_scale (x ⊘ y) t') (above_amount good' a))
  ]
]
  where
    n : 0 < amount binary64 y
    n = divisor-pos g r.from (in_scale (x ⊘ y) t')

    n' : 0 < amount binary64 y'
    n' = rw (amounts r) (mul-pos n (pow_pos k))

    good : Good (x ⊘ y)
    good = div-good g r.from n (in_scale (x ⊘ y) t')

    good' : Good (x ⊘ y')
    good' = quotient-good g r.to t
