-- The laws of `specs/Laws.antt`: what `Operations.antt` says of every format, at binary64.
use mathlib.Core.Path.{◌≡◌, refl, sym, ap, ap₂, ◌∙◌, subst}
use mathlib.Core.Logic.{◌⊎◌, inl, inr}
use Prim.Native.Nat.{ℕ, ◌+◌, ◌-◌, ◌*◌, ◌^◌, ◌<◌}
use native.Mathlib.Nat.{zero-mul, mul-zero, lt_irrefl}
use mathlib.Core.Bool.{false, ◌&&◌, ◌||◌}
use lib.IntN.{negsuc}
use lib.Dec.{T, eqb, ltb, ltb→lt, eqb→eq, leb, le→leb, T_not}
use lib.Pow.{pow_pos}
use lib.Ieee.{Float, nan, inf, fin, binary64, prec, low, mul, lt, le, fits}
use lib.Ieee.Fits.{and_l, and_r}
use lib.Ieee.Exact.{HasValue}
use lib.Ieee.Scale as Scale
use Rattle.exact.specs.Near.{base, next}
use Rattle.definitions.specs.Numbers.{◌⊕◌, ◌⊗◌, ◌⊘◌, 0·0, 1·0, smallest, finite, is_zero, add_in_range, mul_in_range, div_in_range, units}
use Rattle.rounding.specs.Good.{Good, one·units}
use Rattle.rounding.specs.Laws.{Rounded, SumRounds, ProductRounds, QuotientRounds, ProductAboveRounds, QuotientAboveRounds, TooFar, UnitsAreExact}
use Rattle.rounding.proofs.Value.{amount, value, unique, by_parts}
use Rattle.rounding.proofs.Grid.{OnePartIn, within_same, within-zero}
use Rattle.rounding.proofs.Round.{zero-good, zero-amount}
use Rattle.rounding.proofs.Compare.{lt_amounts, eq_amounts}
use Rattle.rounding.proofs.Operations.{add-good, add_near, mul-good, mul_near, div-good, div_near, mul_of_zero, div_of_zero, divisor-pos}
use Rattle.exact.proofs.Bools.{or_cases}

-- ---- binary64's own names
pub units_is : (x : Float) → units x ≡ amount binary64 x
unfolding units amount
units_is nan = refl
units_is (inf s) = refl
units_is (fin s m e) = refl

pub one_is : one·units ≡ 2 ^ low binary64
unfolding one·units
one_is = refl

pub one-pos : 0 < one·units
unfolding one·units
one-pos = pow_pos 1074

pub finite_is : (x : Float) → finite x ≡ Scale.finite x
unfolding finite
finite_is nan = refl
finite_is (inf s) = refl
finite_is (fin s m e) = refl

pub good-finite : {x : Float} → Good x → T (finite x)
unfolding finite
good-finite {x} g = by_parts binary64 (λ x. T (finite x)) (λ m e g. tt) x g

-- ---- units are exactly the number, and tell it
pub units-value : {x : Float} → Good x → HasValue x false (units x) one·units
units-value {x} g = rw (units_is x, one_is) (value g)

pub units-exact : UnitsAreExact
units-exact m e g = (units-value g).1

pub unique_units : {x y : Float} → Good x → Good y → units x ≡ units y → x ≡ y
unique_units {x} {y} g h e = unique g h (rw (units_is x, units_is y) at e)

-- ---- the three numbers
pub zero_is_good : Good 0·0
zero_is_good = zero-good binary64

pub one_is_good : Good 1·0
unfolding fits
one_is_good = record { plus = tt; held = tt }

pub smallest_is_good : Good smallest
unfolding fits
smallest_is_good = record { plus = tt; held = tt }

pub units-zero : units 0·0 ≡ 0
units-zero = units_is 0·0 ∙ zero-amount binary64

pub units-one : units 1·0 ≡ one·units
unfolding units one·units
units-one = refl

pub units-smallest : units smallest ≡ 2 ^ 52
unfolding units
units-smallest = refl

within_near : (x y : ℕ) → OnePartIn (2 ^ prec binary64) x y → Rounded x y
unfolding base next
within_near x y w = record { near = record { upper = w.upper; lower = w.lower }; zero = within-zero (2 ^ prec binary64) x y (pow_pos (prec binary64)) w }

-- ---- comparisons that the range tests make
pub is_zero_lem : {x : Float} → Good x → is_zero x ≡ eqb (units x) 0
unfolding is_zero
is_zero_lem {x} g = eq_amounts g zero_is_good ∙ ap₂ eqb (sym (units_is x)) (zero-amount binary64)

pub above_smallest : {x : Float} → Good x → lt smallest x ≡ ltb (2 ^ 52) (units x)
above_smallest {x} g = lt_amounts smallest_is_good g ∙ ap₂ ltb (sym (units_is smallest) ∙ units-smallest) (sym (units_is x))

pub sum_in_range_lem : (x y : Float) → T (add_in_range x y) → T (Scale.finite (x ⊕ y))
unfolding add_in_range
sum_in_range_lem x y t = rw (← finite_is (x ⊕ y)) t

pub sum-good : {x y : Float} → Good x → Good y → T (add_in_range x y) → Good (x ⊕ y)
sum-good {x} {y} g h t = add-good g h (sum_in_range_lem x y t)

pub sum_rounds : SumRounds
sum_rounds x y g h t = rw (units_is (x ⊕ y), units_is x, units_is y) (within_near (amount binary64 (x ⊕ y)) (amount binary64 x + amount binary64 y) (add_near g h (sum_in_range_lem x y t)))

-- ---- products and quotients
-- The range test of both: the result r is finite, and x or y is zero or r is above 2^-1022.
in_range_lem : (x y r : Float) → T (finite r && (is_zero x || is_zero y || lt smallest r)) → T (finite r) × (T (is_zero x) ⊎ (T (is_zero y) ⊎ T (lt smallest r)))
in_range_lem x y r t = (
  and_l (finite r) (is_zero x || is_zero y || lt smallest r) t,
  split (or_cases (is_zero x || is_zero y) (lt smallest r) (and_r (finite r) (is_zero x || is_zero y || lt smallest r) t)),
)
  where
    split : T (is_zero x || is_zero y) ⊎ T (lt smallest r) → T (is_zero x) ⊎ (T (is_zero y) ⊎ T (lt smallest r))
    split (inl z) = elim (or_cases (is_zero x) (is_zero y) z) [ inl p ↦ inl p | inr q ↦ inr (inl q) ]
    split (inr l) = inr (inr l)

pub zero-amount_of : {x : Float} → Good x → T (is_zero x) → amount binary64 x ≡ 0
zero-amount_of {x} g t = sym (units_is x) ∙ eqb→eq (units x) 0 (rw (is_zero_lem g) at t)

pub above_amount : {x : Float} → Good x → T (lt smallest x) → 2 ^ 52 < amount binary64 x
above_amount {x} g t = rw (units_is x) at (ltb→lt (2 ^ 52) (units x) (subst T (above_smallest g) t))

pub in_scale : (x : Float) → T (finite x) → T (Scale.finite x)
in_scale x t = rw (finite_is x) at t

pub product_cases : (x y : Float) → T (mul_in_range x y) → T (finite (x ⊗ y)) × (T (is_zero x) ⊎ (T (is_zero y) ⊎ T (lt smallest (x ⊗ y))))
unfolding mul_in_range
product_cases x y t = in_range_lem x y (x ⊗ y) t

pub quotient_cases : (x y : Float) → T (div_in_range x y) → T (finite (x ⊘ y)) × (T (is_zero x) ⊎ (T (is_zero y) ⊎ T (lt smallest (x ⊘ y))))
unfolding div_in_range
quotient_cases x y t = in_range_lem x y (x ⊘ y) t

pub product-good : {x y : Float} → Good x → Good y → T (mul_in_range x y) → Good (x ⊗ y)
product-good {x} {y} g h t = mul-good g h (in_scale (x ⊗ y) (product_cases x y t).0)

pub product_above_rounds : ProductAboveRounds
product_above_rounds x y g h t a =
    rw (units_is (x ⊗ y), units_is x, units_is y, one_is)
    (within_near (amount binary64 (x ⊗ y) * 2 ^ low binary64) (amount binary64 x * amount binary64 y)
    (mul_near g h (in_scale (x ⊗ y) t) (above_amount (mul-good g h (in_scale (x ⊗ y) t)) a)))

zero_rounded : (r a b : ℕ) → r ≡ 0 → a ≡ 0 → Rounded (r * b) a
zero_rounded r a b p q = rw (p, q, zero-mul b) (within_near 0 0 (within_same (2 ^ prec binary64) 0))

pub product_rounds : ProductRounds
product_rounds x y g h t = elim (product_cases x y t).1 [
  | inl z ↦ none (ap (λ (a : ℕ). a * amount binary64 y) (zero-amount_of g z) ∙ zero-mul (amount binary64 y))
  | inr c ↦ elim c [ inl z ↦ none (ap (λ (a : ℕ). amount binary64 x * a) (zero-amount_of h z) ∙ mul-zero (amount binary64 x)) | inr a ↦ product_above_rounds x y g h (product_cases x y t).0 a ]
]
  where
    none : amount binary64 x * amount binary64 y ≡ 0 → Rounded (units (x ⊗ y) * one·units) (units x * units y)
    none z = zero_rounded (units (x ⊗ y)) (units x * units y) one·units (ap units (mul_of_zero g h z) ∙ units-zero) (ap₂ (λ (a b : ℕ). a * b) (units_is x) (units_is y) ∙ z)

-- a finite quotient has a divisor that is not zero
pub divisor_above_zero : {x y : Float} → Good x → Good y → T (finite (x ⊘ y)) → 0 < units y
divisor_above_zero {x} {y} g h t = rw (units_is y) (divisor-pos g h (in_scale (x ⊘ y) t))

pub quotient-good : {x y : Float} → Good x → Good y → T (div_in_range x y) → Good (x ⊘ y)
quotient-good {x} {y} g h t = let b = in_scale (x ⊘ y) (quotient_cases x y t).0 in div-good g h (divisor-pos g h b) b

pub quotient_above_rounds : QuotientAboveRounds
quotient_above_rounds x y g h t a =
    let b = in_scale (x ⊘ y) t in
    let d = divisor-pos g h b in
    rw (units_is (x ⊘ y), units_is x, units_is y, one_is)
    (within_near (amount binary64 (x ⊘ y) * amount binary64 y) (amount binary64 x * 2 ^ low binary64) (div_near g h d b (above_amount (div-good g h d b) a)))

pub quotient_rounds : QuotientRounds
quotient_rounds x y g h t = elim (quotient_cases x y t).1 [
  | inl z ↦
      zero_rounded (units (x ⊘ y)) (units x * one·units) (units y) (ap units (div_of_zero g h d (zero-amount_of g z)) ∙ units-zero)
      (ap (λ (a : ℕ). a * one·units) (units_is x ∙ zero-amount_of g z) ∙ zero-mul one·units)
  | inr c ↦ elim c [ inl z ↦ absurd (lt_irrefl 0 (rw (zero-amount_of h z) at d)) | inr a ↦ quotient_above_rounds x y g h (quotient_cases x y t).0 a ]
]
  where
    d : 0 < amount binary64 y
    d = divisor-pos g h (in_scale (x ⊘ y) (quotient_cases x y t).0)

-- (2^53 − 1)·2^-537 times 2^-538 is half a unit below 2^-1022, and rounds up to it.
pub too_far : TooFar
unfolding fits finite mul le units base next one·units
too_far = record {
  x = fin false (2 ^ 53 - 1) (negsuc 536);
  y = fin false 1 (negsuc 537);
  x-good = record { plus = tt; held = tt };
  y-good = record { plus = tt; held = tt };
  is_finite = tt;
  at_least = tt;
  far = λ w. T_not (leb (2 ^ 1179) (2 ^ 1179 - 2 ^ 1073)) tt (le→leb (2 ^ 1179) (2 ^ 1179 - 2 ^ 1073) w.upper);
}
