-- The rounding laws of binary64: each operation on good numbers is within one rounding of the exact result, if it is in range.
-- The value of a number is counted in units of 2^-1074 (`units`), so 1.0 is `one·units`.
use Rattle.std.specs.Prelude.{◌≡◌, ◌↔◌, ℕ, ◌+◌, ◌*◌, false, T, ℤ, Float}
use Rattle.std.specs.Float.{fin}
use Rattle.std.specs.Float.Ieee.{up, down, lt, le}
use Rattle.exact.specs.Near.{Near}
use Rattle.definitions.specs.Numbers.{◌⊕◌, ◌⊗◌, ◌⊘◌, smallest, finite, add_in_range, mul_in_range, div_in_range, units}
use Rattle.rounding.specs.Good.{Good, one·units}

-- m·2^e is exactly so many units of 2^-1074 (up e / down e is 2^e).
abbrev pub UnitsAreExact : Type 0
UnitsAreExact = (m : ℕ) (e : ℤ) → Good (fin false m e) → m * up e * one·units ≡ units (fin false m e) * down e

-- The result r counts as the exact value a: one rounding away, and zero only where a is.
pub record Rounded (r a : ℕ) : Type 0 where
  pub near : Near 1 r a
  pub zero : (r ≡ 0) ↔ (a ≡ 0)

abbrev pub SumRounds : Type 0
SumRounds = (x y : Float) → Good x → Good y → T (add_in_range x y) → Rounded (units (x ⊕ y)) (units x + units y)

abbrev pub ProductRounds : Type 0
ProductRounds = (x y : Float) → Good x → Good y → T (mul_in_range x y) → Rounded (units (x ⊗ y) * one·units) (units x * units y)

-- A quotient by zero is never in range, for it is not finite.
abbrev pub QuotientRounds : Type 0
QuotientRounds = (x y : Float) → Good x → Good y → T (div_in_range x y) → Rounded (units (x ⊘ y) * units y) (units x * one·units)

-- The same where neither number is zero: above 2^-1022 the result has all its digits.
abbrev pub ProductAboveRounds : Type 0
ProductAboveRounds =
    (x y : Float) → Good x → Good y → T (finite (x ⊗ y)) → T (lt smallest (x ⊗ y))
    → Rounded (units (x ⊗ y) * one·units) (units x * units y)

abbrev pub QuotientAboveRounds : Type 0
QuotientAboveRounds =
    (x y : Float) → Good x → Good y → T (finite (x ⊘ y)) → T (lt smallest (x ⊘ y))
    → Rounded (units (x ⊘ y) * units y) (units x * one·units)

-- "At least 2^-1022" is not enough: a product can round up to 2^-1022 by more than one rounding.
pub record TooFar : Type 0 where
  pub x : Float
  pub y : Float
  pub x-good : Good x
  pub y-good : Good y
  pub is_finite : T (finite (x ⊗ y))
  pub at_least : T (le smallest (x ⊗ y))
  pub far : Near 1 (units (x ⊗ y) * one·units) (units x * units y) → ⊥
