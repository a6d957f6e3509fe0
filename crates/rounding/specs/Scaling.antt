-- Scaling by powers of two: exact, and it goes through every operation in range.
use Rattle.std.specs.Prelude.{◌≡◌, ℕ, ◌+◌, ◌*◌, ◌^◌, ◌<◌, Bool, false, ℤ, pos, neg_ℤ, ◌+ℤ◌, T, Float}
use Rattle.std.specs.Float.{nan, inf, fin, binary64}
use Rattle.std.specs.Float.Ieee.{fits, up, down, le}
use Rattle.definitions.specs.Numbers.{◌⊕◌, ◌⊗◌, ◌⊘◌, finite, add_in_range, mul_in_range, div_in_range, units}
use Rattle.definitions.specs.Moving.{times_power}
use Rattle.rounding.specs.Good.{Good}

-- The good number x' is exactly 2^k times the good number x.
pub record Scaled (k : ℕ) (x x' : Float) : Type 0 where
  pub from : Good x
  pub to : Good x'
  pub by : units x' ≡ units x * 2 ^ k

-- 2^e
abbrev pub power : ℤ → Float
power e = fin false 1 e

-- ---- times 2^k for numbers of either sign, zeros too, and k of either sign (`times_power`)
abbrev pub negative : Float → Bool
negative nan = false
negative (inf sign) = sign
negative (fin sign m e) = sign

-- y is x·2^k by its value: a number of binary64, with x's sign, and 2^k times x's size (up k / down k is 2^k).
pub record TimesByValue (k : ℤ) (x y : Float) : Type 0 where
  pub is_finite : T (finite y)
  pub held : T (fits binary64 y)
  pub sign : negative y ≡ negative x
  pub size : units y * down k ≡ units x * up k

-- `times_power` is that number wherever binary64 holds it, and no other number is.
abbrev pub TimesPowerByValue : Type 0
TimesPowerByValue =
    (k : ℤ) (x : Float) → T (finite x) → T (fits binary64 x)
    → (T (fits binary64 (times_power k x)) → TimesByValue k x (times_power k x))
    × ((y : Float) → TimesByValue k x y → y ≡ times_power k x)

-- The product with a power and the quotient by one are exact wherever binary64 holds the result.
abbrev pub ProductWithPower : Type 0
ProductWithPower = (k : ℤ) (x : Float) → T (finite x) → T (fits binary64 (times_power k x)) → x ⊗ power k ≡ times_power k x

abbrev pub QuotientByPower : Type 0
QuotientByPower = (k : ℤ) (x : Float) → T (finite x) → T (fits binary64 (times_power (neg_ℤ k) x)) → x ⊘ power k ≡ times_power (neg_ℤ k) x

-- Two moves are one, and a move keeps the order.
abbrev pub TimesPowerTwice : Type 0
TimesPowerTwice = (a b : ℤ) (x : Float) → times_power b (times_power a x) ≡ times_power (a +ℤ b) x

abbrev pub TimesPowerKeepsOrder : Type 0
TimesPowerKeepsOrder = (k : ℤ) (x y : Float) → le (times_power k x) (times_power k y) ≡ le x y

-- For good numbers `Scaled` says the same.
abbrev pub ScaledIsTimesPower : Type 0
ScaledIsTimesPower = (k : ℕ) (x x' : Float) → Scaled k x x' → x' ≡ times_power (pos k) x

-- ---- through the operations
-- The larger result has to be finite, and a product or quotient that is not zero has to be above 2^-1022 on the smaller side.
abbrev pub SumScales : Type 0
SumScales = (k : ℕ) (x x' y y' : Float) → Scaled k x x' → Scaled k y y' → T (add_in_range x' y') → Scaled k (x ⊕ y) (x' ⊕ y')

abbrev pub ProductScales : Type 0
ProductScales =
    (j k : ℕ) (x x' y y' : Float) → Scaled j x x' → Scaled k y y' → T (mul_in_range x y) → T (finite (x' ⊗ y'))
    → Scaled (j + k) (x ⊗ y) (x' ⊗ y')

abbrev pub DividendScales : Type 0
DividendScales = (k : ℕ) (x x' y : Float) → Scaled k x x' → Good y → T (div_in_range x y) → T (finite (x' ⊘ y)) → Scaled k (x ⊘ y) (x' ⊘ y)

abbrev pub DivisorScales : Type 0
DivisorScales = (k : ℕ) (x y y' : Float) → Good x → Scaled k y y' → T (div_in_range x y') → T (finite (x ⊘ y)) → Scaled k (x ⊘ y') (x ⊘ y)

-- A quotient of two numbers scaled alike is the same number, bit for bit.
abbrev pub QuotientOfScaled : Type 0
QuotientOfScaled = (k : ℕ) (x x' y y' : Float) → Scaled k x x' → Scaled k y y' → 0 < units y → x' ⊘ y' ≡ x ⊘ y
