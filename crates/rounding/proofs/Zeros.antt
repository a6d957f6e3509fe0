-- Exact cases: an operand that is zero or one, and the two operations that clean a number's zero, 0·0 ⊖ a and a ⊕ 0·0.
use mathlib.Core.Path.{◌≡◌, refl, sym, ap, ◌∙◌}
use Prim.Native.Nat.{ℕ, ◌+◌, ◌*◌, ◌^◌, ◌<◌, ◌≤◌, zero-le}
use native.Mathlib.Nat.{zero-mul, mul-zero, mul-pos, mul-one, zero-lt-suc, le_antisymm, le_trans, le_of_eq, le-add_right}
use mathlib.Core.Bool.{Bool, true, false, not}
use lib.IntN.{ℤ}
use lib.Dec.{T, nltb→le}
use lib.Ieee.{Float, nan, inf, fin, binary64, low, up, down, fits, neg, sum, add, sub, lt}
use lib.Ieee.Fits.{neg-fits, down_pos}
use Rattle.definitions.specs.Numbers.{◌⊕◌, ◌⊖◌, ◌⊗◌, ◌⊘◌, 0·0, 1·0, finite, units}
use Rattle.rounding.specs.Good.{Good}
use Rattle.rounding.proofs.Value.{amount, amount_of_value}
use Rattle.rounding.proofs.Round.{zero-amount}
use Rattle.rounding.proofs.Operations.{add-zero-left, add-zero_right, mul_of_zero, div_of_zero, mul_of_one}
use Rattle.rounding.proofs.Laws.{units_is, one_is, unique_units, zero_is_good, units-zero, one_is_good, units-one}
use Rattle.rounding.proofs.Order.{lt-units}
use Rattle.rounding.proofs.Finite.{sum_cancels}

module _ {x : Float} (g : Good x) where
  pub plus_zero : x ⊕ 0·0 ≡ x
  plus_zero = add-zero_right g zero_is_good (zero-amount binary64)

  pub zero_plus : 0·0 ⊕ x ≡ x
  zero_plus = add-zero-left zero_is_good g (zero-amount binary64)

  pub zero-times : 0·0 ⊗ x ≡ 0·0
  zero-times = mul_of_zero zero_is_good g (ap (λ (a : ℕ). a * amount binary64 x) (zero-amount binary64) ∙ zero-mul (amount binary64 x))

  pub times_zero : x ⊗ 0·0 ≡ 0·0
  times_zero = mul_of_zero g zero_is_good (ap (λ (a : ℕ). amount binary64 x * a) (zero-amount binary64) ∙ mul-zero (amount binary64 x))

  pub zero-over : 0 < units x → 0·0 ⊘ x ≡ 0·0
  zero-over n = div_of_zero zero_is_good g (rw (units_is x) at n) (zero-amount binary64)

  pub times-one : x ⊗ 1·0 ≡ x
  times-one = mul_of_one g one_is_good (sym (units_is 1·0) ∙ units-one ∙ one_is)

-- The number c is the size of a: good, and as far from zero as a.
pub record IsSize (a c : Float) : Type 0 where
  pub good : Good c
  pub same : units c ≡ units a

by_sign : (s : Bool) (m : ℕ) (e : ℤ) → units (fin false m e) ≡ units (fin s m e)
unfolding units
by_sign s m e = refl

unsigned : (m : ℕ) (e : ℤ) → T (fits binary64 (fin true m e)) → Good (fin false m e)
unfolding neg
unsigned m e t = record { plus = tt; held = neg-fits binary64 (fin true m e) t }

own-difference : 0·0 ⊖ 0·0 ≡ 0·0
unfolding sub neg
own-difference = sum_cancels binary64 false 0 1 (zero-lt-suc 0)

minus_is : (m : ℕ) (e : ℤ) → 0·0 ⊖ fin true m e ≡ 0·0 ⊕ fin false m e
unfolding sub neg
minus_is m e = refl

no_units : {x : Float} → Good x → units x ≤ 0 → x ≡ 0·0
no_units g z = unique_units g zero_is_good (le_antisymm z zero-le ∙ sym units-zero)

-- 0.0 − a of a number that is zero or negative: with the sign plus only a zero is left.
pub size_of_negative : (a : Float) → T (fits binary64 a) → T (finite a) → T (not (lt 0·0 a)) → IsSize a (0·0 ⊖ a)
unfolding finite
size_of_negative nan f t l = absurd t
size_of_negative (inf s) f t l = absurd t
size_of_negative (fin true m e) f t l = let g = unsigned m e f in rw (minus_is m e, zero_plus g) (record { good = g; same = by_sign true m e })
size_of_negative (fin false m e) f t l =
    let a = fin false m e in
    let g : Good a = record { plus = tt; held = f } in
    rw (no_units g (nltb→le 0 (units a) (rw (lt-units zero_is_good g, units-zero) at l)), own-difference) (record { good = zero_is_good; same = refl })

-- Minus zero alone is not negative with the sign minus.
pub minus-zero : (m : ℕ) (e : ℤ) → T (not (lt (fin true m e) 0·0)) → m * up e ≡ 0
unfolding lt
minus-zero m e l =
    le_antisymm
    (le_trans (le_of_eq (sym (mul-one (m * up e)))) (le_trans (le-add_right (m * up e * 1) (0 * down e)) (nltb→le 0 (m * up e * 1 + 0 * down e) l)))
    zero-le

cleaned : (m : ℕ) (e : ℤ) → m * up e ≡ 0 → fin true m e ⊕ 0·0 ≡ 0·0
unfolding add
cleaned m e z =
    ap (λ (a : ℕ). sum binary64 true (a * 1) false (0 * down e) (down e * 1)) z
    ∙ ap (λ (a : ℕ). sum binary64 true 0 false a (down e * 1)) (zero-mul (down e))
    ∙ sum_cancels binary64 true 0 (down e * 1) (mul-pos (down_pos e) (zero-lt-suc 0))

minus-zero-units : (m : ℕ) (e : ℤ) → m * up e ≡ 0 → units (fin true m e) ≡ 0
minus-zero-units m e z =
    units_is (fin true m e)
    ∙ amount_of_value binary64 (fin true m e) true 0 (refl, ap (λ (a : ℕ). a * 2 ^ low binary64) z ∙ zero-mul (2 ^ low binary64) ∙ sym (zero-mul (down e)))

-- a + 0.0 of a number that is zero or positive
pub size_of_positive : (a : Float) → T (fits binary64 a) → T (finite a) → T (not (lt a 0·0)) → IsSize a (a ⊕ 0·0)
unfolding finite
size_of_positive nan f t l = absurd t
size_of_positive (inf s) f t l = absurd t
size_of_positive (fin true m e) f t l = let z = minus-zero m e l in rw (cleaned m e z) (record { good = zero_is_good; same = units-zero ∙ sym (minus-zero-units m e z) })
size_of_positive (fin false m e) f t l = let g : Good (fin false m e) = record { plus = tt; held = f } in rw (plus_zero g) (record { good = g; same = refl })
