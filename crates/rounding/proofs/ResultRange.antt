-- What the functions of the steps owe: the range test of a result, by its three questions in order.
use mathlib.Core.Path.{◌≡◌, refl, ap}
use mathlib.Core.Bool.{Bool, ◌&&◌, ◌||◌}
use lib.Ieee.{Float, binary64, eq, lt, of_bits}
use Rattle.definitions.specs.Numbers.{◌⊗◌, ◌⊘◌, finite, is_zero, mul_in_range, div_in_range}
use Rattle.rounding.specs.ResultRange.{result_in_range}
use Rattle.rounding.proofs.Words.{zero_word, smallest-word}

pub is_zero_is : (x : Float) → eq x (of_bits binary64 0) ≡ is_zero x
unfolding is_zero
is_zero_is x = ap (eq x) zero_word

pub product_test : (x y : Float) → result_in_range x y (x ⊗ y) ≡ mul_in_range x y
unfolding result_in_range mul_in_range
product_test x y = refl

pub quotient_test : (x y : Float) → result_in_range x y (x ⊘ y) ≡ div_in_range x y
unfolding result_in_range div_in_range
quotient_test x y = refl

-- The three tests, with the literals.
pub by_tests : (x y r : Float) {f : Bool} → f ≡ finite r
    → (f && (eq x (of_bits binary64 0) || eq y (of_bits binary64 0) || lt (of_bits binary64 4503599627370496) r)) ≡ result_in_range x y r
unfolding result_in_range
by_tests x y r e = rw (e, is_zero_is x, is_zero_is y, smallest-word)
