-- Range tests: products that are known to pass them.
use Prim.Native.Nat.{◌^◌, ◌≤◌}
use native.Mathlib.Nat.{lt_of_lt_of_le, le_refl}
use mathlib.Core.Bool.{◌||◌}
use lib.Dec.{T, ltb→lt, lt→ltb}
use lib.Ieee.{Float, lt}
use lib.Ieee.Fits.{and_i}
use Rattle.definitions.specs.Numbers.{◌⊗◌, 1·0, smallest, finite, is_zero, mul_in_range, units}
use Rattle.rounding.specs.Good.{Good, one·units}
use Rattle.rounding.proofs.Laws.{good-finite, one_is_good, units-one, above_smallest, in_scale}
use Rattle.rounding.proofs.Operations.{mul-good}
use Rattle.rounding.proofs.Order.{product_monotone}
use Rattle.rounding.proofs.Zeros.{times-one}
use Rattle.exact.proofs.Bools.{or_r}

product_test : (x y : Float) → T (finite (x ⊗ y)) → T (is_zero x || is_zero y || lt smallest (x ⊗ y)) → T (mul_in_range x y)
unfolding mul_in_range
product_test x y t u = and_i (finite (x ⊗ y)) (is_zero x || is_zero y || lt smallest (x ⊗ y)) t u

-- what is no smaller than a number above 2^-1022
above_more : {x y : Float} → Good x → Good y → units x ≤ units y → T (lt smallest x) → T (lt smallest y)
above_more {x} {y} g h l a = rw (above_smallest h) (lt→ltb (2 ^ 52) (units y) (lt_of_lt_of_le (ltb→lt (2 ^ 52) (units x) (rw (above_smallest g) at a)) l))

-- Rounding keeps the order: where the product of the smaller numbers is above 2^-1022, a finite product of the larger is in range.
pub product_in_range : {x x' y y' : Float} → Good x → Good x' → Good y → Good y' → units x ≤ units x' → units y ≤ units y'
    → T (lt smallest (x ⊗ y)) → T (finite (x' ⊗ y')) → T (mul_in_range x' y')
product_in_range {x} {x'} {y} {y'} g g' h h' p q a t =
    let m = product_monotone g g' h h' p q t in
    let r : Good (x ⊗ y) = mul-good g h (in_scale (x ⊗ y) m.is_finite) in
    let r' : Good (x' ⊗ y') = mul-good g' h' (in_scale (x' ⊗ y') t) in
    product_test x' y' t
    (or_r (is_zero x' || is_zero y') (lt smallest (x' ⊗ y')) (above_more r r' m.no_more a))

-- A factor that is one at most: where the product is above 2^-1022, so is the other number.
pub factor_above : {x y : Float} → Good x → Good y → units y ≤ one·units → T (lt smallest (x ⊗ y)) → T (lt smallest x)
factor_above {x} {y} g h l a =
    let t : T (finite (x ⊗ 1·0)) = rw (times-one g) (good-finite g) in
    let m = product_monotone g g h one_is_good (le_refl (units x)) (rw units-one l) t in
    let r : Good (x ⊗ y) = mul-good g h (in_scale (x ⊗ y) m.is_finite) in
    above_more r g (rw (times-one g) at m.no_more) a
