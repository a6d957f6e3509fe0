-- One step x + m·y: from equal numbers, and what its test says.
use mathlib.Core.Path.{◌≡◌}
use lib.Dec.{T}
use lib.Ieee.{Float}
use lib.Ieee.Fits.{and_i, and_l, and_r}
use Rattle.definitions.specs.Numbers.{◌⊕◌, ◌⊗◌, finite, add_in_range, mul_in_range, add_product_in_range}

module _ {x x' m m' y y' : Float} (a : x ≡ x') (e : m ≡ m') (b : y ≡ y') where
  pub step_same : x ⊕ m ⊗ y ≡ x' ⊕ m' ⊗ y'
  step_same = rw (a, e, b)

  pub step_test_same : add_product_in_range x m y ≡ add_product_in_range x' m' y'
  step_test_same = rw (a, e, b)

module _ (x m y : Float) where
  pub product_of_step : T (add_product_in_range x m y) → T (mul_in_range m y)
  unfolding add_product_in_range
  product_of_step t = and_l (mul_in_range m y) (add_in_range x (m ⊗ y)) t

  pub addition_of_step : T (add_product_in_range x m y) → T (add_in_range x (m ⊗ y))
  unfolding add_product_in_range
  addition_of_step t = and_r (mul_in_range m y) (add_in_range x (m ⊗ y)) t

  pub step_of_product : T (mul_in_range m y) → T (finite (x ⊕ m ⊗ y)) → T (add_product_in_range x m y)
  unfolding add_product_in_range add_in_range
  step_of_product t u = and_i (mul_in_range m y) (finite (x ⊕ m ⊗ y)) t u
