-- The compound operations of the steps, counted in roundings: x + (t / p)·y, and sums.
use Prim.Native.Nat.{ℕ, zero, suc, ◌+◌, ◌*◌}
use mathlib.Core.Path.{◌≡◌, sym, ap, ◌∙◌}
use native.Mathlib.Nat.{add-zero, mul_assoc, mul_right_comm}
use native.Mathlib.Omega.{arith}
use lib.Dec.{T}
use lib.Ieee.{Float}
use Rattle.exact.specs.Chains.{In}
use Rattle.exact.specs.Near.{Near}
use Rattle.exact.specs.Sums.{sum as total}
use Rattle.exact.proofs.Near.{near_refl, near_eq, near_scale, near_sum, near_addition, near_term, near_step}
use Rattle.exact.proofs.Sums.{sum-last}
use Rattle.definitions.specs.Numbers.{◌⊕◌, ◌⊗◌, ◌⊘◌, 0·0, add_in_range, div_in_range, add_product_in_range, sum, sum_in_range, units}
use Rattle.rounding.specs.Good.{Good, one·units}
use Rattle.rounding.proofs.RoundedSums.{range_before, range_last, sum_is_good}
use Rattle.rounding.proofs.Laws.{one-pos, zero_is_good, sum-good, sum_rounds, product-good, product_rounds, quotient-good, quotient_rounds}
use Rattle.rounding.proofs.Zeros.{zero_plus}
use Rattle.steps.proofs.AddProduct.{product_of_step, addition_of_step}

-- x + (t / p)·y: the product has two roundings, the sum one more, so the whole has three more than the pivot p, times its weight W,
-- has against the exact pivot P.
pub record AddsProduct (x t p y : Float) : Type 0 where
  pub good : Good (x ⊕ t ⊘ p ⊗ y)
  pub product : Near 2 (units (t ⊘ p ⊗ y) * units p) (units t * units y)
  pub addition : Near 1 (units (x ⊕ t ⊘ p ⊗ y)) (units x + units (t ⊘ p ⊗ y))
  pub whole : (W : ℕ) {e P : ℕ} → Near e P (units p * W) → Near (e + 3) (units (x ⊕ t ⊘ p ⊗ y) * P) (units x * P + units t * W * units y)

pub adds_product :
    (x t p y : Float) → Good x → Good t → Good p → Good y
    → T (div_in_range t p) → T (add_product_in_range x (t ⊘ p) y) → AddsProduct x t p y
adds_product x t p y gx gt gp gy d a =
    let m = t ⊘ p in
    let gm = quotient-good gt gp d in
    let gv = product-good gm gy (product_of_step x m y a) in
    let division = (quotient_rounds t p gt gp d).near in
    let multiplication = (product_rounds m y gm gy (product_of_step x m y a)).near in
    let addition = (sum_rounds x (m ⊗ y) gx gv (addition_of_step x m y a)).near in
    record {
      good = sum-good gx gv (addition_of_step x m y a);
      product = near_term (units p) (units m) (units (m ⊗ y)) (units t) (units y) one-pos division multiplication;
      addition = addition;
      whole =
          λ W h.
          near_step (units m) (units (m ⊗ y)) (units t * W) (units x) (units y) one-pos h
          (rw (mul_assoc (units m) (units p) W, mul_right_comm (units t) one·units W) at (near_scale W division)) multiplication addition;
    }

-- A sum of terms within e roundings; where there is none, within none.
abbrev pub term_roundings : ℕ → ℕ → ℕ
term_roundings e zero = zero
term_roundings e (suc m) = e

pub near_terms : (e : ℕ) (f g : ℕ → ℕ) (k m : ℕ) → ((i : ℕ) → In k m i → Near e (f i) (g i)) → Near (term_roundings e m) (total f k m) (total g k m)
unfolding total
near_terms e f g k zero h = near_refl
near_terms e f g k (suc m) h = near_sum f g k (suc m) h

-- A sum has a rounding for each addition.
module _ (start : Float) (f : ℕ → Float) (k : ℕ) (g : Good start) where
  next_near :
      {e y z : ℕ} (m : ℕ) → ((i : ℕ) → In k (suc m) i → Good (f i)) → T (sum_in_range start f k (suc m))
      → Near e (units (sum start f k m)) y → y + units (f (k + m)) ≡ z → Near (suc e) (units (sum start f k (suc m))) z
  unfolding sum
  next_near {e} {y} {z} m h t n p =
      let good = sum_is_good start f k g m (λ i l u. h i (omega arith)) (range_before start f k m t) in
      let last = (sum_rounds (sum start f k m) (f (k + m)) good (h (k + m) (omega arith)) (range_last start f k m t)).near in
      near_addition e (units (sum start f k m)) (units (sum start f k (suc m))) (units (f (k + m))) y z last n p

  pub sum_near :
      (m : ℕ) → ((i : ℕ) → In k m i → Good (f i)) → T (sum_in_range start f k m)
      → Near m (units (sum start f k m)) (units start + total (λ i. units (f i)) k m)
  unfolding sum total
  sum_near zero h t = near_eq (omega arith)
  sum_near (suc m) h t =
      next_near m h t (sum_near m (λ i l. h i (omega arith)) (range_before start f k m t)) (omega (arith, sum-last (λ i. units (f i)) k m))

-- From plus zero it has one fewer, since 0 ⊕ x is x.
sum-from-zero_near :
    (f : ℕ → Float) (k m : ℕ) → ((i : ℕ) → In k (suc m) i → Good (f i)) → T (sum_in_range 0·0 f k (suc m))
    → Near m (units (sum 0·0 f k (suc m))) (total (λ i. units (f i)) k (suc m))
unfolding sum total
sum-from-zero_near f k zero h t = near_eq (ap units (zero_plus (h (k + 0) (omega arith))) ∙ rw (add-zero k) (omega arith))
sum-from-zero_near f k (suc m) h t =
    next_near 0·0 f k zero_is_good (suc m) h t
    (sum-from-zero_near f k m (λ i l. h i (omega arith)) (range_before 0·0 f k (suc m) t))
    (sym (sum-last (λ i. units (f i)) k (suc m)))

-- So with one number x more it has as many as there are terms before x.
pub sum_then_near :
    (f : ℕ → Float) (x : Float) (m : ℕ) → ((i : ℕ) → In 0 m i → Good (f i)) → Good x
    → T (sum_in_range 0·0 f 0 m) → T (add_in_range (sum 0·0 f 0 m) x)
    → Near m (units (sum 0·0 f 0 m ⊕ x)) (units x + total (λ i. units (f i)) 0 m)
unfolding sum total
sum_then_near f x zero h g t l = near_eq (ap units (zero_plus g) ∙ omega arith)
sum_then_near f x (suc m) h g t l =
    let good = sum_is_good 0·0 f 0 zero_is_good (suc m) (λ i a b. h i (omega arith)) t in
    near_addition m (units (sum 0·0 f 0 (suc m))) (units (sum 0·0 f 0 (suc m) ⊕ x)) (units x) (total (λ i. units (f i)) 0 (suc m)) (units x + total (λ i. units (f i)) 0 (suc m))
    (sum_rounds (sum 0·0 f 0 (suc m)) x good g l).near (sum-from-zero_near f 0 m h t) (omega arith)
