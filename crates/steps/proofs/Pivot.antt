-- A pivot's laws, by which everything else speaks of it: it looks at its own row and at the weights alone; it is finite where its steps are in range, and then its parts are
-- finite; and the tests by which the code asks for its range.
use mathlib.Core.Path.{◌≡◌, refl, ap₂}
use Prim.Native.Nat.{ℕ, suc, ◌+◌, ◌-◌, ◌≤◌, ◌<◌, zero-le}
use native.Mathlib.Omega.{arith}
use mathlib.Core.Bool.{Bool, ◌&&◌}
use lib.Dec.{T}
use lib.Ieee.{Float}
use lib.Ieee.Fits.{and_i, and_l, and_r}
use Rattle.exact.proofs.Bools.{same_truth}
use Rattle.definitions.specs.Numbers.{◌⊕◌, 0·0, finite, add_in_range, div_in_range, sum_in_range}
use Rattle.definitions.specs.LeavingRates.{none, some, System, weighed, falling, later_sizes, pivot, products_in_range, over_weight_in_range, pivot_in_range}
use Rattle.rounding.proofs.Finite.{sum-finite, dividend_of_range}
use Rattle.rounding.proofs.RoundedSums.{total_in_range, term-finite}
use Rattle.steps.proofs.FloatSums.{sum_same, sum_in_range_same}
use Rattle.steps.proofs.Weights.{SameWeights, weighed_same, products_same, over_same, over_test_same, weighed-finite, over-finite, over_in_range_lem}

module _ (r k : ℕ) (a b : System) (l : k < r) (exits : a.s k ≡ b.s k) (sizes : (j : ℕ) → k < j → j < r → a.t k j ≡ b.t k j) (weights : SameWeights r a.z b.z) where
  falling_same : (q : ℕ) → 0 ≤ q → q < 0 + (r - suc k) → weighed a.z (a.t k) (r - suc q) ≡ weighed b.z (b.t k) (r - suc q)
  falling_same q l m = weighed_same r k (a.t k) (b.t k) sizes a.z b.z weights (r - suc q) (omega arith) (omega arith)

  sizes_same : later_sizes r a k ≡ later_sizes r b k
  sizes_same = sum_same 0·0 0·0 (falling r (weighed a.z (a.t k))) (falling r (weighed b.z (b.t k))) 0 (r - suc k) refl falling_same

  sum_is_same : later_sizes r a k ⊕ a.s k ≡ later_sizes r b k ⊕ b.s k
  sum_is_same = ap₂ (λ x y. x ⊕ y) sizes_same exits

  pub pivot_same : pivot r a k ≡ pivot r b k
  unfolding pivot
  pivot_same = over_same r k l sum_is_same a.z b.z weights

  pub pivot_in_range_same : pivot_in_range r a k ≡ pivot_in_range r b k
  unfolding pivot_in_range
  pivot_in_range_same =
      ap₂ (λ x y. x && y)
      (ap₂ (λ x y. x && y)
      (ap₂ (λ x y. x && y)
      (products_same r k (a.t k) (b.t k) sizes a.z b.z weights)
      (sum_in_range_same 0·0 0·0 (falling r (weighed a.z (a.t k))) (falling r (weighed b.z (b.t k))) 0 (r - suc k) refl falling_same))
      (ap₂ add_in_range sizes_same exits))
      (over_test_same r k l sum_is_same a.z b.z weights)

module _ (r : ℕ) (a : System) (k : ℕ) where
  abbrev products : Bool
  products = products_in_range a.z (a.t k) (suc k) (r - suc k)

  abbrev additions : Bool
  additions = sum_in_range 0·0 (falling r (weighed a.z (a.t k))) 0 (r - suc k)

  abbrev total : Float
  total = later_sizes r a k ⊕ a.s k

  abbrev last : Bool
  last = add_in_range (later_sizes r a k) (a.s k)

  abbrev division : Bool
  division = over_weight_in_range a.z k total

  total_of_pivot : T (finite (pivot r a k)) → T (finite total)
  unfolding pivot
  total_of_pivot t = over-finite a.z k total t

  pub exit_of_pivot : T (finite (pivot r a k)) → T (finite (a.s k))
  exit_of_pivot t = (sum-finite (later_sizes r a k) (a.s k) (total_of_pivot t)).1

  pub size_of_pivot : T (finite (pivot r a k)) → (j : ℕ) → k < j → j < r → T (finite (a.t k j))
  size_of_pivot t j l m =
      let back : r - suc (r - suc j) ≡ j = omega arith in
      weighed-finite a.z (a.t k) j
      (rw back at (term-finite 0·0 (falling r (weighed a.z (a.t k))) 0 (r - suc k) (r - suc j) (sum-finite (later_sizes r a k) (a.s k) (total_of_pivot t)).0 zero-le (omega arith)))

  -- The additions are in range where their total is finite.
  total_in_range_of : T (finite total) → T (additions && last)
  unfolding add_in_range
  total_in_range_of t =
      and_i additions last (total_in_range 0·0 (falling r (weighed a.z (a.t k))) 0 (r - suc k) (sum-finite (later_sizes r a k) (a.s k) t).0) t

  pub in_range-finite : T (pivot_in_range r a k) → T (finite (pivot r a k))
  unfolding pivot pivot_in_range add_in_range
  in_range-finite t =
      over_in_range_lem a.z k total (and_r (products && additions) last (and_l (products && additions && last) division t)) (and_r (products && additions && last) division t)

  -- So the products, a finite total and the division are enough to ask for.
  asked : T products → T (finite total) → T division → T (pivot_in_range r a k)
  unfolding pivot_in_range
  asked p t d =
      let both = total_in_range_of t in
      and_i (products && additions && last) division (and_i (products && additions) last (and_i products additions p (and_l additions last both)) (and_r additions last both)) d

  pub parts_of_range : T (pivot_in_range r a k) → T products × T additions × T last × T division
  unfolding pivot_in_range
  parts_of_range t =
      let sums = and_l (products && additions && last) division t in
      let first = and_l (products && additions) last sums in
      (and_l products additions first, and_r products additions first, and_r (products && additions) last sums, and_r (products && additions && last) division t)

-- Without weights a finite pivot is all that question 10 asks of it.
pub finite_in_range : (r : ℕ) (a : System) (k : ℕ) → a.z ≡ none → T (finite (pivot r a k)) → T (pivot_in_range r a k)
finite_in_range r a k e t = asked r a k (rw e tt) (total_of_pivot r a k t) (rw e tt)

pub plain_test : (r : ℕ) (a : System) (k : ℕ) → a.z ≡ none → finite (pivot r a k) ≡ pivot_in_range r a k
plain_test r a k e = same_truth (finite (pivot r a k)) (pivot_in_range r a k) (finite_in_range r a k e) (in_range-finite r a k)

-- With weights the products and the division are: a quotient in range shows that its sum is finite.
pub weighted_test : (r : ℕ) (a : System) (k : ℕ) (z : ℕ → Float) → a.z ≡ some z
    → (products_in_range a.z (a.t k) (suc k) (r - suc k) && div_in_range (later_sizes r a k ⊕ a.s k) (z k)) ≡ pivot_in_range r a k
weighted_test r a k z e =
    let tested : over_weight_in_range a.z k (total r a k) ≡ div_in_range (total r a k) (z k) = rw e in
    same_truth (products r a k && div_in_range (total r a k) (z k)) (pivot_in_range r a k)
    (λ t.
    let d = and_r (products r a k) (div_in_range (total r a k) (z k)) t in
    asked r a k (and_l (products r a k) (div_in_range (total r a k) (z k)) t) (dividend_of_range (total r a k) (z k) d) (rw tested d))
    (λ t. let parts = parts_of_range r a k t in and_i (products r a k) (div_in_range (total r a k) (z k)) parts.0 (rw tested at parts.3))
