-- A pivot of a row that is another row times 2^c is that row's pivot times 2^c, where the weights are the same: nothing else here looks
-- inside a pivot.
use Prim.Native.Nat.{ℕ, suc, ◌+◌, ◌-◌, ◌≤◌, ◌<◌}
use native.Mathlib.Omega.{arith}
use mathlib.Core.Path.{◌≡◌}
use lib.Dec.{T}
use lib.Ieee.{Float}
use Rattle.definitions.specs.Numbers.{mul_in_range}
use Rattle.definitions.specs.LeavingRates.{Weights, none, some, System, weighed, over_weight, pivot, products_in_range, over_weight_in_range, pivot_in_range}
use Rattle.rounding.specs.Scaling.{Scaled}
use Rattle.rounding.proofs.Laws.{quotient_cases}
use Rattle.rounding.proofs.Scaling.{sum_scales, dividend_scales}
use Rattle.steps.proofs.All.{each}
use Rattle.steps.proofs.Pivot.{parts_of_range}
use Rattle.rates_accuracy.specs.LeavingRatesAccuracy.{GoodWeights}
use Rattle.scaling.proofs.ScaledNumbers.{zero-scaled, product-scaled, sum-scaled}

-- A size times its weight, and a sum over one.
module _ (c r : ℕ) (row row' : ℕ → Float) (j : ℕ) (l : j < r) (s : Scaled c (row j) (row' j)) (lo m : ℕ) (low : lo ≤ j) (high : j < lo + m) where
  weighed-scaled : (w : Weights) → GoodWeights r w → T (products_in_range w row lo m) → T (products_in_range w row' lo m) → Scaled c (weighed w row j) (weighed w row' j)
  weighed-scaled none g t t' = s
  weighed-scaled (some z) g t t' =
      product-scaled s (g j l).good (each (λ j. mul_in_range (row j) (z j)) lo m j t low high) (each (λ j. mul_in_range (row' j) (z j)) lo m j t' low high)

over-scaled : (c r k : ℕ) → k < r → (x x' : Float) → Scaled c x x' → (w : Weights) → GoodWeights r w
    → T (over_weight_in_range w k x) → T (over_weight_in_range w k x') → Scaled c (over_weight w k x) (over_weight w k x')
over-scaled c r k l x x' s none g t t' = s
over-scaled c r k l x x' s (some z) g t t' = dividend_scales c x x' (z k) s (g k l).good t (quotient_cases x' (z k) t').0

pub pivot-scaled : (c r k : ℕ) (a a' : System) → k < r → GoodWeights r a.z → ((j : ℕ) → k < j → j < r → Scaled c (a.t k j) (a'.t k j)) → Scaled c (a.s k) (a'.s k)
    → a'.z ≡ a.z → T (pivot_in_range r a k) → T (pivot_in_range r a' k) → Scaled c (pivot r a k) (pivot r a' k)
unfolding pivot
pivot-scaled c r k a a' l g sizes exit weights t t' =
    let w = a.z in
    let parts = parts_of_range r a k t in
    let parts' = rw weights at (parts_of_range r a' k t') in
    let terms : (q : ℕ) → 0 ≤ q → q < 0 + (r - suc k) → Scaled c (weighed w (a.t k) (r - suc q)) (weighed w (a'.t k) (r - suc q)) =
    λ q _ h.
    weighed-scaled c r (a.t k) (a'.t k) (r - suc q) (omega arith) (sizes (r - suc q) (omega arith) (omega arith)) (suc k) (r - suc k) (omega arith) (omega arith) w g parts.0 parts'.0 in
    let later = sum-scaled 0 (r - suc k) zero-scaled terms parts'.1 in
    let total = sum_scales c _ _ (a.s k) (a'.s k) later exit parts'.2 in
    rw weights (over-scaled c r k l _ _ total w g parts.3 parts'.3)
