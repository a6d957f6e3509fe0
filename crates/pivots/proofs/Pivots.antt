-- A pivot from its parts, with weights and without.
use mathlib.Core.Path.{◌≡◌, refl, ap, ap₂, ◌∙◌}
use Prim.Native.Nat.{ℕ, suc, ◌-◌, ◌<◌}
use mathlib.Core.Bool.{Bool, ◌&&◌}
use mathlib.Core.List.{List}
use lib.ListN.{length, get_or}
use lib.Ieee.{Float, nan}
use Rattle.definitions.specs.Numbers.{◌⊕◌, ◌⊘◌, finite, div_in_range}
use Rattle.definitions.specs.LeavingRates.{none, some, later_sizes, pivot, products_in_range, pivot_in_range}
use Rattle.steps.proofs.Pivot.{plain_test, weighted_test}
use Rattle.passes.specs.Weights.{weights_in}
use Rattle.passes.specs.Multipliers.{system_in}
use Rattle.passes.specs.Stages.{IsStage}
use Rattle.passes.proofs.Weights.{no_weights, some_weights}

module _ (r k : ℕ) (f : ℕ → ℕ → Float) {s x : Float} (sum : s ≡ f k k) where
  plain_pivot : x ≡ later_sizes r (system_in none f) k → x ⊕ s ≡ pivot r (system_in none f) k
  unfolding pivot
  plain_pivot e = ap₂ (λ x y. x ⊕ y) e sum

  pub plain_begun : (zs : List Float) {ok : Bool} → length zs ≡ 0 → x ≡ later_sizes r (system_in none f) k → ok ≡ finite (x ⊕ s)
      → IsStage (weights_in zs) r k f s (x ⊕ s) × (ok ≡ pivot_in_range r (system_in (weights_in zs) f) k)
  plain_begun zs l e t =
      rw (no_weights zs l)
      (record { sum = sum; pivots = plain_pivot e }, t ∙ ap finite (plain_pivot e) ∙ plain_test r (system_in none f) k refl)

  module _ (z : ℕ → Float) (e : x ≡ later_sizes r (system_in (some z) f) k) where
    total_is : x ⊕ s ≡ later_sizes r (system_in (some z) f) k ⊕ f k k
    total_is = ap₂ (λ x y. x ⊕ y) e sum

    weighed-pivot : (x ⊕ s) ⊘ z k ≡ pivot r (system_in (some z) f) k
    unfolding pivot
    weighed-pivot = ap (λ t. t ⊘ z k) total_is

    weighed_range : {products step : Bool} → products ≡ products_in_range (some z) (f k) (suc k) (r - suc k) → step ≡ div_in_range (x ⊕ s) (z k)
        → (products && step) ≡ pivot_in_range r (system_in (some z) f) k
    weighed_range p d = ap₂ ◌&&◌ p (d ∙ ap (λ t. div_in_range t (z k)) total_is) ∙ weighted_test r (system_in (some z) f) k z refl

  pub weighed-begun : (zs : List Float) {products step : Bool} → 0 < length zs
      → x ≡ later_sizes r (system_in (weights_in zs) f) k → products ≡ products_in_range (weights_in zs) (f k) (suc k) (r - suc k)
      → step ≡ div_in_range (x ⊕ s) (get_or zs k nan)
      → IsStage (weights_in zs) r k f s ((x ⊕ s) ⊘ get_or zs k nan) × ((products && step) ≡ pivot_in_range r (system_in (weights_in zs) f) k)
  weighed-begun zs l =
      rw (some_weights zs l)
      (λ e p d. (record { sum = sum; pivots = weighed-pivot (λ j. get_or zs j nan) e }, weighed_range (λ j. get_or zs j nan) e p d))
