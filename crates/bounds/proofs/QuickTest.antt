-- The quick range test: where the product of a multiplier with the bound is above 2^-1022, so are the products with the numbers that it bounds.
use mathlib.Core.Path.{sym, ◌∙◌}
use mathlib.Core.Logic.{inl, inr}
use Prim.Native.Nat.{◌<◌}
use native.Mathlib.Nat.{le_refl, eq-zero-or-pos}
use lib.Dec.{T}
use lib.Ieee.{Float, binary64, lt, fits}
use Rattle.exact.proofs.Bools.{or_r}
use Rattle.definitions.specs.Numbers.{◌⊗◌, smallest, finite, is_zero, mul_in_range, units}
use Rattle.rounding.specs.Good.{Good}
use Rattle.rounding.proofs.Laws.{unique_units, zero_is_good, units-zero}
use Rattle.rounding.proofs.Finite.{product-finite}
use Rattle.rounding.proofs.Zeros.{times_zero}
use Rattle.rounding.proofs.ProductRange.{product_in_range, factor_above}
use Rattle.rounding.proofs.AnyNumbers.{any-zero_in_range, multiplier-good}
use Rattle.bounds.specs.Bounds.{Bound, Covers}

-- The bound is not zero there.
bound_positive : {m lo : Float} → Good m → Good lo → T (lt smallest (m ⊗ lo)) → 0 < units lo
unfolding lt
bound_positive {m} {lo} g h a = elim (eq-zero-or-pos (units lo)) [
  | inl z ↦ absurd (rw (unique_units h zero_is_good (z ∙ sym units-zero), times_zero g) at a)
  | inr p ↦ p
]

-- ---- the quick test
pub quick_multiplier : (m lo : Float) → T (fits binary64 m) → T (finite m) → Bound lo → T (lt smallest (m ⊗ lo)) → T (lt smallest m)
quick_multiplier m lo f t b a = factor_above (multiplier-good m lo f t b.good a) b.good b.small a

pub quick_product : (m lo y : Float) → T (fits binary64 m) → Bound lo → Covers lo y → T (lt smallest (m ⊗ lo)) → T (finite (m ⊗ y)) → T (mul_in_range m y)
quick_product m lo y f b c a t =
    let g : Good m = multiplier-good m lo f (product-finite m y t).0 b.good a in
    elim (c (bound_positive g b.good a) (product-finite m y t).1) [
      | inl z ↦ any-zero_in_range m y (or_r (is_zero m) (is_zero y) z) t
      | inr h ↦ product_in_range g g b.good h.0 (le_refl (units m)) h.1 a t
    ]
