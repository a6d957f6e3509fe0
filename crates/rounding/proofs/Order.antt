-- Order by value at binary64: `<` is that of units, and a product keeps the order of its factors.
use mathlib.Core.Path.{◌≡◌, sym, ap₂, ◌∙◌}
use Prim.Native.Nat.{◌≤◌}
use lib.Dec.{T, ltb}
use lib.Ieee.{Float, binary64, lt}
use Rattle.definitions.specs.Numbers.{◌⊗◌, finite, units}
use Rattle.rounding.specs.Good.{Good}
use Rattle.rounding.proofs.Compare.{lt_amounts}
use Rattle.rounding.proofs.Round.{Below}
use Rattle.rounding.proofs.Operations.{mul-below}
use Rattle.rounding.proofs.Laws.{units_is, in_scale, finite_is}

module _ {x y : Float} (g : Good x) (h : Good y) where
  pub lt-units : lt x y ≡ ltb (units x) (units y)
  lt-units = lt_amounts g h ∙ ap₂ ltb (sym (units_is x)) (sym (units_is y))

-- x is finite, and no larger than y
pub record AtMost (x y : Float) : Type 0 where
  pub is_finite : T (finite x)
  pub no_more : units x ≤ units y

at_most : {x y : Float} → Below binary64 x y → AtMost x y
at_most {x} {y} b = record { is_finite = rw (finite_is x) b.is_finite; no_more = rw (units_is x, units_is y) b.no_more }

module _ {x x' y y' : Float} (g : Good x) (g' : Good x') (h : Good y) (h' : Good y') (p : units x ≤ units x') where
  pub product_monotone : units y ≤ units y' → T (finite (x' ⊗ y')) → AtMost (x ⊗ y) (x' ⊗ y')
  product_monotone q t = at_most (mul-below g g' h h' (rw (units_is x, units_is x') at p) (rw (units_is y, units_is y') at q) (in_scale (x' ⊗ y') t))
