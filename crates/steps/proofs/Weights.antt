-- What a pivot does with weights (document 02, U10), or without: laws of its products, of the division by a weight, and of their tests.
use mathlib.Core.Path.{◌≡◌, refl, ap₂, ◌∙◌}
use Prim.Native.Nat.{ℕ, suc, ◌-◌, ◌<◌}
use native.Mathlib.Omega.{arith}
use lib.Dec.{T}
use lib.Ieee.{Float}
use Rattle.definitions.specs.Numbers.{◌⊗◌, ◌⊘◌, finite, mul_in_range, div_in_range}
use Rattle.definitions.specs.LeavingRates.{Weights, none, some, weighed, over_weight, products_in_range, over_weight_in_range}
use Rattle.rounding.proofs.Finite.{product-finite, quotient-finite, quotient_of_range}
use Rattle.steps.proofs.All.{all_same}

-- Weights that agree at the stages before r.
abbrev pub SameWeights : ℕ → Weights → Weights → Type 0
SameWeights r none none = Unit {0}
SameWeights r none (some z') = ⊥
SameWeights r (some z) none = ⊥
SameWeights r (some z) (some z') = (j : ℕ) → j < r → z j ≡ z' j

pub weights-refl : (r : ℕ) (w : Weights) → SameWeights r w w
weights-refl r none = tt
weights-refl r (some z) = λ j l. refl

pub weights_then : (r : ℕ) (u v w : Weights) → SameWeights r u v → SameWeights r v w → SameWeights r u w
weights_then r none none w s t = t
weights_then r none (some z) w s t = absurd s
weights_then r (some y) none w s t = absurd s
weights_then r (some y) (some z) none s t = absurd t
weights_then r (some x) (some y) (some z) s t = λ j l. s j l ∙ t j l

-- Rows that agree after k.
module _ (r k : ℕ) (row row' : ℕ → Float) (rows : (j : ℕ) → k < j → j < r → row j ≡ row' j) where
  pub weighed_same : (w w' : Weights) → SameWeights r w w' → (j : ℕ) → k < j → j < r → weighed w row j ≡ weighed w' row' j
  weighed_same none none s j l m = rows j l m
  weighed_same none (some z') s j l m = absurd s
  weighed_same (some z) none s j l m = absurd s
  weighed_same (some z) (some z') s j l m = ap₂ (λ x y. x ⊗ y) (rows j l m) (s j m)

  pub products_same : (w w' : Weights) → SameWeights r w w' → products_in_range w row (suc k) (r - suc k) ≡ products_in_range w' row' (suc k) (r - suc k)
  products_same none none s = refl
  products_same none (some z') s = absurd s
  products_same (some z) none s = absurd s
  products_same (some z) (some z') s =
      all_same (λ j. mul_in_range (row j) (z j)) (λ j. mul_in_range (row' j) (z' j)) (suc k) (r - suc k)
      (λ j l m. ap₂ mul_in_range (rows j l (omega arith)) (s j (omega arith)))

module _ (r k : ℕ) (l : k < r) {x x' : Float} (e : x ≡ x') where
  pub over_same : (w w' : Weights) → SameWeights r w w' → over_weight w k x ≡ over_weight w' k x'
  over_same none none s = e
  over_same none (some z') s = absurd s
  over_same (some z) none s = absurd s
  over_same (some z) (some z') s = ap₂ (λ x y. x ⊘ y) e (s k l)

  pub over_test_same : (w w' : Weights) → SameWeights r w w' → over_weight_in_range w k x ≡ over_weight_in_range w' k x'
  over_test_same none none s = refl
  over_test_same none (some z') s = absurd s
  over_test_same (some z) none s = absurd s
  over_test_same (some z) (some z') s = ap₂ div_in_range e (s k l)

-- Finiteness backwards.
pub weighed-finite : (w : Weights) (row : ℕ → Float) (j : ℕ) → T (finite (weighed w row j)) → T (finite (row j))
weighed-finite none row j t = t
weighed-finite (some z) row j t = (product-finite (row j) (z j) t).0

pub over-finite : (w : Weights) (k : ℕ) (x : Float) → T (finite (over_weight w k x)) → T (finite x)
over-finite none k x t = t
over-finite (some z) k x t = quotient-finite x (z k) t

-- A sum that is finite stays so where its division is in range.
pub over_in_range_lem : (w : Weights) (k : ℕ) (x : Float) → T (finite x) → T (over_weight_in_range w k x) → T (finite (over_weight w k x))
over_in_range_lem none k x t u = t
over_in_range_lem (some z) k x t u = quotient_of_range x (z k) u
