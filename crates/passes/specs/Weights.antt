-- The weights lent to the steps (document 02, U10): no number, which is none, or one for each stage.
use Rattle.std.specs.Prelude.{ℕ, ◌≤◌, ◌<◌, List, [], ◌∷◌, length, get_or, Float}
use Rattle.std.specs.Float.{nan}
use Rattle.definitions.specs.LeavingRates.{Weights, none, some}

unfoldable pub weights_in : List Float → Weights
weights_in [] = none
weights_in (z ∷ zs) = some (λ j. get_or (z ∷ zs) j nan)

abbrev pub Enough : ℕ → List Float → Type 0
Enough r zs = 0 < length zs → r ≤ length zs
