-- The weights that a list of numbers stands for.
use mathlib.Core.Path.{◌≡◌, refl}
use Prim.Native.Nat.{◌<◌}
use native.Mathlib.Omega.{arith}
use mathlib.Core.List.{List, [], ◌∷◌}
use lib.ListN.{length, get_or}
use lib.Ieee.{Float, nan}
use Rattle.definitions.specs.LeavingRates.{none, some}
use Rattle.passes.specs.Weights.{weights_in}

pub no_weights : (zs : List Float) → length zs ≡ 0 → weights_in zs ≡ none
unfolding weights_in
no_weights [] e = refl
no_weights (z ∷ zs) e = let x : ⊥ = omega arith in absurd x

pub some_weights : (zs : List Float) → 0 < length zs → weights_in zs ≡ some (λ j. get_or zs j nan)
unfolding weights_in
some_weights [] l = let x : ⊥ = omega arith in absurd x
some_weights (z ∷ zs) l = refl
