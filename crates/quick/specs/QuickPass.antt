-- What a yes of the quick pass says: questions 6, 7 and 8 pass (document 01, "The questions, in order").
use Rattle.std.specs.Prelude.{Bool, ◌&&◌, ◌||◌, List, ◌≡◌, ℕ, ◌<◌, T, length, get_or, Float}
use Rattle.std.specs.Float.{nan, binary64}
use Rattle.std.specs.Float.Ieee.{eq, le, of_bits}
use Rattle.definitions.specs.Sheet.{place}
use Rattle.places.specs.PlaceQuestions.{passes}

-- The number x passes all three wherever it stands on the diagonal of n stages, or off it, or as a weight.
pub record PassesOn (reading : ℕ) (x : Float) : Type 0 where
  pub at : (question n i : ℕ) → (i ≡ n → ⊥) → T (passes question reading n i i x)

pub record PassesOff (x : Float) : Type 0 where
  pub at : (question reading n i j : ℕ) → (i ≡ n → ⊥) → (i ≡ j → ⊥) → T (passes question reading n i j x)

pub record PassesWeight (x : Float) : Type 0 where
  pub at : (question reading n j : ℕ) → T (passes question reading n n j x)

-- Each number of a part is from `low` to `high`, or zero where zeros count.
abbrev pub within : Bool → Float → Float → Float → Bool
within zeros low high x = (eq x (of_bits binary64 0) && zeros) || (le low x && le x high)

abbrev pub PartWithin : Bool → Float → Float → List Float → Type 0
PartWithin zeros low high part = (k : ℕ) → k < length part → T (within zeros low high (get_or part k nan))

-- The diagonal; a stretch of numbers off it; all numbers off it; the weights.
abbrev pub DiagonalPasses : ℕ → ℕ → List Float → Type 0
DiagonalPasses reading n sheet = (i : ℕ) → i < n → PassesOn reading (place n sheet i i)

abbrev pub StretchPasses : List Float → Type 0
StretchPasses part = (k : ℕ) → k < length part → PassesOff (get_or part k nan)

abbrev pub SizesPass : ℕ → List Float → Type 0
SizesPass n sheet = (i j : ℕ) → i < n → j < n → (i ≡ j → ⊥) → PassesOff (place n sheet i j)

abbrev pub WeightsPass : List Float → Type 0
WeightsPass part = (k : ℕ) → k < length part → PassesWeight (get_or part k nan)
