-- What questions 6, 7 and 8 ask of a place, so that one search serves all three (document 01, "The questions, in order").
use Rattle.std.specs.Prelude.{Bool, cond, List, ℕ, Option, Some, None, ◌≡◌, eqb, Float}
use Rattle.std.specs.Float.Ieee.{lt, le}
use Rattle.definitions.specs.Numbers.{0·0, finite}
use Rattle.definitions.specs.Sheet.{sheet_rows, place}
use Rattle.definitions.specs.Questions.{Asked, pass, refuse, ask_rows, large_enough}

-- 7, of the number x at row i and column j of n stages; the weights stand in row n.
unfoldable pub sign_at : ℕ → ℕ → ℕ → ℕ → Float → Bool
sign_at reading n i j x = cond (eqb i n) (lt 0·0 x) (cond (eqb i j) (cond (eqb reading 1) (le 0·0 x) (lt 0·0 x)) (le x 0·0))

-- 6, 7 or 8, of that number.
unfoldable pub passes : ℕ → ℕ → ℕ → ℕ → ℕ → Float → Bool
passes question reading n i j x = cond (eqb question 6) (finite x) (cond (eqb question 7) (sign_at reading n i j x) (large_enough x))

-- Of every place, row by row.
unfoldable pub ask_places : ℕ → ℕ → ℕ → List Float → Asked
ask_places question reading n sheet = ask_rows (λ i j. passes question reading n i j (place n sheet i j)) question n 0 (sheet_rows reading n)

-- The same for any test of a number at its row and column.
unfoldable pub search_places : (ℕ → ℕ → Float → Bool) → ℕ → ℕ → ℕ → List Float → Asked
search_places good question reading n sheet = ask_rows (λ i j. good i j (place n sheet i j)) question n 0 (sheet_rows reading n)

-- The first bad place, by its row and column counted from 1, if there is one, as a refusal under a question's number.
abbrev pub at_place : ℕ → Option (ℕ × ℕ) → Asked
at_place question None = pass
at_place question (Some place) = refuse question place.0 place.1

-- What a closure computes (its results, by arguments) is that test.
abbrev pub Computes : (ℕ → ℕ → Float → Bool → Type 0) → (ℕ → ℕ → Float → Bool) → Type 0
Computes gives good = (i j : ℕ) (x : Float) (b : Bool) → gives i j x b → b ≡ good i j x
