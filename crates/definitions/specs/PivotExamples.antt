-- Pivots to try (document 02, U8 and U10): first rows with their pivots, and one claim about all of them.
use Rattle.std.specs.Prelude.{suc, ◌+◌, ◌-◌, ◌^◌, List, [], ◌∷◌, map, ◌≡◌, length, get_or, Float}
use Rattle.std.specs.Float.{nan}
use Rattle.definitions.specs.LeavingRates.{Weights, none, some, pivot}
use Rattle.definitions.specs.Starred.{num, quo, minus, word}

-- The leaving rate s_1, the sizes t_12, t_13 and so on, weights z_1, z_2 and so on or none, and the pivot p_1.
pub record Row : Type 0 where
  pub exit : Float
  pub sizes : List Float
  pub weights : Weights
  pub expected : Float

abbrev row : Float → List Float → Float → Row
row exit sizes expected = record { exit = exit; sizes = sizes; weights = none; expected = expected }

abbrev weighted_row : Float → List Float → List Float → Float → Row
weighted_row exit sizes weights expected = record { exit = exit; sizes = sizes; weights = some (λ j. get_or weights j nan); expected = expected }

unfoldable pub first_pivot : Row → Float
first_pivot row =
    pivot (suc (length row.sizes)) (record { t = λ i j. get_or row.sizes (j - 1) nan; s = λ i. row.exit; z = row.weights }) 0

unfoldable pub PivotClaim : List Row → Type 0
PivotClaim rows = map first_pivot rows ≡ map (λ row. row.expected) rows

unfoldable pub pivots : List Row
pivots =
    -- one stage alone: plus zero and minus zero is plus zero
    row (minus (num 0)) [] (num 0)
    ∷ row (num 1) (num 2 ∷ num 4 ∷ []) (num 7)
    -- s_1 last
    ∷ row (num (2 ^ 53)) (num 1 ∷ num 1 ∷ []) (num (2 ^ 53 + 2))
    -- the sizes from the last back
    ∷ row (num 0) (num (2 ^ 53) ∷ num 1 ∷ num 1 ∷ []) (num (2 ^ 53 + 2))
    -- both: s_1 first, or the sizes rising, would make it 2^53 + 4
    ∷ row (quo 3 4) (num (2 ^ 53) ∷ quo 5 4 ∷ quo 5 4 ∷ []) (word 0x4340000000000001)
    -- with weights: each size times its own, then s_1, and then the sum over z_1
    ∷ weighted_row (num 5) (num 3 ∷ num 7 ∷ []) (num 4 ∷ num 2 ∷ num 11 ∷ []) (num 22)
    ∷ weighted_row (num 1) [] (num 3 ∷ []) (quo 1 3)
    ∷ weighted_row (num 0) (num (2 ^ 52) ∷ quo 1 3 ∷ quo 1 3 ∷ []) (num 1 ∷ num 2 ∷ num 3 ∷ num 3 ∷ []) (num (2 ^ 53 + 2))
    ∷ []
