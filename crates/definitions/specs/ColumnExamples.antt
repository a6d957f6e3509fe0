-- Columns to try (document 02, U2 and U3): calls with what they answer and leave, and one claim about all of them.
use Rattle.std.specs.Prelude.{ℕ, ◌^◌, List, [], ◌∷◌, pos, negsuc, Float}
use Rattle.std.specs.Float.{nan}
use Rattle.definitions.specs.Column.{column_answer, column_area}
use Rattle.definitions.specs.Starred.{num, quo, minus, word}
use Rattle.definitions.specs.Calls.{Line, Service, Claim, line, in_unit, gives, refuses, one, three, P, edge, most}

-- What stands beside the sheet is the stage.
abbrev of_column : Service ℕ ℕ
of_column = record { answers = λ reading n e sheet stage room. column_answer reading n e sheet room stage; leaves = column_area }

unfoldable pub ColumnClaim : List (Line ℕ ℕ) → Type 0
ColumnClaim lines = Claim of_column lines

abbrev tiny : Float
tiny = quo 1 (2 ^ 600)

unfoldable pub columns : List (Line ℕ ℕ)
columns =
    line 1 2 P 1 three (gives 32 (num 1 ∷ num 1 ∷ num 9 ∷ []))
    ∷ line 1 2 P 2 three (gives 32 (num 1 ∷ num 2 ∷ num 9 ∷ []))
    ∷ line 1 2 edge 1 three (gives 32 (num 1 ∷ num 0 ∷ num 9 ∷ []))
    ∷ line 1 2 edge 2 three (refuses 10 0 0 three)
    -- a downward product of the first column, an upward one of the last
    ∷ line 1 3 (num 1 ∷ num 0 ∷ num 0 ∷ minus tiny ∷ num 1 ∷ num 0 ∷ num 0 ∷ minus tiny ∷ num 1 ∷ []) 1 three (refuses 10 0 0 three)
    ∷ line 1 3 (num 1 ∷ num 0 ∷ num 0 ∷ minus tiny ∷ num 1 ∷ num 0 ∷ num 0 ∷ minus tiny ∷ num 1 ∷ []) 2 three (gives 108 (num 0 ∷ num 1 ∷ tiny ∷ []))
    ∷ line 1 3 (num 1 ∷ minus tiny ∷ num 0 ∷ num 0 ∷ num 1 ∷ minus tiny ∷ num 0 ∷ num 0 ∷ num 1 ∷ []) 3 three (refuses 10 0 0 three)
    ∷ line 1 3 (num 1 ∷ minus tiny ∷ num 0 ∷ num 0 ∷ num 1 ∷ minus tiny ∷ num 0 ∷ num 0 ∷ num 1 ∷ []) 2 three (gives 108 (tiny ∷ num 1 ∷ num 0 ∷ []))
    -- a pivot that overflows is a step of every column
    ∷ line 1 3 (num 1 ∷ num 0 ∷ num 0 ∷ num 0 ∷ most ∷ minus most ∷ num 0 ∷ num 0 ∷ num 1 ∷ []) 1 three (refuses 10 0 0 three)
    -- a pivot adds s_k last (document 02, U8): 2^53 + 2, where from s_1 on each 1 would be lost
    ∷ line 1 3 (num (2 ^ 53) ∷ minus (num 1) ∷ minus (num 1) ∷ num 0 ∷ num 1 ∷ num 0 ∷ num 0 ∷ num 0 ∷ num 1 ∷ []) 1 three
    (gives 108 (word 0x3c9ffffffffffffe ∷ num 0 ∷ num 0 ∷ []))
    -- idle stages: a column of zeros, with the steps of the others, those that serve every column and no other column's
    ∷ line 1 2 (num 1 ∷ num 0 ∷ num 0 ∷ num 0 ∷ []) 1 three (gives 32 (num 1 ∷ num 0 ∷ num 9 ∷ []))
    ∷ line 1 2 (num 1 ∷ num 0 ∷ num 0 ∷ num 0 ∷ []) 2 three (gives 32 (num 0 ∷ num 0 ∷ num 9 ∷ []))
    ∷ line 1 2 (num 0 ∷ num 0 ∷ num 0 ∷ num (2 ^ 1022) ∷ []) 1 three (gives 32 (num 0 ∷ num 0 ∷ num 9 ∷ []))
    ∷ line 1 2 (num 0 ∷ num 0 ∷ num 0 ∷ num (2 ^ 1022) ∷ []) 2 three (refuses 10 0 0 three)
    ∷ line 1 3 (num 0 ∷ num 0 ∷ num 0 ∷ num 0 ∷ most ∷ minus most ∷ num 0 ∷ num 0 ∷ num 1 ∷ []) 1 three (refuses 10 0 0 three)
    -- the same numbers in every unit
    ∷ in_unit (negsuc 511) (line 1 2 P 2 three (gives 32 (num 1 ∷ num 2 ∷ num 9 ∷ [])))
    -- the questions before it, in order
    ∷ line 2 0 [] 0 [] (refuses 1 0 0 [])
    ∷ line 3 1 (num 2 ∷ num 1 ∷ []) 1 one (refuses 1 0 0 one)
    ∷ in_unit (pos 513) (line 1 33 [] 0 [] (refuses 2 0 0 []))
    ∷ in_unit (pos 513) (line 1 2 (nan ∷ []) 0 one (refuses 12 0 0 one))
    ∷ line 1 2 (nan ∷ []) 0 one (refuses 3 0 0 one)
    ∷ line 1 2 (nan ∷ nan ∷ nan ∷ nan ∷ []) 0 one (refuses 4 0 0 one)
    ∷ line 1 2 (nan ∷ nan ∷ nan ∷ nan ∷ []) 0 three (refuses 5 0 0 three)
    ∷ line 1 2 (nan ∷ nan ∷ nan ∷ nan ∷ []) 3 three (refuses 5 0 0 three)
    ∷ line 1 2 (num 1 ∷ num 1 ∷ nan ∷ num 1 ∷ []) 1 three (refuses 6 2 1 three)
    ∷ line 1 2 (num 0 ∷ num 1 ∷ num 0 ∷ num 0 ∷ []) 1 three (refuses 7 1 2 three)
    ∷ line 1 2 (num 0 ∷ minus (quo 1 (2 ^ 1074)) ∷ num 0 ∷ num 0 ∷ []) 1 three (refuses 8 1 2 three)
    ∷ line 1 2 (num (2 ^ 1022) ∷ minus (num 1) ∷ num 0 ∷ num 0 ∷ []) 1 three (refuses 9 2 0 three)
    ∷ []
