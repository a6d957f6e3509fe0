-- Sheets to move (document 02, U4, U5 and U10): calls with what they answer and leave, and one claim about all of them.
use Rattle.std.specs.Prelude.{◌-◌, ◌*◌, ◌^◌, List, [], ◌∷◌, ℤ, pos, negsuc, Float}
use Rattle.std.specs.Float.{nan}
use Rattle.definitions.specs.Moving.{move_answer, moved_area}
use Rattle.definitions.specs.Starred.{num, quo, minus, sheet_w}
use Rattle.definitions.specs.Calls.{Line, Service, Claim, line, in_unit, gives, refuses, one, single, P, most}

-- What stands beside the sheet is k.
abbrev of_moving : Service ℤ ℤ
of_moving = record { answers = move_answer; leaves = moved_area }

unfoldable pub MoveClaim : List (Line ℤ ℤ) → Type 0
MoveClaim lines = Claim of_moving lines

-- Places before the call.
abbrev five : List Float
five = num 5 ∷ num 6 ∷ num 7 ∷ num 8 ∷ num 9 ∷ []

abbrev H : List Float
H = num 3 ∷ minus (num 1) ∷ minus (num 4) ∷ num 1 ∷ []

unfoldable pub move_lines : List (Line ℤ ℤ)
move_lines =
    line 1 2 P (pos 10) five (gives (pos 10) (num 1024 ∷ minus (num 1024) ∷ minus (num 1024) ∷ num 0 ∷ num 9 ∷ []))
    ∷ line 2 2 H (negsuc 0) five (gives (negsuc 0) (quo 3 2 ∷ minus (quo 1 2) ∷ minus (num 2) ∷ quo 1 2 ∷ num 9 ∷ []))
    -- weights stay as they are, also where their products would have no room; they need room in the area
    ∷ line 3 2 sheet_w (pos 1) (num 4 ∷ five) (gives (pos 1) (num 4 ∷ minus (num 2) ∷ minus (num 2) ∷ num 3 ∷ num 1 ∷ num 2 ∷ []))
    ∷ line 3 1 (num 1 ∷ most ∷ []) (pos 1) five (gives (pos 1) (num 2 ∷ most ∷ num 7 ∷ num 8 ∷ num 9 ∷ []))
    ∷ line 3 1 (num 1 ∷ num 1 ∷ []) (pos 1) one (refuses 4 0 0 one)
    -- a zero keeps its sign
    ∷ line 1 2 (minus (num 0) ∷ num 0 ∷ minus (num 0) ∷ num 1 ∷ []) (pos 3) five (gives (pos 3) (minus (num 0) ∷ num 0 ∷ minus (num 0) ∷ num 8 ∷ num 9 ∷ []))
    -- the range of k, both ends
    ∷ single 1 (quo 1 (2 ^ 510)) (negsuc 511) (gives (negsuc 511) (quo 1 (2 ^ 1022) ∷ []))
    ∷ single 1 (num (2 ^ 511)) (pos 512) (gives (pos 512) (num (2 ^ 1023) ∷ []))
    ∷ single 1 (num 1) (pos 513) (refuses 15 0 0 one)
    ∷ single 1 (num 1) (negsuc 512) (refuses 15 0 0 one)
    ∷ single 1 (num 1) (negsuc (2 ^ 63 - 1)) (refuses 15 0 0 one)
    -- below 2^-1022: exactly, though the product rounds to 2^-1022; above the largest number, of either sign
    ∷ single 1 (quo 1 (2 ^ 511)) (negsuc 511) (refuses 16 0 0 one)
    ∷ single 1 (quo (2 ^ 53 - 1) (2 ^ 563)) (negsuc 511) (refuses 16 0 0 one)
    ∷ single 1 (num (2 ^ 512)) (pos 512) (refuses 16 0 0 one)
    ∷ single 1 (num ((2 ^ 53 - 1) * 2 ^ 459)) (pos 512) (gives (pos 512) (most ∷ []))
    ∷ single 1 most (pos 1) (refuses 16 0 0 one)
    ∷ line 1 2 (num 1 ∷ minus most ∷ num 0 ∷ num 1 ∷ []) (pos 1) five (refuses 16 0 0 five)
    ∷ line 1 2 (num 1 ∷ num 0 ∷ minus (quo 1 (2 ^ 1022)) ∷ num 1 ∷ []) (negsuc 0) five (refuses 16 0 0 five)
    -- the moved sheet's unit, both ends; 17 before 16 and after 15
    ∷ in_unit (negsuc 9) (single 1 (num 1) (pos 10) (gives (pos 0) (num 1024 ∷ [])))
    ∷ in_unit (pos 500) (single 1 (num 1) (pos 12) (gives (pos 512) (num 4096 ∷ [])))
    ∷ in_unit (pos 500) (single 1 (num 1) (pos 13) (refuses 17 0 0 one))
    ∷ in_unit (negsuc 510) (single 1 (num 1) (negsuc 0) (gives (negsuc 511) (quo 1 2 ∷ [])))
    ∷ in_unit (negsuc 511) (single 1 (quo 1 (2 ^ 1022)) (negsuc 0) (refuses 17 0 0 one))
    ∷ in_unit (pos 512) (single 1 (num 1) (pos 513) (refuses 15 0 0 one))
    -- 9 and 10 are not asked
    ∷ line 1 2 (num 0 ∷ minus (num 1) ∷ minus (num 1) ∷ num 0 ∷ []) (pos 1) five (gives (pos 1) (num 0 ∷ minus (num 2) ∷ minus (num 2) ∷ num 0 ∷ num 9 ∷ []))
    ∷ single 1 (num (2 ^ 1022)) (pos 1) (gives (pos 1) (num (2 ^ 1023) ∷ []))
    -- the questions before them, in order
    ∷ single 1 (num (2 ^ 600)) (pos 600) (refuses 15 0 0 one)
    ∷ single 1 (quo 1 (2 ^ 1074)) (pos 600) (refuses 8 1 1 one)
    ∷ line 1 2 (num 1 ∷ num 1 ∷ num 0 ∷ quo 1 (2 ^ 1074) ∷ []) (pos 600) five (refuses 7 1 2 five)
    ∷ single 2 (num 0) (pos 600) (refuses 7 1 1 one)
    ∷ line 1 2 (num 1 ∷ num 1 ∷ nan ∷ num 1 ∷ []) (pos 600) five (refuses 6 2 1 five)
    ∷ line 1 2 (nan ∷ nan ∷ nan ∷ nan ∷ []) (pos 600) one (refuses 4 0 0 one)
    ∷ line 1 2 (nan ∷ []) (pos 600) one (refuses 3 0 0 one)
    ∷ in_unit (negsuc 512) (line 1 2 (nan ∷ []) (pos 600) one (refuses 12 0 0 one))
    ∷ in_unit (negsuc 512) (line 1 33 [] (pos 600) [] (refuses 2 0 0 []))
    ∷ line 4 0 [] (pos 600) [] (refuses 1 0 0 [])
    ∷ []
