-- Sheets to move and to make a table of (document 02, U9 and U10): the whole table's calls on what a move by k leaves, with what they answer
-- and leave, and one claim about all of them.
use Rattle.std.specs.Prelude.{ℕ, ◌^◌, List, [], ◌∷◌, ℤ, pos, negsuc, ◌+ℤ◌, take, Float}
use Rattle.definitions.specs.Sheet.{sheet_numbers}
use Rattle.definitions.specs.Services.{table_answer, table_area}
use Rattle.definitions.specs.Moving.{moved_area}
use Rattle.definitions.specs.Starred.{num, quo, minus, sheet_w}
use Rattle.definitions.specs.Calls.{Line, Service, Claim, line, gives, refuses, one, single, P}

-- The sheet that the move leaves in an area as long as the sheet.
unfoldable pub moved : ℕ → ℕ → ℤ → List Float → ℤ → List Float
moved reading n e sheet k = take (sheet_numbers reading n) (moved_area reading n e sheet k sheet)

-- What stands beside the sheet is k.
abbrev after_move : Service ℤ ℕ
after_move =
    record {
      answers = λ reading n e sheet k room. table_answer reading n (e +ℤ k) (moved reading n e sheet k) room;
      leaves = λ reading n e sheet k area. table_area reading n (e +ℤ k) (moved reading n e sheet k) area;
    }

unfoldable pub AfterMoveClaim : List (Line ℤ ℕ) → Type 0
AfterMoveClaim lines = Claim after_move lines

abbrev four : List Float
four = num 6 ∷ num 7 ∷ num 8 ∷ num 9 ∷ []

-- P's table is 1, 1, 1, 2, that of H is 1/2, 1/4, 1, 1, that of D, where the second stage is idle, is 1, 0, 0, 0, and that of W is
-- 5/16, 1/4, 1/4, 1.
unfoldable pub after_moves : List (Line ℤ ℕ)
after_moves =
    line 1 2 P (negsuc 9) four (gives 32 (num 1024 ∷ num 1024 ∷ num 1024 ∷ num 2048 ∷ []))
    ∷ line 1 2 P (pos 512) four (gives 32 (quo 1 (2 ^ 512) ∷ quo 1 (2 ^ 512) ∷ quo 1 (2 ^ 512) ∷ quo 1 (2 ^ 511) ∷ []))
    ∷ line 2 2 (num 3 ∷ minus (num 1) ∷ minus (num 4) ∷ num 1 ∷ []) (pos 3) four (gives 96 (quo 1 16 ∷ quo 1 32 ∷ quo 1 8 ∷ quo 1 8 ∷ []))
    ∷ line 1 2 (num 1 ∷ minus (num 0) ∷ num 0 ∷ num 0 ∷ []) (pos 2) four (gives 32 (quo 1 4 ∷ num 0 ∷ num 0 ∷ num 0 ∷ []))
    ∷ line 3 2 sheet_w (pos 2) four (gives 48 (quo 5 64 ∷ quo 1 16 ∷ quo 1 16 ∷ quo 1 4 ∷ []))
    -- acceptance does not carry over: E moved by 1 is F, and F moved back is E
    ∷ single 1 (num (2 ^ 1021)) (pos 1) (refuses 10 0 0 one)
    ∷ single 1 (num (2 ^ 1022)) (negsuc 0) (gives 4 (quo 1 (2 ^ 1021) ∷ []))
    ∷ []
