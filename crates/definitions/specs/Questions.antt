-- The refusal and questions 1 to 10, in order (document 01, "The questions, in order"; document 02, U10), and 12 of a sheet's unit.
use Rattle.std.specs.Prelude.{ℕ, zero, suc, ◌*◌, Bool, true, false, not, ◌&&◌, ◌||◌, cond, List, ◌≡◌, leb, eqb, ℤ, pos, negsuc, length, Float}
use Rattle.std.specs.Int.Signed.{le_z}
use Rattle.std.specs.Float.Ieee.{lt, le, neg}
use Rattle.exact.specs.Chains.{out_within}
use Rattle.definitions.specs.Numbers.{0·0, smallest, finite, is_zero}
use Rattle.definitions.specs.Sheet.{sheet_rows, sheet_numbers, place, size, diagonal, idle}
use Rattle.definitions.specs.Table.{every_step_in_range}

-- "A no ends the call with the number, a row and a column."
pub data Asked : Type 0 where
  pass : Asked
  refuse : ℕ → ℕ → ℕ → Asked

-- "Each is asked of the whole sheet before the next."
infixr 20 ◌then◌
abbrev pub ◌then◌ : Asked → Asked → Asked
pass then next = next
refuse number row column then next = refuse number row column

abbrev pub ask : Bool → ℕ → ℕ → ℕ → Asked
ask true number row column = pass
ask false number row column = refuse number row column

-- "With the first bad place; the search goes row by row and stops there": m places of row i from column j on, then m rows of n
-- from row i on.
unfoldable pub ask_row : (ℕ → ℕ → Bool) → ℕ → ℕ → ℕ → ℕ → Asked
ask_row good number i j zero = pass
ask_row good number i j (suc m) = ask (good i j) number (suc i) (suc j) then ask_row good number i (suc j) m

unfoldable pub ask_rows : (ℕ → ℕ → Bool) → ℕ → ℕ → ℕ → ℕ → Asked
ask_rows good number n i zero = pass
ask_rows good number n i (suc m) = ask_row good number i 0 n then ask_rows good number n (suc i) m

-- The first of m stages from i on that fails, as the row.
unfoldable pub ask_stages : (ℕ → Bool) → ℕ → ℕ → ℕ → Asked
ask_stages good number i zero = pass
ask_stages good number i (suc m) = ask (good i) number (suc i) 0 then ask_stages good number (suc i) m

-- 1: "Is the reading 1 or 2?", or 3 (document 02, U10).  2: "Is n from 1 to 32?"
unfoldable pub known_reading : ℕ → Bool
known_reading reading = eqb reading 1 || eqb reading 2 || eqb reading 3

unfoldable pub question1 : ℕ → Asked
question1 reading = ask (known_reading reading) 1 0 0

unfoldable pub question2 : ℕ → Asked
question2 n = ask (leb 1 n && leb n 32) 2 0 0

-- 12, of a sheet that is handed over: its unit is 2^e seconds, e "from −512 to 512" (document 02, U5).
unfoldable pub exponent_in_range : ℤ → Bool
exponent_in_range e = le_z (negsuc 511) e && le_z e (pos 512)

unfoldable pub question12 : ℤ → Asked
question12 e = ask (exponent_in_range e) 12 0 0

-- 3: "Does the lent sheet hold exactly n × n numbers?", in reading 3 "n × n + n numbers" (document 02, U10).
unfoldable pub question3 : ℕ → ℕ → ℕ → Asked
question3 reading n held = ask (eqb held (sheet_numbers reading n)) 3 0 0

-- 1, 2, 12 and 3, of every sheet that is handed over ("e outside its range is 12, asked after 2"); `held` is the count of its numbers.
unfoldable pub size_questions : ℕ → ℕ → ℤ → ℕ → Asked
size_questions reading n e held = question2 n then question12 e then question3 reading n held

unfoldable pub shape_questions : ℕ → ℕ → ℤ → ℕ → Asked
shape_questions reading n e held = question1 reading then size_questions reading n e held

-- 4: "Does the lent area for numbers hold at least n × n?" Each call says how many places it needs.
unfoldable pub question4 : ℕ → ℕ → Asked
question4 needed room = ask (leb needed room) 4 0 0

-- 5: "Are both stages asked for from 1 to n?"
unfoldable pub question5 : ℕ → ℕ → ℕ → Asked
question5 n i j = ask (leb 1 i && leb i n && (leb 1 j && leb j n)) 5 0 0

-- "6 to 8 include the weights, a bad one standing at row n + 1, column j" (document 02, U10).
-- 6: "Is every number finite?"
unfoldable pub question6 : ℕ → ℕ → List Float → Asked
question6 reading n sheet = ask_rows (λ i j. finite (place n sheet i j)) 6 n 0 (sheet_rows reading n)

-- 7: "Are off-diagonals zero or negative, and diagonals zero or positive (reading 1) or positive (reading 2)?" In reading 3 "7 wants
-- diagonals and weights positive".
unfoldable pub right_sign : ℕ → ℕ → List Float → ℕ → ℕ → Bool
right_sign reading n sheet i j =
    let number = place n sheet i j in
    let diagonal = cond (eqb reading 1) (le 0·0 number) (lt 0·0 number) in
    cond (eqb i n) (lt 0·0 number) (cond (eqb i j) diagonal (le number 0·0))

unfoldable pub question7 : ℕ → ℕ → List Float → Asked
question7 reading n sheet = ask_rows (right_sign reading n sheet) 7 n 0 (sheet_rows reading n)

-- 8: "Is every number zero or at least 2^-1022 in size?"
unfoldable pub large_enough : Float → Bool
large_enough number = is_zero number || le smallest number || le number (neg smallest)

unfoldable pub question8 : ℕ → ℕ → List Float → Asked
question8 reading n sheet = ask_rows (λ i j. large_enough (place n sheet i j)) 8 n 0 (sheet_rows reading n)

-- 9: "A stage is trapped if no chain of nonzero moves, the empty chain included, leads from it to a stage with s > 0."
-- Among n stages a chain of n moves is long enough (`WithinDecidesChains`).
unfoldable pub moves : ℕ → List Float → ℕ → ℕ → Bool
moves n sheet i j = not (eqb i j) && not (is_zero (size n sheet i j))

unfoldable pub leaves : ℕ → List Float → ℕ → Bool
leaves n sheet i = lt 0·0 (diagonal n sheet i)

unfoldable pub gets_out : ℕ → List Float → ℕ → Bool
gets_out n sheet i = out_within 0 n (moves n sheet) (leaves n sheet) n i

-- "An idle stage is no longer trapped for 9" (document 02, U3).
unfoldable pub not_trapped : ℕ → List Float → ℕ → Bool
not_trapped n sheet i = idle n sheet i || gets_out n sheet i

unfoldable pub question9 : ℕ → ℕ → List Float → Asked
question9 reading n sheet = let asked = ask_stages (not_trapped n sheet) 9 0 n in cond (eqb reading 1) asked pass

-- 10: "Is every step in range?"
unfoldable pub question10 : ℕ → ℕ → List Float → Asked
question10 reading n sheet = ask (every_step_in_range reading n sheet) 10 0 0

-- 6 to 8: of each number by itself.
unfoldable pub place_questions : ℕ → ℕ → List Float → Asked
place_questions reading n sheet = question6 reading n sheet then question7 reading n sheet then question8 reading n sheet

-- 6 to 9: of the numbers, before any step is taken.
unfoldable pub number_questions : ℕ → ℕ → List Float → Asked
number_questions reading n sheet = place_questions reading n sheet then question9 reading n sheet

-- The whole table is asked 1, 2, 12, 3, 4, 6, 7, 8, 9 and 10; `room` is the length of the answer area.
unfoldable pub table_input : ℕ → ℕ → ℤ → List Float → ℕ → Asked
table_input reading n e sheet room = shape_questions reading n e (length sheet) then question4 (n * n) room then number_questions reading n sheet

unfoldable pub table_questions : ℕ → ℕ → ℤ → List Float → ℕ → Asked
table_questions reading n e sheet room = table_input reading n e sheet room then question10 reading n sheet

-- One entry is asked 1, 2, 12, 3, 5, 6, 7, 8, 9 and 10.
unfoldable pub entry_input : ℕ → ℕ → ℤ → List Float → ℕ → ℕ → Asked
entry_input reading n e sheet i j = shape_questions reading n e (length sheet) then question5 n i j then number_questions reading n sheet

unfoldable pub entry_questions : ℕ → ℕ → ℤ → List Float → ℕ → ℕ → Asked
entry_questions reading n e sheet i j = entry_input reading n e sheet i j then question10 reading n sheet

-- "A sheet is accepted where every question below that concerns its call is answered yes; where no call is named, the call is
-- that for the whole table, lent room enough."
unfoldable pub Accepted : ℕ → ℕ → ℤ → List Float → Type 0
Accepted reading n e sheet = table_questions reading n e sheet (n * n) ≡ pass
