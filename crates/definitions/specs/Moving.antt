-- Moving a sheet to another time unit (document 02, U4, U5 and U10): every rate times 2^k, and what the call is asked, answers and
-- leaves in the second lent area.
use Rattle.std.specs.Prelude.{ℕ, zero, suc, ◌*◌, Bool, ◌&&◌, List, map, ◌++◌, ℤ, ◌+ℤ◌, length, get_or, take, drop, Float}
use Rattle.std.specs.Float.{nan, inf, fin}
use Rattle.std.specs.Float.Ieee.{le, neg}
use Rattle.definitions.specs.Numbers.{largest, all}
use Rattle.definitions.specs.Sheet.{sheet_numbers}
use Rattle.definitions.specs.Questions.{Asked, ◌then◌, ask, exponent_in_range, shape_questions, question4, large_enough, place_questions}
use Rattle.definitions.specs.Services.{Answer, answer, filled}

-- "Multiply every number of a sheet by 2^k … each result is exact, a zero keeps its sign": m·2^q times 2^k is m·2^(q + k), of the
-- same sign, whether or not binary64 holds it.
unfoldable pub times_power : ℤ → Float → Float
times_power k nan = nan
times_power k (inf sign) = inf sign
times_power k (fin sign zero q) = fin sign zero q
times_power k (fin sign (suc m) q) = fin sign (suc m) (q +ℤ k)

-- 15: "for a whole number k from −512 to 512".
unfoldable pub question15 : ℤ → Asked
question15 k = ask (exponent_in_range k) 15 0 0

-- 17: "e + k outside its range", for "moving by k makes it e + k" (document 02, U5).
unfoldable pub question17 : ℤ → ℤ → Asked
question17 e k = ask (exponent_in_range (e +ℤ k)) 17 0 0

-- 16: "a nonzero result whose size is above the largest finite number or below 2^-1022", asked of the exact product of every number
-- that is moved: "moving units leaves weights alone" (document 02, U10).
unfoldable pub has_room : Float → Bool
has_room number = large_enough number && (le number largest && le (neg largest) number)

unfoldable pub rates_have_room : ℕ → ℤ → List Float → Bool
rates_have_room n k sheet = all (λ at. has_room (times_power k (get_or sheet at nan))) 0 (n * n)

unfoldable pub question16 : ℕ → ℤ → List Float → Asked
question16 n k sheet = ask (rates_have_room n k sheet) 16 0 0

-- "Questions 1 to 4, 6, 7 and 8 first", then 15, 17 and 16; `room` is the length of the second area, which takes as many numbers as
-- the sheet has.
unfoldable pub move_input : ℕ → ℕ → ℤ → List Float → ℕ → Asked
move_input reading n e sheet room =
    shape_questions reading n e (length sheet) then question4 (sheet_numbers reading n) room then place_questions reading n sheet

unfoldable pub move_questions : ℕ → ℕ → ℤ → List Float → ℤ → ℕ → Asked
move_questions reading n e sheet k room = move_input reading n e sheet room then question15 k then question17 e k then question16 n k sheet

-- The call hands over the moved sheet's e.
unfoldable pub move_answer : ℕ → ℕ → ℤ → List Float → ℤ → ℕ → Answer ℤ
move_answer reading n e sheet k room = answer (move_questions reading n e sheet k room) (e +ℤ k)

-- "In a second lent area … places past the sheet's count keep their numbers."
unfoldable pub moved_sheet : ℕ → ℤ → List Float → List Float
moved_sheet n k sheet = map (λ number. times_power k number) (take (n * n) sheet) ++ drop (n * n) sheet

unfoldable pub moved_area : ℕ → ℕ → ℤ → List Float → ℤ → List Float → List Float
moved_area reading n e sheet k area =
    let new = moved_sheet n k sheet in
    filled (move_questions reading n e sheet k (length area)) new area
