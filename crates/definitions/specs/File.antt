-- The sheet file and its reading (document 01, "The sheet file" and the file questions 11 to 14; document 02, U5 and U10). A file is
-- a list of bytes.
use Rattle.std.specs.Prelude.{ℕ, zero, suc, ◌+◌, ◌-◌, ◌*◌, Bool, ◌&&◌, ◌||◌, cond, List, [], ◌∷◌, ◌++◌, map, leb, ltb, eqb, ℤ, pos, negsuc, length, take, drop, Float}
use Rattle.std.specs.Float.{binary64}
use Rattle.std.specs.Float.Ieee.{of_bits}
use Rattle.definitions.specs.Sheet.{sheet_rows, sheet_numbers}
use Rattle.definitions.specs.Questions.{Asked, ask, ◌then◌, known_reading, exponent_in_range, question1, question2, question4}
use Rattle.definitions.specs.Services.{Answer, answer, filled}

-- "All little-endian": the number in the first w bytes.
unfoldable pub little : ℕ → List ℕ → ℕ
little zero bytes = 0
little (suc w) [] = 0
little (suc w) (byte ∷ bytes) = byte + 256 * little w bytes

-- "A record is a 4-byte length (payload bytes only), a 2-byte kind, the payload": the record that starts here, and what follows it.
unfoldable pub record_length : List ℕ → ℕ
record_length bytes = little 4 bytes

unfoldable pub record_kind : List ℕ → ℕ
record_kind bytes = little 2 (drop 4 bytes)

unfoldable pub payload : List ℕ → List ℕ
payload bytes = take (record_length bytes) (drop 6 bytes)

unfoldable pub rest : List ℕ → List ℕ
rest bytes = drop (6 + record_length bytes) bytes

-- 11: "Are six bytes left for length and kind, and then as many as the length says?"
unfoldable pub whole_record : List ℕ → Bool
whole_record bytes = leb 6 (length bytes) && leb (6 + record_length bytes) (length bytes)

-- "The head's payload becomes 6 bytes … A 4-byte head is still read."
unfoldable pub head_length : ℕ
head_length = 6

unfoldable pub old_head_length : ℕ
old_head_length = 4

-- "Kind 1, head: 2-byte reading, 2-byte n."
unfoldable pub head_reading : List ℕ → ℕ
head_reading bytes = little 2 (payload bytes)

unfoldable pub head_stages : List ℕ → ℕ
head_stages bytes = little 2 (drop 2 (payload bytes))

-- "After n comes a signed 2-byte e", in two's complement; "a 4-byte head is still read, with e = 0".
unfoldable pub signed : ℕ → ℤ
signed word = cond (ltb word 32768) (pos word) (negsuc (65535 - word))

unfoldable pub head_unit : List ℕ → ℤ
head_unit bytes = cond (eqb (record_length bytes) old_head_length) (pos 0) (signed (little 2 (drop 4 (payload bytes))))

-- "Head length 4 or 6."
unfoldable pub known_head : List ℕ → Bool
known_head bytes = eqb (record_length bytes) old_head_length || eqb (record_length bytes) head_length

-- 12: "Head: kind 1, length 4", or 6, "reading 1 or 2", or 3, "n from 1 to 32?" "Head length 4 or 6 and e in its range belong to 12."
unfoldable pub good_head : List ℕ → Bool
good_head bytes =
    eqb (record_kind bytes) 1
    && known_head bytes
    && known_reading (head_reading bytes)
    && leb 1 (head_stages bytes)
    && leb (head_stages bytes) 32
    && exponent_in_range (head_unit bytes)

-- 13: "Row: kind 2, length 2 + 8n, and the row number due?"
unfoldable pub good_row : ℕ → ℕ → List ℕ → Bool
good_row n due bytes = eqb (record_kind bytes) 2 && eqb (record_length bytes) (2 + 8 * n) && eqb (little 2 (payload bytes)) due

-- "A file holds the weights in a record of kind 3, 8n bytes, after the rows" (document 02, U10): they are due as row n + 1.
unfoldable pub good_weights : ℕ → List ℕ → Bool
good_weights n bytes = eqb (record_kind bytes) 3 && eqb (record_length bytes) (8 * n)

unfoldable pub good_record : ℕ → ℕ → List ℕ → Bool
good_record n due bytes = cond (leb due n) (good_row n due bytes) (good_weights n bytes)

-- Record by record: m records from the one due, then 14: "After row n, are no bytes left?" "A bad weights record is 11 or 13 at row
-- n + 1, and 14 is asked after it."
unfoldable pub record_questions : ℕ → ℕ → ℕ → List ℕ → Asked
record_questions n due zero bytes = ask (eqb (length bytes) 0) 14 0 0
record_questions n due (suc m) bytes =
    ask (whole_record bytes) 11 due 0 then ask (good_record n due bytes) 13 due 0 then record_questions n (suc due) m (rest bytes)

-- File reading is asked 11 to 14 and then 1, 2 and 4; `room` is the length of the lent area, which takes as many numbers as the sheet
-- has.
unfoldable pub file_questions : List ℕ → ℕ → Asked
file_questions bytes room =
    ask (whole_record bytes) 11 0 0
    then ask (good_head bytes) 12 0 0
    then record_questions (head_stages bytes) 1 (sheet_rows (head_reading bytes) (head_stages bytes)) (rest bytes)
    then question1 (head_reading bytes)
    then question2 (head_stages bytes)
    then question4 (sheet_numbers (head_reading bytes) (head_stages bytes)) room

-- "Kind 2, row: 2-byte row number, n numbers of 8 bytes", and the weights alone: the bytes of the numbers in the record due, m words of
-- 8 bytes, and the words of m records from the one due.
unfoldable pub number_bytes : ℕ → ℕ → List ℕ → List ℕ
number_bytes n due bytes = cond (leb due n) (drop 2 (payload bytes)) (payload bytes)

unfoldable pub words : ℕ → List ℕ → List ℕ
words zero bytes = []
words (suc m) bytes = little 8 bytes ∷ words m (drop 8 bytes)

unfoldable pub record_words : ℕ → ℕ → ℕ → List ℕ → List ℕ
record_words n due zero bytes = []
record_words n due (suc m) bytes = words n (number_bytes n due bytes) ++ record_words n (suc due) m (rest bytes)

unfoldable pub file_words : List ℕ → List ℕ
file_words bytes = record_words (head_stages bytes) 1 (sheet_rows (head_reading bytes) (head_stages bytes)) (rest bytes)

-- "The call hands over n and the reading"; "the sheet as loaded carries e".
pub record Head : Type 0 where
  pub reading : ℕ
  pub n : ℕ
  pub e : ℤ

unfoldable pub head_of : List ℕ → Head
head_of bytes = record { reading = head_reading bytes; n = head_stages bytes; e = head_unit bytes }

unfoldable pub file_answer : List ℕ → ℕ → Answer Head
file_answer bytes room = answer (file_questions bytes room) (head_of bytes)

-- "Numbers are copied bit for bit, places past n × n keep theirs", and past the weights: on an area of 64-bit words, and on an area of
-- numbers.
unfoldable pub file_word_area : List ℕ → List ℕ → List ℕ
file_word_area bytes area = let new = file_words bytes in filled (file_questions bytes (length area)) new area

unfoldable pub file_numbers : List ℕ → List Float
file_numbers bytes = map (λ word. of_bits binary64 word) (file_words bytes)

unfoldable pub file_number_area : List ℕ → List Float → List Float
file_number_area bytes area = let new = file_numbers bytes in filled (file_questions bytes (length area)) new area

-- The length of the file of n stages that is written; weights add "8n + 6 bytes". "The longest file is 8,722 bytes."
unfoldable pub file_length : ℕ → ℕ → ℕ
file_length reading n = 6 + head_length + n * (6 + 2 + 8 * n) + cond (eqb reading 3) (6 + 8 * n) 0

unfoldable pub longest_file : ℕ
longest_file = file_length 3 32
