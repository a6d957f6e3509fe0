-- Saving a sheet (document 02, U1, U5 and U10): the file of a sheet, and what the call is asked, answers and leaves in the lent bytes.
use Rattle.std.specs.Prelude.{ℕ, zero, suc, ◌-◌, ◌/◌, ◌%◌, cond, List, [], ◌∷◌, ◌++◌, map, leb, ℤ, pos, negsuc, length, take, drop, Float}
use Rattle.std.specs.Float.{binary64}
use Rattle.std.specs.Float.Ieee.{to_bits}
use Rattle.definitions.specs.Sheet.{sheet_rows}
use Rattle.definitions.specs.Questions.{Asked, ◌then◌, shape_questions, question4}
use Rattle.definitions.specs.Services.{Answer, answer, filled}
use Rattle.definitions.specs.File.{file_length}

-- "All little-endian": a number in w bytes.
unfoldable pub little_bytes : ℕ → ℕ → List ℕ
little_bytes zero number = []
little_bytes (suc w) number = number % 256 ∷ little_bytes w (number / 256)

-- "A record is a 4-byte length (payload bytes only), a 2-byte kind, the payload."
unfoldable pub record_bytes : ℕ → List ℕ → List ℕ
record_bytes kind payload = little_bytes 4 (length payload) ++ little_bytes 2 kind ++ payload

-- "Kind 1, head: 2-byte reading, 2-byte n", and "a signed 2-byte e", in two's complement. "The writer always writes six" bytes.
unfoldable pub complement : ℤ → ℕ
complement (pos m) = m
complement (negsuc m) = 65535 - m

unfoldable pub head_bytes : ℕ → ℕ → ℤ → List ℕ
head_bytes reading n e = record_bytes 1 (little_bytes 2 reading ++ little_bytes 2 n ++ little_bytes 2 (complement e))

-- "Kind 2, row: 2-byte row number, n numbers of 8 bytes."
unfoldable pub word_bytes : List ℕ → List ℕ
word_bytes [] = []
word_bytes (word ∷ words) = little_bytes 8 word ++ word_bytes words

unfoldable pub row_bytes : ℕ → List ℕ → List ℕ
row_bytes number words = record_bytes 2 (little_bytes 2 number ++ word_bytes words)

-- "The weights in a record of kind 3, 8n bytes, after the rows": the record due, and m records of n words each from it on.
unfoldable pub weight_bytes : List ℕ → List ℕ
weight_bytes words = record_bytes 3 (word_bytes words)

unfoldable pub bytes_due : ℕ → ℕ → List ℕ → List ℕ
bytes_due n due words = cond (leb due n) (row_bytes due words) (weight_bytes words)

unfoldable pub records_bytes : ℕ → ℕ → ℕ → List ℕ → List ℕ
records_bytes n due zero words = []
records_bytes n due (suc m) words = bytes_due n due (take n words) ++ records_bytes n (suc due) m (drop n words)

-- "One head, then rows 1 to n", then the weights of reading 3: the file of a sheet, from its reading, n, e and 64-bit words.
unfoldable pub sheet_file : ℕ → ℕ → ℤ → List ℕ → List ℕ
sheet_file reading n e words = head_bytes reading n e ++ records_bytes n 1 (sheet_rows reading n) words

-- "Questions 1, 2 and 3 apply, then 4, which for the writer asks for 10 + n × (8n + 8) bytes", and "now needs two bytes more", and with
-- weights "adds 8n + 6 bytes"; "no other number" but 12: `held` is the length of the lent sheet, `room` that of the lent bytes.
unfoldable pub save_questions : ℕ → ℕ → ℤ → ℕ → ℕ → Asked
save_questions reading n e held room = shape_questions reading n e held then question4 (file_length reading n) room

-- "The call hands over the file's length."
unfoldable pub save_answer : ℕ → ℕ → ℤ → ℕ → ℕ → Answer ℕ
save_answer reading n e held room = answer (save_questions reading n e held room) (file_length reading n)

-- "Bytes past the file keep their contents": for a sheet of 64-bit words, and for a sheet of numbers.
unfoldable pub saved_words : ℕ → ℕ → ℤ → List ℕ → List ℕ → List ℕ
saved_words reading n e words area =
    let file = sheet_file reading n e words in
    filled (save_questions reading n e (length words) (length area)) file area

unfoldable pub sheet_words : List Float → List ℕ
sheet_words numbers = map (λ number. to_bits binary64 number) numbers

unfoldable pub saved_numbers : ℕ → ℕ → ℤ → List Float → List ℕ → List ℕ
saved_numbers reading n e numbers area = saved_words reading n e (sheet_words numbers) area
