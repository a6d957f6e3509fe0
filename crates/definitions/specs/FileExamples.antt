-- Sheet files: files of sheet P with what dwell prints for them (document 01, "The sheet file"), files with weights (document 02, U10),
-- damaged files, and sheets that are saved (document 02, U1 and U5).
use Rattle.std.specs.Prelude.{ℕ, List, [], ◌∷◌, ◌++◌, map, ◌≡◌, ℤ, pos, negsuc, length}
use Rattle.definitions.specs.Tables.{list}
use Rattle.definitions.specs.Services.{Answer, given, refused}
use Rattle.definitions.specs.File.{Head, file_answer, longest_file}
use Rattle.definitions.specs.Saving.{save_answer, saved_words}
use Rattle.definitions.specs.Dwell.{text, dwell_text}

-- A record from its length, kind and payload, each length and kind below 256.
abbrev pub file_record : ℕ → ℕ → List ℕ → List ℕ
file_record length kind payload = (length ∷ 0 ∷ 0 ∷ 0 ∷ kind ∷ 0 ∷ []) ++ payload

-- 1, minus 1 and plus zero in 8 bytes.
abbrev pub one : List ℕ
one = 0 ∷ 0 ∷ 0 ∷ 0 ∷ 0 ∷ 0 ∷ 240 ∷ 63 ∷ []

abbrev pub minus_one : List ℕ
minus_one = 0 ∷ 0 ∷ 0 ∷ 0 ∷ 0 ∷ 0 ∷ 240 ∷ 191 ∷ []

abbrev pub nought : List ℕ
nought = 0 ∷ 0 ∷ 0 ∷ 0 ∷ 0 ∷ 0 ∷ 0 ∷ 0 ∷ []

-- The file of P: [1, −1 | −1, 0], reading 1. Its head says e in two bytes; the old one has none.
abbrev pub head_of_p : ℕ → ℕ → List ℕ
head_of_p low high = file_record 6 1 (1 ∷ 0 ∷ 2 ∷ 0 ∷ low ∷ high ∷ [])

abbrev pub old_head_of_p : List ℕ
old_head_of_p = file_record 4 1 (1 ∷ 0 ∷ 2 ∷ 0 ∷ [])

abbrev pub row1_of_p : List ℕ
row1_of_p = file_record 18 2 ((1 ∷ 0 ∷ []) ++ one ++ minus_one)

abbrev pub row2_of_p : List ℕ
row2_of_p = file_record 18 2 ((2 ∷ 0 ∷ []) ++ minus_one ++ nought)

abbrev pub file_of_p : ℕ → ℕ → List ℕ
file_of_p low high = head_of_p low high ++ row1_of_p ++ row2_of_p

abbrev pub old_file_of_p : List ℕ
old_file_of_p = old_head_of_p ++ row1_of_p ++ row2_of_p

-- A file of one stage with weights: s = 1, z = 1. Its head is of either length.
abbrev pub head_of_one : List ℕ
head_of_one = file_record 6 1 (3 ∷ 0 ∷ 1 ∷ 0 ∷ 0 ∷ 0 ∷ [])

abbrev pub old_head_of_one : List ℕ
old_head_of_one = file_record 4 1 (3 ∷ 0 ∷ 1 ∷ 0 ∷ [])

abbrev pub row_of_one : List ℕ
row_of_one = file_record 10 2 ((1 ∷ 0 ∷ []) ++ one)

abbrev pub weights_of_one : List ℕ
weights_of_one = file_record 8 3 one

-- P in seconds, with either head, in units of 2^512 seconds and in ticks of 2^-10 seconds, and the stage with a weight.
abbrev pub lines_of_p : List ℕ
lines_of_p = text "1 1 3ff0000000000000\n1 2 3ff0000000000000\n2 1 3ff0000000000000\n2 2 4000000000000000\n"

unfoldable pub DwellPrintsP : Type 0
DwellPrintsP =
    map dwell_text (file_of_p 0 0 ∷ old_file_of_p ∷ file_of_p 0 2 ∷ file_of_p 246 255 ∷ [])
    ≡ map (λ first. first ++ lines_of_p)
    (text "seconds 2 32 0\n" ∷ text "seconds 2 32 0\n" ∷ text "seconds 2 32 512\n" ∷ text "seconds 2 32 -10\n" ∷ [])

unfoldable pub DwellPrintsOne : Type 0
DwellPrintsOne = dwell_text (head_of_one ++ row_of_one ++ weights_of_one) ≡ text "seconds 1 6 0\n1 1 3ff0000000000000\n"

-- "The longest file is 8,722 bytes."
unfoldable pub LongestFile : Type 0
LongestFile = longest_file ≡ 8722

-- A file, the room lent, and what reading it answers.
pub record FileLine : Type 0 where
  pub bytes : List ℕ
  pub room : ℕ
  pub expected : Answer Head

abbrev pub file : List ℕ → ℕ → Answer Head → FileLine
file bytes room expected = record { bytes = bytes; room = room; expected = expected }

unfoldable pub FileClaim : List FileLine → Type 0
FileClaim lines = map (λ line. file_answer line.bytes line.room) lines ≡ map (λ line. line.expected) lines

unfoldable pub files : List FileLine
files =
    file (file_of_p 0 0) 4 (given (record { reading = 1; n = 2; e = pos 0 }))
    -- a 4-byte head; e below zero, at both ends and past them
    ∷ file old_file_of_p 4 (given (record { reading = 1; n = 2; e = pos 0 }))
    ∷ file (file_of_p 255 255) 4 (given (record { reading = 1; n = 2; e = negsuc 0 }))
    ∷ file (file_of_p 0 2) 4 (given (record { reading = 1; n = 2; e = pos 512 }))
    ∷ file (file_of_p 0 254) 4 (given (record { reading = 1; n = 2; e = negsuc 511 }))
    ∷ file (file_of_p 1 2) 4 (refused 12 0 0)
    ∷ file (file_of_p 255 253) 4 (refused 12 0 0)
    ∷ file (file_of_p 0 128) 4 (refused 12 0 0)
    -- nothing; five bytes; a payload cut short
    ∷ file [] 4 (refused 11 0 0)
    ∷ file (6 ∷ 0 ∷ 0 ∷ 0 ∷ 1 ∷ []) 4 (refused 11 0 0)
    ∷ file (file_record 6 1 (1 ∷ 0 ∷ 2 ∷ 0 ∷ 0 ∷ [])) 4 (refused 11 0 0)
    -- a head with reading 4, with n = 33, and of other lengths
    ∷ file (file_record 4 1 (4 ∷ 0 ∷ 2 ∷ 0 ∷ [])) 4 (refused 12 0 0)
    ∷ file (file_record 4 1 (1 ∷ 0 ∷ 33 ∷ 0 ∷ [])) 4 (refused 12 0 0)
    ∷ file (file_record 5 1 (1 ∷ 0 ∷ 2 ∷ 0 ∷ 0 ∷ [])) 4 (refused 12 0 0)
    ∷ file (file_record 8 1 (1 ∷ 0 ∷ 2 ∷ 0 ∷ 0 ∷ 0 ∷ 0 ∷ 0 ∷ [])) 4 (refused 12 0 0)
    -- no row 1; a row of length 0; a bad row 1 before a cut row 2; row 2 cut
    ∷ file (head_of_p 0 0) 4 (refused 11 1 0)
    ∷ file (head_of_p 0 0 ++ file_record 0 2 []) 4 (refused 13 1 0)
    ∷ file (old_head_of_p ++ row2_of_p ++ (18 ∷ [])) 4 (refused 13 1 0)
    ∷ file (old_head_of_p ++ row1_of_p ++ (18 ∷ [])) 4 (refused 11 2 0)
    -- one byte more, which is asked before the room; too little room
    ∷ file (file_of_p 0 0 ++ (0 ∷ [])) 3 (refused 14 0 0)
    ∷ file (file_of_p 0 0) 3 (refused 4 0 0)
    -- weights, behind either head: a record of kind 3 and of their length, due as row n + 1, in reading 3 alone; room for them too
    ∷ file (head_of_one ++ row_of_one ++ weights_of_one) 2 (given (record { reading = 3; n = 1; e = pos 0 }))
    ∷ file (old_head_of_one ++ row_of_one ++ weights_of_one) 2 (given (record { reading = 3; n = 1; e = pos 0 }))
    ∷ file (head_of_one ++ row_of_one) 2 (refused 11 2 0)
    ∷ file (head_of_one ++ row_of_one ++ file_record 8 2 one) 2 (refused 13 2 0)
    ∷ file (head_of_one ++ row_of_one ++ file_record 0 3 []) 2 (refused 13 2 0)
    ∷ file (head_of_one ++ row_of_one ++ weights_of_one ++ (0 ∷ [])) 1 (refused 14 0 0)
    ∷ file (head_of_one ++ row_of_one ++ weights_of_one) 1 (refused 4 0 0)
    ∷ file (file_of_p 0 0 ++ file_record 16 3 (one ++ one)) 4 (refused 14 0 0)
    ∷ []

-- What a call of saving answers and leaves in the bytes lent.
pub record Left : Type 0 where
  pub answers : Answer ℕ
  pub bytes : List ℕ

-- A sheet of 64-bit words, the number of bytes lent, each of them 7 before the call, and what is left.
pub record SaveLine : Type 0 where
  pub reading : ℕ
  pub n : ℕ
  pub e : ℤ
  pub words : List ℕ
  pub room : ℕ
  pub expected : Left

abbrev pub sevens : ℕ → List ℕ
sevens room = list (λ i. 7) room

abbrev pub saved : ℕ → ℕ → ℤ → List ℕ → ℕ → List ℕ → SaveLine
saved reading n e words room file =
    record { reading = reading; n = n; e = e; words = words; room = room; expected = record { answers = given (length file); bytes = file ++ sevens 2 } }

abbrev pub not_saved : ℕ → ℕ → ℤ → List ℕ → ℕ → ℕ → SaveLine
not_saved reading n e words room number =
    record { reading = reading; n = n; e = e; words = words; room = room; expected = record { answers = refused number 0 0; bytes = sevens room } }

abbrev pub left_by : SaveLine → Left
left_by line =
    record {
      answers = save_answer line.reading line.n line.e (length line.words) line.room;
      bytes = saved_words line.reading line.n line.e line.words (sevens line.room);
    }

unfoldable pub SaveClaim : List SaveLine → Type 0
SaveClaim lines = map left_by lines ≡ map (λ line. line.expected) lines

abbrev pub words_of_p : List ℕ
words_of_p = 0x3ff0000000000000 ∷ 0xbff0000000000000 ∷ 0xbff0000000000000 ∷ 0 ∷ []

unfoldable pub saves : List SaveLine
saves =
    saved 1 2 (pos 0) words_of_p 62 (file_of_p 0 0)
    ∷ saved 1 2 (pos 512) words_of_p 62 (file_of_p 0 2)
    ∷ saved 1 2 (negsuc 511) words_of_p 62 (file_of_p 0 254)
    -- a NaN pattern, byte for byte
    ∷ saved 2 1 (negsuc 9) (0xfff4000012345678 ∷ []) 30 (file_record 6 1 (2 ∷ 0 ∷ 1 ∷ 0 ∷ 246 ∷ 255 ∷ []) ++ file_record 10 2 (1 ∷ 0 ∷ 120 ∷ 86 ∷ 52 ∷ 18 ∷ 0 ∷ 0 ∷ 244 ∷ 255 ∷ []))
    -- weights
    ∷ saved 3 1 (pos 0) (0x3ff0000000000000 ∷ 0x3ff0000000000000 ∷ []) 44 (head_of_one ++ row_of_one ++ weights_of_one)
    ∷ not_saved 3 1 (pos 0) (0x3ff0000000000000 ∷ []) 44 3
    ∷ not_saved 3 1 (pos 0) (0x3ff0000000000000 ∷ 0x3ff0000000000000 ∷ []) 41 4
    -- 1, 2, 12, 3 and 4, each before the next; for 4 one byte is missing
    ∷ not_saved 4 33 (pos 513) [] 0 1
    ∷ not_saved 1 33 (pos 513) [] 0 2
    ∷ not_saved 1 2 (pos 513) (1 ∷ 2 ∷ 3 ∷ []) 0 12
    ∷ not_saved 1 2 (negsuc 512) (1 ∷ 2 ∷ 3 ∷ []) 0 12
    ∷ not_saved 1 2 (pos 0) (1 ∷ 2 ∷ 3 ∷ []) 0 3
    ∷ not_saved 1 2 (pos 0) words_of_p 59 4
    ∷ []
