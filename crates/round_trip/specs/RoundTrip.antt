-- "Loading a saved file yields equal numbers in every bit, NaN included; saving a loaded file yields its bytes" (document 02, U1), with
-- the unit and a head of six bytes (U5), in every reading, with the weights (U10).
use Rattle.std.specs.Prelude.{ℕ, ◌^◌, ◌≤◌, ◌<◌, true, cond, List, [], ◌∷◌, ◌++◌, ◌≡◌, eqb, ℤ, length, take, drop, get_or, Float}
use Rattle.std.specs.Float.{binary64, nan}
use Rattle.std.specs.Float.Ieee.{to_bits, nan_bits}
use Rattle.definitions.specs.Accuracy.{Binary64}
use Rattle.definitions.specs.Sheet.{sheet_numbers}
use Rattle.definitions.specs.Services.{given}
use Rattle.definitions.specs.File.{record_length, old_head_length, Head, file_answer, file_words, file_numbers}
use Rattle.definitions.specs.Saving.{save_answer, saved_words, saved_numbers}

-- The definitions speak of lists of whole numbers. Those of lent bytes are below 256, and those of lent 64-bit words below 2^64.
pub record Below (limit : ℕ) (list : List ℕ) : Type 0 where
  pub at : (i : ℕ) → i < length list → get_or list i 0 < limit

abbrev pub Bytes : List ℕ → Type 0
Bytes list = Below 256 list

abbrev pub Words : List ℕ → Type 0
Words list = Below (2 ^ 64) list

-- The file is as many bytes of the area as saving hands over. Loading it, with room enough, hands over the same reading, n
-- and e, and the words of the file are those that were saved. For every sheet that is saved.
unfoldable pub LoadsWhatWasSaved : Type 0
LoadsWhatWasSaved =
    (reading n : ℕ) (e : ℤ) (words area : List ℕ) (size room : ℕ)
    → Words words
    → save_answer reading n e (length words) (length area) ≡ given size
    → sheet_numbers reading n ≤ room
    → let file = take size (saved_words reading n e words area) in
    (file_answer file room ≡ given (record { reading = reading; n = n; e = e })) × (file_words file ≡ words)

-- The same for a sheet of numbers: equal numbers, a NaN being equal to itself here.
unfoldable pub LoadsNumbersThatWereSaved : Type 0
LoadsNumbersThatWereSaved =
    (reading n : ℕ) (e : ℤ) (sheet : List Float) (area : List ℕ) (size room : ℕ)
    → Binary64 sheet
    → save_answer reading n e (length sheet) (length area) ≡ given size
    → sheet_numbers reading n ≤ room
    → let file = take size (saved_numbers reading n e sheet area) in
    (file_answer file room ≡ given (record { reading = reading; n = n; e = e })) × (file_numbers file ≡ sheet)

-- "Saving a file loaded with a 4-byte head yields that file with a 6-byte head and e = 0": its length says 6, and two zero bytes stand
-- behind n. A file with a 6-byte head as it is.
unfoldable pub with_unit : List ℕ → List ℕ
with_unit bytes =
    let kind_reading_stages = take 6 (drop 4 bytes) in
    cond (eqb (record_length bytes) old_head_length) ((6 ∷ 0 ∷ 0 ∷ 0 ∷ []) ++ kind_reading_stages ++ (0 ∷ 0 ∷ []) ++ drop 10 bytes) bytes

-- Saving what was loaded, into an area that holds as many bytes as that file: the call hands over its length, and the area then
-- begins with its bytes. On words for every file that loads.
unfoldable pub SavesWhatWasLoaded : Type 0
SavesWhatWasLoaded =
    (bytes area : List ℕ) (head : Head) (room : ℕ)
    → Bytes bytes
    → file_answer bytes room ≡ given head
    → length (with_unit bytes) ≤ length area
    → (save_answer head.reading head.n head.e (length (file_words bytes)) (length area) ≡ given (length (with_unit bytes)))
    × (take (length (with_unit bytes)) (saved_words head.reading head.n head.e (file_words bytes) area) ≡ with_unit bytes)

-- On numbers for the files whose NaN words are the one that is written, since a number keeps nothing of another NaN pattern.
pub record OneNan (words : List ℕ) : Type 0 where
  pub at : (i : ℕ) → i < length words → nan_bits binary64 (get_or words i 0) ≡ true → get_or words i 0 ≡ to_bits binary64 nan

unfoldable pub SavesNumbersThatWereLoaded : Type 0
SavesNumbersThatWereLoaded =
    (bytes area : List ℕ) (head : Head) (room : ℕ)
    → Bytes bytes
    → OneNan (file_words bytes)
    → file_answer bytes room ≡ given head
    → length (with_unit bytes) ≤ length area
    → (save_answer head.reading head.n head.e (length (file_numbers bytes)) (length area) ≡ given (length (with_unit bytes)))
    × (take (length (with_unit bytes)) (saved_numbers head.reading head.n head.e (file_numbers bytes) area) ≡ with_unit bytes)
