-- An area of words and one of numbers are document 01's, and so are the bytes of a saved sheet of either.
use mathlib.Core.Path.{◌≡◌, refl}
use Prim.Native.Nat.{ℕ}
use mathlib.Core.List.{List}
use lib.IntN.{ℤ}
use lib.Ieee.{Float, binary64, of_bits, to_bits}
use Rattle.std.proofs.lemmas.List.{map-id}
use Rattle.definitions.specs.File.{file_numbers, file_word_area, file_number_area}
use Rattle.definitions.specs.Saving.{sheet_words, saved_words, saved_numbers}
use Rattle.file.specs.Areas.{file_area, saved_area}

pub words_area : (bytes area : List ℕ) → file_area (λ word. word) bytes area ≡ file_word_area bytes area
unfolding file_area file_word_area
words_area bytes area = rw map-id

pub numbers_area : (bytes : List ℕ) (area : List Float) → file_area (λ word. of_bits binary64 word) bytes area ≡ file_number_area bytes area
unfolding file_area file_number_area file_numbers
numbers_area bytes area = refl

pub words_saved : (reading n : ℕ) (e : ℤ) (sheet area : List ℕ) → saved_area (λ word. word) reading n e sheet area ≡ saved_words reading n e sheet area
unfolding saved_area
words_saved reading n e sheet area = rw map-id

pub numbers_saved : (reading n : ℕ) (e : ℤ) (sheet : List Float) (area : List ℕ) → saved_area (λ number. to_bits binary64 number) reading n e sheet area ≡ saved_numbers reading n e sheet area
unfolding saved_area saved_numbers sheet_words
numbers_saved reading n e sheet area = refl
