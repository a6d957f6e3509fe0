-- What reading leaves in an area, and saving in lent bytes, for anything that stands for a 64-bit word: document 01's areas of words and
-- of numbers are its two cases (proofs/Areas.antt).
use Rattle.std.specs.Prelude.{ℕ, ℤ, List, map, length}
use Rattle.definitions.specs.File.{file_words, file_questions}
use Rattle.definitions.specs.Saving.{saved_words}
use Rattle.definitions.specs.Services.{filled}

unfoldable pub file_area : {A : Type 0} → (ℕ → A) → List ℕ → List A → List A
file_area of_word bytes area = let new = map of_word (file_words bytes) in filled (file_questions bytes (length area)) new area

unfoldable pub saved_area : {A : Type 0} → (A → ℕ) → ℕ → ℕ → ℤ → List A → List ℕ → List ℕ
saved_area word_of reading n e sheet area = saved_words reading n e (map word_of sheet) area
