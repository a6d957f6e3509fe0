-- What reading and saving a file promise of every call with out places, refused calls too: what is returned, and every place that
-- the call may write.
use Rattle.std.specs.Prelude.{◌≡◌, List, ℕ, ℤ, length}
use Rattle.definitions.specs.File.{file_answer}
use Rattle.definitions.specs.Saving.{save_answer}
use Rattle.out_places.specs.OutPlaces.{ValueHanded, HeadHanded}

-- File reading, on numbers (`file_number_area`) or on words (`file_word_area`): the area, and the places for the reading, the
-- number of stages and e, before and after.
pub record FileCall {A : Type 0} (filled_area : List ℕ → List A → List A) (bytes : List ℕ) (before after : List A)
    (reading reading' n n' : ℕ) (e e' : ℤ) (row column returned : ℕ) : Type 0 where
  pub answer : HeadHanded (file_answer bytes (length before)) reading reading' n n' e e' row column returned
  pub area : after ≡ filled_area bytes before

-- Saving, of numbers (`saved_numbers`) or of words (`saved_words`): the lent bytes, and the place for the file's length, before
-- and after.
pub record SaveCall {A : Type 0} (saved_area : ℕ → ℕ → ℤ → List A → List ℕ → List ℕ) (reading n : ℕ) (e : ℤ) (sheet : List A)
    (before after : List ℕ) (size size' row column returned : ℕ) : Type 0 where
  pub answer : ValueHanded (save_answer reading n e (length sheet) (length before)) size size' row column returned
  pub area : after ≡ saved_area reading n e sheet before
