-- What each call promises, from the promise of the service behind it and what is handed over in its out places.
use mathlib.Core.Path.{◌≡◌, ◌∙◌}
use mathlib.Core.List.{List}
use Prim.Native.Nat.{ℕ}
use lib.IntN.{ℤ}
use lib.ListN.{length}
use lib.Ieee.{Float, binary64, of_bits, to_bits}
use Rattle.definitions.specs.File.{Head, file_answer, file_word_area, file_number_area}
use Rattle.definitions.specs.Saving.{save_answer, saved_words, saved_numbers}
use Rattle.definitions.specs.Services.{Answer}
use Rattle.out_places.specs.OutPlaces.{ValueHanded, HeadHanded}
use Rattle.file.specs.Areas.{file_area, saved_area}
use Rattle.file.proofs.Areas.{words_area, numbers_area, words_saved, numbers_saved}
use Rattle.file_calls.specs.FileCalls.{FileCall, SaveCall}

pub file_call : {A : Type 0} (filled_area : List ℕ → List A → List A) (bytes : List ℕ) (before : List A) {after : List A} {a : Answer Head} {reading reading' n n' : ℕ} {e e' : ℤ} {row column number : ℕ}
    → a ≡ file_answer bytes (length before) → after ≡ filled_area bytes before
    → HeadHanded a reading reading' n n' e e' row column number → FileCall filled_area bytes before after reading reading' n n' e e' row column number
file_call filled_area bytes before answered area told = record { answer = rw answered at told; area = area }

pub save_call : {A : Type 0} (saved_area : ℕ → ℕ → ℤ → List A → List ℕ → List ℕ) (reading n : ℕ) (e : ℤ) (sheet : List A) (before : List ℕ) {after : List ℕ} {a : Answer ℕ} {was is row column number : ℕ}
    → a ≡ save_answer reading n e (length sheet) (length before) → after ≡ saved_area reading n e sheet before
    → ValueHanded a was is row column number → SaveCall saved_area reading n e sheet before after was is row column number
save_call saved_area reading n e sheet before answered area told = record { answer = rw answered at told; area = area }

-- The areas of words and of numbers are document 01's, and so are the bytes of a saved sheet of either.
module _ {bytes : List ℕ} {reading reading' n n' : ℕ} {e e' : ℤ} {row column number : ℕ} where
  pub words_call : {before after : List ℕ} → FileCall (file_area (λ word. word)) bytes before after reading reading' n n' e e' row column number
      → FileCall file_word_area bytes before after reading reading' n n' e e' row column number
  words_call call = record { answer = call.answer; area = call.area ∙ words_area _ _ }

  pub numbers_call : {before after : List Float} → FileCall (file_area (λ word. of_bits binary64 word)) bytes before after reading reading' n n' e e' row column number
      → FileCall file_number_area bytes before after reading reading' n n' e e' row column number
  numbers_call call = record { answer = call.answer; area = call.area ∙ numbers_area _ _ }

module _ {reading n : ℕ} {e : ℤ} {before after : List ℕ} {was is row column number : ℕ} where
  pub words_save : {sheet : List ℕ} → SaveCall (saved_area (λ word. word)) reading n e sheet before after was is row column number
      → SaveCall saved_words reading n e sheet before after was is row column number
  words_save call = record { answer = call.answer; area = call.area ∙ words_saved _ _ _ _ _ }

  pub numbers_save : {sheet : List Float} → SaveCall (saved_area (λ number. to_bits binary64 number)) reading n e sheet before after was is row column number
      → SaveCall saved_numbers reading n e sheet before after was is row column number
  numbers_save call = record { answer = call.answer; area = call.area ∙ numbers_saved _ _ _ _ _ }
