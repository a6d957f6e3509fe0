-- From the questions of saving to its two promises: a refusal leaves every byte, and else the file is written at the start.
use Prim.Native.Nat.{ℕ, ◌≤◌}
use mathlib.Core.List.{List, map}
use mathlib.Core.Path.{◌≡◌, ◌∙◌}
use lib.Dec.{T}
use lib.IntN.{ℤ}
use lib.ListN.{length, length-map}
use Rattle.std.specs.Prelude.{Result, Ok, Err}
use Rattle.definitions.specs.Sheet.{sheet_numbers}
use Rattle.definitions.specs.Questions.{exponent_in_range}
use Rattle.definitions.specs.File.{file_length}
use Rattle.definitions.specs.Saving.{sheet_file, save_questions, save_answer, saved_words}
use Rattle.answers.specs.declared.Refusal.{Refusal}
use Rattle.answers.specs.Answers.{told}
use Rattle.answers.specs.Outcome.{ComesTo}
use Rattle.answers.proofs.Outcome as outcome
use Rattle.shape.proofs.ShapeQuestions.{save_passed}
use Rattle.buffer.specs.Pasted.{AtStart}
use Rattle.saving.proofs.FileBytes.{length-file}
use Rattle.file.specs.Areas.{saved_area}

module _ {A : Type 0} (word_of : A → ℕ) (reading n : ℕ) (e : ℤ) (sheet : List A) (area : List ℕ) where
  size : length (map word_of sheet) ≡ length sheet
  size = length-map sheet word_of

  module _ {B : Type 0} {refusal : Refusal} (asked : ComesTo {A = B} (save_questions reading n e (length sheet) (length area)) (Err refusal)) where
    pub not_saved : {answer : Result ℕ Refusal} → answer ≡ Err refusal → told answer ≡ save_answer reading n e (length sheet) (length area)
    unfolding save_answer
    not_saved is = rw (is, asked.is)

    pub kept : area ≡ saved_area word_of reading n e sheet area
    unfolding saved_area saved_words
    kept = rw (size, asked.is)

  module _ {B : Type 0} {value : B} (asked : ComesTo (save_questions reading n e (length sheet) (length area)) (Ok value)) where
    -- What the writer asks.
    pub to_save : (length sheet ≡ sheet_numbers reading n) × (n ≤ 32) × (file_length reading n ≤ length area) × T (exponent_in_range e)
    to_save =
        let p = save_passed reading n e (length sheet) (length area) (outcome.passed asked) in
        (p.0.numbers, p.0.few, p.1, p.0.unit)

    module _ {after : List ℕ} {count : ℕ} (written : AtStart (sheet_file reading n e (map word_of sheet)) area after count) where
      pub saved : told (Ok count) ≡ save_answer reading n e (length sheet) (length area)
      unfolding save_answer
      saved = rw (outcome.passed asked, written.counted, length-file reading n e (map word_of sheet) (size ∙ to_save.0))

      pub saved_bytes : after ≡ saved_area word_of reading n e sheet area
      unfolding saved_area saved_words
      saved_bytes = rw (size, outcome.passed asked) written.bytes
