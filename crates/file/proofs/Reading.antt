-- From the answer to the area: a sheet is a file that is accepted and that fits, and its numbers are due; a refusal leaves every place as it was.
use Prim.Native.Nat.{ℕ, ◌≤◌}
use mathlib.Core.List.{List}
use mathlib.Core.Path.{◌≡◌, refl, sym, ap}
use Rattle.std.specs.Prelude.{Ok, Err}
use Rattle.definitions.specs.Questions.{Asked, pass, refuse}
use Rattle.definitions.specs.Services.{answer, refused, filled}
use Rattle.definitions.specs.Sheet.{sheet_numbers}
use Rattle.definitions.specs.File as file
use Rattle.definitions.specs.File.{head_reading, file_questions, file_answer}
use Rattle.steps.proofs.QuestionLaws.{given_passes, given_is}
use Rattle.answers.specs.declared.Head.{Head}
use Rattle.answers.specs.declared.Refusal.{Refusal}
use Rattle.answers.specs.Answers.{head_of, head_told}
use Rattle.payload.specs.SheetFile.{SheetFile}
use Rattle.payload.proofs.FileWords.{room_held}

refused_keeps : {A : Type 0} (asked : Asked) (due : file.Head) (number row column : ℕ) (new area : List A) → refused number row column ≡ answer asked due → area ≡ filled asked new area
refused_keeps pass due number row column new area e = cc
refused_keeps (refuse a b c) due number row column new area e = refl

module _ (bytes : List ℕ) (room : ℕ) where
  module _ {head : Head} (answered : head_told (Ok head) ≡ file_answer bytes room) where
    pub accepted : file_questions bytes room ≡ pass
    unfolding file_answer
    accepted = given_passes (file_questions bytes room) (head_of head) (file.head_of bytes) answered

    said : head_of head ≡ file.head_of bytes
    unfolding file_answer
    said = given_is (file_questions bytes room) (head_of head) (file.head_of bytes) answered

    pub sheet_file_lem : SheetFile bytes head.n
    unfolding file.head_of
    sheet_file_lem = record { room = room; passes = accepted; stages = ap (λ h. h.n) (sym said) }

    reading_said : head.reading ≡ head_reading bytes
    unfolding file.head_of
    reading_said = ap (λ h. h.reading) said

    -- What filling the area asks.
    pub to_fill : SheetFile bytes head.n × (head.reading ≡ head_reading bytes) × (sheet_numbers head.reading head.n ≤ room)
    unfolding sheet_file_lem
    to_fill = (sheet_file_lem, reading_said, rw reading_said (room_held bytes head.n sheet_file_lem))

    -- The area, where the new numbers were written over its start, and where nothing was written.
    pub sheet_read : {A : Type 0} (new area : List A) {exit : List A} → exit ≡ filled pass new area → exit ≡ filled (file_questions bytes room) new area
    sheet_read new area is = rw accepted is

  pub refusal_read : {A : Type 0} (refusal : Refusal) (new area : List A) → head_told (Err refusal) ≡ file_answer bytes room → area ≡ filled (file_questions bytes room) new area
  unfolding file_answer
  refusal_read refusal new area answered = refused_keeps (file_questions bytes room) _ _ _ _ new area answered
