-- From the answers of the file's reader and of the whole table to the text that is due for them.
use mathlib.Core.Path.{◌≡◌, refl, sym, ap, ◌∙◌}
use Prim.Native.Nat.{ℕ, suc, ◌≤◌}
use native.Mathlib.Omega.{arith}
use mathlib.Core.Bool.{cond}
use mathlib.Core.List.{List, ◌++◌}
use borrow.Author.Tests.{ltb-true, ltb-false}
use lib.Dec.{ltb}
use lib.IntN.{ℤ}
use lib.ListN.{length, take, drop}
use lib.Seq.{take_at, take_all, take-length, length-take-le}
use lib.Ieee.{Float}
use Rattle.exact.proofs.Cases.{by_bool}
use Rattle.definitions.specs.Sheet.{sheet_numbers}
use Rattle.definitions.specs.Services.{table_answer}
use Rattle.definitions.specs.File.{file_answer, file_numbers, file_number_area, longest_file}
use Rattle.definitions.specs.Dwell.{refused_line, table_text, file_text, dwell_text}
use Rattle.buffer.specs.Pasted.{AtStart}
use Rattle.buffer.proofs.Pasting.{count_within}
use Rattle.text.specs.AnswerText.{answer_text}
use Rattle.text.proofs.Answer.{text_of_answer}
use Rattle.std.specs.Prelude.{Result, Ok, Err}
use Rattle.answers.specs.declared.Head.{Head}
use Rattle.answers.specs.declared.Refusal.{Refusal}
use Rattle.answers.specs.Answers.{number, told, head_told}
use Rattle.counts.proofs.Counts.{numbers_few}
use Rattle.file.proofs.Reading.{accepted, to_fill}
use Rattle.payload.proofs.FileWords.{few_stages, words_due, as_many_words}
use Rattle.planner.specs.Promises.{TableDone}
use Rattle.report.specs.Reported.{Reported}

-- A text may be written as any that equals it.
pub same_text : {s t before after : List ℕ} {count : ℕ} → s ≡ t → AtStart s before after count → AtStart t before after count
same_text e w = rw e at w

-- The text ends within the buffer.
pub reported : {s t before after : List ℕ} {count : ℕ} → s ≡ t → length after ≡ length before → AtStart s before after count → Reported t before after count
reported {after = after} {count = count} e same w =
    let within : count ≤ length after = omega (arith, count_within w same) in
    record { written = same_text e w; within = within; front = sym (length-take-le count after within) }

pub same_report : {s t before after : List ℕ} {count : ℕ} → s ≡ t → Reported s before after count → Reported t before after count
same_report e w = rw e at w

-- The text for what the whole table's service answers, and for the area that it leaves.
pub served_text : (reading n : ℕ) (e : ℤ) (sheet before after : List Float) → length before ≡ 1024 → {r : Result ℕ Refusal} → TableDone reading n e sheet before after r
    → answer_text n e after (told r) ≡ table_text reading n e sheet (table_answer reading n e sheet 1024)
served_text reading n e sheet before after room done =
    rw (done.area, done.answered) (text_of_answer reading n e sheet before _ refl ∙ rw room)

-- A file is read into the start of an area, and the sheet's numbers are those of the file.
module _ (bytes : List ℕ) (before after : List Float) (room : length before ≡ 1056) {head : Head} (answered : head_told (Ok head) ≡ file_answer bytes (length before))
    (area : after ≡ file_number_area bytes before) where
  pub stages : head.n ≤ 32
  stages = few_stages bytes head.n (to_fill bytes (length before) answered).0

  starts : after ≡ file_numbers bytes ++ drop (length (file_numbers bytes)) before
  unfolding file_number_area
  starts = area ∙ rw (accepted bytes (length before) answered)

  -- The code counts the sheet's numbers.
  module _ {places : ℕ} (count : places ≡ sheet_numbers head.reading head.n) where
    pub inside : places ≤ 1056
    inside = rw count (numbers_few head.reading head.n stages)

    all-numbers : length (file_numbers bytes) ≡ places
    all-numbers =
        let filling = to_fill bytes (length before) answered in
        as_many_words bytes ∙ words_due bytes head.n filling.0 filling.1 count

    numbers : take places after ≡ file_numbers bytes
    numbers = rw starts (take_at (file_numbers bytes) _ places all-numbers)

    pub sheet_text : table_text head.reading head.n head.e (take places after) (table_answer head.reading head.n head.e (take places after) 1024) ≡ file_text bytes (file_answer bytes 1056)
    unfolding file_text
    sheet_text = rw (numbers, ← room, ← answered)

-- A file that is refused has the line of its refusal.
pub file_refused : (bytes : List ℕ) (refusal : Refusal) → head_told (Err refusal) ≡ file_answer bytes 1056
    → refused_line (number refusal.question) refusal.row refusal.column ≡ file_text bytes (file_answer bytes 1056)
unfolding file_text
file_refused bytes refusal answered = ap (file_text bytes) answered

-- The bytes that are judged are all, or as many as the longest file has and one more.
judged_bytes : (most : ℕ) (input : List ℕ) → take (cond (ltb (length input) most) (length input) most) input ≡ take most input
judged_bytes most input = by_bool (ltb (length input) most) (λ e. rw (e, take-length, take_all most input (omega (arith, ltb-true (length input) most e)))) (λ e. rw e)

pub dwell_text_lem : (input : List ℕ) {most : ℕ} → most ≡ cond (ltb (length input) (suc longest_file)) (length input) (suc longest_file)
    → file_text (take most input) (file_answer (take most input) 1056) ≡ dwell_text input
unfolding dwell_text
dwell_text_lem input e = rw (e, judged_bytes (suc longest_file) input)

pub judged_length : (held limit : ℕ) → cond (ltb held limit) held limit ≤ held
judged_length held limit = by_bool (ltb held limit) (λ e. rw e (omega arith)) (λ e. rw e (omega (arith, ltb-false held limit e)))
