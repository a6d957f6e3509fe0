-- The questions of a file one by one: the head, one more record, the end, and the answer that they decide.
use Prim.Native.Nat.{ℕ, suc, ◌+◌, ◌-◌, ◌≤◌, ◌<◌}
use mathlib.Core.Bool.{true, false, ◌&&◌}
use mathlib.Core.List.{List}
use mathlib.Core.Path.{◌≡◌, sym, ◌∙◌}
use native.Mathlib.Nat.{zero-add}
use native.Mathlib.Omega.{arith}
use borrow.Author.Tests.{lt-leb, le-leb, leb-true, ne_eqb, eqb-true}
use lib.Dec.{T, leb, eqb}
use lib.IntN.{ℤ}
use lib.ListN.{length, drop, length-drop}
use lib.Seq.{drop-drop}
use Rattle.definitions.specs.Questions.{Asked, pass, refuse, ◌then◌, known_reading, exponent_in_range, question1, question2, question4}
use Rattle.definitions.specs.Sheet.{sheet_rows, sheet_numbers}
use Rattle.definitions.specs.Services.{refused}
use Rattle.definitions.specs.File.{record_kind, record_length, little, rest, whole_record, head_reading, head_stages, head_unit, known_head, good_head, good_record, record_questions, file_questions, head_of, file_answer}
use Rattle.std.specs.Prelude.{Result, Ok}
use Rattle.answers.specs.declared.Head.{Head}
use Rattle.answers.specs.declared.Refusal.{Refusal}
use Rattle.answers.specs.Answers.{head_told}
use Rattle.exact.proofs.Bools.{and_first, and_second, holds}
use Rattle.counts.proofs.Counts.{rows_few}
use Rattle.records.proofs.Records.{whole_room}
use Rattle.file_questions.proofs.HeadAndRecords.{head_reading_lem, head_stages_lem}

-- What a good head says of its numbers.
pub record Read (bytes : List ℕ) : Type 0 where
  pub kind : record_kind bytes ≡ 1
  pub size : known_head bytes ≡ true
  pub reading : known_reading (head_reading bytes) ≡ true
  pub least : 1 ≤ head_stages bytes
  pub most : head_stages bytes ≤ 32
  pub unit : T (exponent_in_range (head_unit bytes))

pub head_read : (bytes : List ℕ) → good_head bytes ≡ true → Read bytes
unfolding good_head
head_read bytes e =
    let kind = eqb (record_kind bytes) 1 in
    let size = known_head bytes in
    let reading = known_reading (head_reading bytes) in
    let least = leb 1 (head_stages bytes) in
    let most = leb (head_stages bytes) 32 in
    let unit = exponent_in_range (head_unit bytes) in
    let up_to_most = and_first (kind && size && reading && least && most) unit e in
    let up_to_least = and_first (kind && size && reading && least) most up_to_most in
    let up_to_reading = and_first (kind && size && reading) least up_to_least in
    let up_to_size = and_first (kind && size) reading up_to_reading in
    record {
      kind = eqb-true (record_kind bytes) 1 (and_first kind size up_to_size);
      size = and_second kind size up_to_size;
      reading = and_second (kind && size) reading up_to_reading;
      least = leb-true 1 (head_stages bytes) (and_second (kind && size && reading) least up_to_least);
      most = leb-true (head_stages bytes) 32 (and_second (kind && size && reading && least) most up_to_most);
      unit = holds (and_second (kind && size && reading && least && most) unit e);
    }

-- The questions that are left when the records from the one due, which starts at `at`, have yet to be asked: `rows` follow the head,
-- and their numbers take so many places.
unfoldable pub records_left : List ℕ → ℕ → ℕ → ℕ → ℕ → ℕ → ℕ → Asked
records_left bytes room n rows places at due = record_questions n due (rows + 1 - due) (drop at bytes) then question4 places room

module _ (bytes : List ℕ) (room : ℕ) where
  pub head_cut : whole_record bytes ≡ false → file_questions bytes room ≡ refuse 11 0 0
  unfolding file_questions
  head_cut w = rw w

  pub head_bad : whole_record bytes ≡ true → good_head bytes ≡ false → file_questions bytes room ≡ refuse 12 0 0
  unfolding file_questions
  head_bad w g = rw (w, g)

  -- 12 has asked 1 and 2.
  pub head_good : whole_record bytes ≡ true → good_head bytes ≡ true
      → file_questions bytes room ≡ records_left bytes room (head_stages bytes) (sheet_rows (head_reading bytes) (head_stages bytes)) (sheet_numbers (head_reading bytes) (head_stages bytes)) (6 + record_length bytes) 1
  unfolding file_questions records_left question1 question2 rest
  head_good w g =
      let r = head_read bytes g in
      let rows = sheet_rows (head_reading bytes) (head_stages bytes) in
      let all : rows + 1 - 1 ≡ rows = omega arith in
      rw (w, g, r.reading, le-leb 1 (head_stages bytes) r.least, le-leb (head_stages bytes) 32 r.most, all)

  module _ (n rows places at due : ℕ) where
    abbrev left : Asked
    left = records_left bytes room n rows places at due

    module _ (h : due ≤ rows) where
      more : rows + 1 - due ≡ suc (rows - due)
      more = omega arith

      pub record_cut : whole_record (drop at bytes) ≡ false → left ≡ refuse 11 due 0
      unfolding records_left record_questions
      record_cut w = rw (more, w)

      pub record_bad : whole_record (drop at bytes) ≡ true → good_record n due (drop at bytes) ≡ false → left ≡ refuse 13 due 0
      unfolding records_left record_questions
      record_bad w g = rw (more, w, g)

      pub record_good : whole_record (drop at bytes) ≡ true → good_record n due (drop at bytes) ≡ true → left ≡ records_left bytes room n rows places (at + (6 + record_length (drop at bytes))) (due + 1)
      unfolding records_left record_questions rest
      record_good w g =
          let after : rows + 1 - (due + 1) ≡ rows - due = omega arith in
          let next : due + 1 ≡ suc due = omega arith in
          rw (more, w, g, drop-drop (6 + record_length (drop at bytes)) at bytes, after, next)

    module _ (h : rows < due) where
      none : rows + 1 - due ≡ 0
      none = omega arith

      pub bytes_after : at ≤ length bytes → (at ≡ length bytes → ⊥) → left ≡ refuse 14 0 0
      unfolding records_left record_questions
      bytes_after inside ne =
          let some : length bytes - at ≡ 0 → ⊥ = λ z. ne (omega arith) in
          rw (none, length-drop, ne_eqb (length bytes - at) 0 some)

      pub at_end : at ≡ length bytes → left ≡ question4 places room
      unfolding records_left record_questions
      at_end e =
          let empty : length bytes - at ≡ 0 = omega arith in
          rw (none, length-drop, empty)

  -- The answer from the questions.
  pub refused_by : (number row : ℕ) (r : Result Head Refusal) → head_told r ≡ refused number row 0 → file_questions bytes room ≡ refuse number row 0 → head_told r ≡ file_answer bytes room
  unfolding file_answer
  refused_by number row r i e = i ∙ rw e

  pub given_by : (reading n : ℕ) (e : ℤ) → reading ≡ head_reading bytes → n ≡ head_stages bytes → e ≡ head_unit bytes → file_questions bytes room ≡ pass → head_told (Ok (record { reading = reading; n = n; e = e })) ≡ file_answer bytes room
  unfolding file_answer head_of
  given_by reading n e r s u q = rw (q, r, s, u)

pub room_short : (places room : ℕ) → room < places → question4 places room ≡ refuse 4 0 0
unfolding question4
room_short places room h = rw (lt-leb places room h)

pub room_enough : (places room : ℕ) → places ≤ room → question4 places room ≡ pass
unfolding question4
room_enough places room h = rw (le-leb places room h)

-- How far a file is judged when the record due is to start at `at`: all before it is good.
pub record Judged (bytes : List ℕ) (room reading n rows at due : ℕ) : Type 0 where
  pub inside : at ≤ length bytes
  pub few : n ≤ 32
  pub short : rows ≤ 33
  pub kind : reading ≡ head_reading bytes
  pub stages : n ≡ head_stages bytes
  pub left : file_questions bytes room ≡ records_left bytes room n rows (sheet_numbers reading n) at due

module _ (bytes : List ℕ) (room reading n rows : ℕ) where
  pub judged_head : (at : ℕ) → whole_record bytes ≡ true → good_head bytes ≡ true → reading ≡ little 2 (drop 6 bytes) → n ≡ little 2 (drop 8 bytes) → rows ≡ sheet_rows reading n → at ≡ 0 + (6 + record_length bytes)
      → Judged bytes room reading n rows at 1
  judged_head at w g r s all behind =
      let read = head_read bytes g in
      let kind : reading ≡ head_reading bytes = r ∙ sym (head_reading_lem bytes read.size) in
      let stages : n ≡ head_stages bytes = s ∙ sym (head_stages_lem bytes read.size) in
      record {
        inside = omega (arith, whole_room bytes 0 w);
        few = omega arith;
        short = omega (arith, rows_few reading n);
        kind = kind;
        stages = stages;
        left = rw (all, kind, stages, behind, zero-add (6 + record_length bytes)) (head_good bytes room w g);
      }

  pub judged_record : (at due : ℕ) → Judged bytes room reading n rows at due → due ≤ rows → whole_record (drop at bytes) ≡ true → good_record n due (drop at bytes) ≡ true
      → Judged bytes room reading n rows (at + (6 + record_length (drop at bytes))) (due + 1)
  judged_record at due j h w g =
      record {
        inside = whole_room bytes at w;
        few = j.few;
        short = j.short;
        kind = j.kind;
        stages = j.stages;
        left = j.left ∙ record_good bytes room n rows (sheet_numbers reading n) at due h w g;
      }
