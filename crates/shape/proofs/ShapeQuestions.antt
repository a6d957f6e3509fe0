-- Questions 1, 2, 12 and 3 with those after them, and what is known of a call once they passed.
use mathlib.Core.Path.{◌≡◌, refl, sym, ◌∙◌}
use mathlib.Core.Bool.{Bool, true, false, not, ◌&&◌, ◌||◌}
use borrow.Author.Tests.{not-false, eq-eqb, ne_eqb, leb-true, lt-leb, le-leb}
use mathlib.Core.List.{List}
use Prim.Native.Nat.{ℕ, ◌*◌, ◌≤◌, ◌<◌}
use lib.Dec.{T, leb, eqb, leb→le, eqb→eq}
use lib.IntN.{ℤ}
use lib.ListN.{length}
use lib.Ieee.{Float}
use lib.Ieee.Fits.{and_l, and_r}
use Rattle.definitions.specs.Sheet.{sheet_numbers}
use Rattle.definitions.specs.Questions.{Asked, pass, ◌then◌, ask, exponent_in_range, known_reading, question1, question2, question12, question3, size_questions, shape_questions, question4, question5, place_questions, number_questions, table_input, entry_input}
use Rattle.definitions.specs.File.{file_length}
use Rattle.definitions.specs.Saving.{save_questions}
use Rattle.definitions.specs.Moving.{move_input}
use Rattle.definitions.specs.Column.{column_reading, column_shape, column_input}
use Rattle.definitions.specs.Prices.{question18, price_shape, price_input}
use Rattle.steps.proofs.QuestionLaws.{then_first, then_next, ask_yes, is_stage, one-stage}
use Rattle.std.specs.Prelude.{Result}
use Rattle.answers.specs.declared.Question.TheVariants as question
use Rattle.answers.specs.declared.Refusal.{Refusal}
use Rattle.answers.specs.Outcome.{ComesTo}
use Rattle.answers.proofs.Outcome.{Passes, Refuses, all_pass, no, asked_no, asked_yes, in_other_words}
use Rattle.exact.proofs.Bools.{and_second}
use Rattle.shape.specs.Square.{WholeSheet}

-- What 2, 12 and 3 say where they passed.
pub record Sized (reading n : ℕ) (e : ℤ) (held : ℕ) : Type 0 where
  pub least : 1 ≤ n
  pub few : n ≤ 32
  pub unit : T (exponent_in_range e)
  pub numbers : held ≡ sheet_numbers reading n

size-passed : (reading n : ℕ) (e : ℤ) (held : ℕ) → size_questions reading n e held ≡ pass → Sized reading n e held
unfolding size_questions question2 question12 question3
size-passed reading n e held q =
    let two = ask (leb 1 n && leb n 32) 2 0 0 in
    let twelve = ask (exponent_in_range e) 12 0 0 in
    let three = ask (eqb held (sheet_numbers reading n)) 3 0 0 in
    let stages = is_stage n 32 (ask_yes (leb 1 n && leb n 32) 2 0 0 (then_first two (twelve then three) q)) in
    let later = then_next two (twelve then three) q in
    record {
      least = stages.0;
      few = stages.1;
      unit = ask_yes (exponent_in_range e) 12 0 0 (then_first twelve three later);
      numbers = eqb→eq held (sheet_numbers reading n) (ask_yes (eqb held (sheet_numbers reading n)) 3 0 0 (then_next twelve three later));
    }

pub sized : (reading n : ℕ) (e : ℤ) (held : ℕ) → shape_questions reading n e held ≡ pass → Sized reading n e held
unfolding shape_questions
sized reading n e held q = size-passed reading n e held (then_next (question1 reading) (size_questions reading n e held) q)

-- What they come to, by the tests of the code.
module _ (reading n : ℕ) (e : ℤ) (held : ℕ) where
  pub bad_reading : not (eqb reading 1 || eqb reading 2 || eqb reading 3) ≡ true → Refuses (shape_questions reading n e held) question.Reading
  unfolding shape_questions question1 known_reading
  bad_reading t = no (rw (asked_no (eqb reading 1 || eqb reading 2 || eqb reading 3) 1 0 0 t))

  module _ (first : not (eqb reading 1 || eqb reading 2 || eqb reading 3) ≡ false) where
    pub bad_stages : not (leb 1 n && leb n 32) ≡ true → Refuses (shape_questions reading n e held) question.Stages
    unfolding shape_questions size_questions question1 known_reading question2
    bad_stages t = no (rw (asked_yes (eqb reading 1 || eqb reading 2 || eqb reading 3) 1 0 0 first, asked_no (leb 1 n && leb n 32) 2 0 0 t))

    module _ (second : not (leb 1 n && leb n 32) ≡ false) where
      pub few_passed : n ≤ 32
      few_passed = leb-true n 32 (and_second (leb 1 n) (leb n 32) (not-false (leb 1 n && leb n 32) second))

      pub bad_unit : not (exponent_in_range e) ≡ true → Refuses (shape_questions reading n e held) question.Head
      unfolding shape_questions size_questions question1 known_reading question2 question12
      bad_unit t =
          no
          (rw (asked_yes (eqb reading 1 || eqb reading 2 || eqb reading 3) 1 0 0 first, asked_yes (leb 1 n && leb n 32) 2 0 0 second, asked_no (exponent_in_range e) 12 0 0 t))

      module _ (unit : not (exponent_in_range e) ≡ false) where
        to_length : shape_questions reading n e held ≡ question3 reading n held
        unfolding shape_questions size_questions question1 known_reading question2 question12
        to_length = rw (asked_yes (eqb reading 1 || eqb reading 2 || eqb reading 3) 1 0 0 first, asked_yes (leb 1 n && leb n 32) 2 0 0 second, asked_yes (exponent_in_range e) 12 0 0 unit)

        module _ {count : ℕ} (is : count ≡ sheet_numbers reading n) where
          pub bad_length : (held ≡ count → ⊥) → Refuses (shape_questions reading n e held) question.Length
          unfolding question3
          bad_length h = no (to_length ∙ rw (ne_eqb held (sheet_numbers reading n) (λ same. h (same ∙ sym is))))

          pub good_shape : held ≡ count → Passes (shape_questions reading n e held)
          unfolding question3
          good_shape same = all_pass (to_length ∙ rw (eq-eqb held (sheet_numbers reading n) (same ∙ is)))

-- And question 4, for any number of places, and question 5.
module _ (needed room : ℕ) where
  pub bad_room : room < needed → Refuses (question4 needed room) question.Room
  unfolding question4
  bad_room h = no (rw (lt-leb needed room h))

  pub good_room : needed ≤ room → Passes (question4 needed room)
  unfolding question4
  good_room h = all_pass (rw (le-leb needed room h))

module _ (n i j : ℕ) where
  pub bad_entry : not (leb 1 i && leb i n && (leb 1 j && leb j n)) ≡ true → Refuses (question5 n i j) question.StageAsked
  unfolding question5
  bad_entry e = no (asked_no (leb 1 i && leb i n && (leb 1 j && leb j n)) 5 0 0 e)

  pub good-entry : not (leb 1 i && leb i n && (leb 1 j && leb j n)) ≡ false → Passes (question5 n i j)
  unfolding question5
  good-entry e = all_pass (asked_yes (leb 1 i && leb i n && (leb 1 j && leb j n)) 5 0 0 e)

-- And question 18.
module _ (n given : ℕ) where
  pub bad_count : (given ≡ n → ⊥) → Refuses (question18 n given) question.PriceCount
  unfolding question18
  bad_count h = no (rw (ne_eqb given n h))

  pub good_count : given ≡ n → Passes (question18 n given)
  unfolding question18
  good_count same = all_pass (rw (eq-eqb given n same))

room_held : (needed room : ℕ) → question4 needed room ≡ pass → needed ≤ room
unfolding question4
room_held needed room e = leb→le needed room (ask_yes (leb needed room) 4 0 0 e)

-- Saving has no further questions.
pub save_passed : (reading n : ℕ) (e : ℤ) (held room : ℕ) → save_questions reading n e held room ≡ pass → Sized reading n e held × (file_length reading n ≤ room)
unfolding save_questions
save_passed reading n e held room q =
    let shape = shape_questions reading n e held in
    let four = question4 (file_length reading n) room in
    (sized reading n e held (then_first shape four q), room_held (file_length reading n) room (then_next shape four q))

-- One column asks the first four of reading 1.
same_again : (b : Bool) → (b && b) ≡ b
same_again true = refl
same_again false = refl

module _ (n : ℕ) (e : ℤ) (held room stage : ℕ) where
  column_shape_lem : column_shape 1 n e held room stage ≡ (shape_questions 1 n e held then question4 n room then question5 n stage stage)
  unfolding column_shape column_reading shape_questions question1 known_reading
  column_shape_lem = refl

  -- What it asks of reading 1, after the first four.
  pub column-next : {A : Type 0} {reading : ℕ} {answer : Result A Refusal} → reading ≡ 1
      → ComesTo (shape_questions 1 n e held then question4 n room then question5 n stage stage) answer
      → ComesTo (column_shape reading n e held room stage) answer
  column-next one q = rw one (in_other_words (sym column_shape_lem) q)

  pub column_bad_reading : {reading : ℕ} → (reading ≡ 1 → ⊥) → Refuses (column_shape reading n e held room stage) question.Reading
  unfolding column_shape column_reading
  column_bad_reading {reading} h = no (rw (ne_eqb reading 1 h))

module _ (n stage : ℕ) where
  pub bad_stage : not (leb 1 stage && leb stage n) ≡ true → Refuses (question5 n stage stage) question.StageAsked
  bad_stage t = bad_entry n stage stage (rw (same_again (leb 1 stage && leb stage n)) t)

  pub good-stage : not (leb 1 stage && leb stage n) ≡ false → Passes (question5 n stage stage)
  good-stage t = good-entry n stage stage (rw (same_again (leb 1 stage && leb stage n)) t)

-- What is known of a column's call once its questions passed.
column_shape-passed : (reading n : ℕ) (e : ℤ) (held room stage : ℕ) → column_shape reading n e held room stage ≡ pass
    → Sized 1 n e held × (n ≤ room) × ((1 ≤ stage) × (stage ≤ n))
unfolding column_shape
column_shape-passed reading n e held room stage q =
    let size = size_questions 1 n e held in
    let last = question4 n room then question5 n stage stage in
    let later = then_next (column_reading reading) (size then last) q in
    let own = then_next size last later in
    (size-passed 1 n e held (then_first size last later), room_held n room (then_first (question4 n room) (question5 n stage stage) own), one-stage n stage (then_next (question4 n room) (question5 n stage stage) own))

whole : {reading n : ℕ} {e : ℤ} {sheet : List Float} → Sized reading n e (length sheet) → WholeSheet reading n sheet
whole s = record { least = s.least; few = s.few; held = s.numbers }

module _ (reading n : ℕ) (e : ℤ) (sheet : List Float) where
  pub column_square : (room stage : ℕ) → column_shape reading n e (length sheet) room stage ≡ pass → WholeSheet 1 n sheet
  column_square room stage q = whole (column_shape-passed reading n e (length sheet) room stage q).0

  pub column-input-passed : (room stage : ℕ) → column_input reading n e sheet room stage ≡ pass → WholeSheet 1 n sheet × (n ≤ room) × ((1 ≤ stage) × (stage ≤ n))
  unfolding column_input
  column-input-passed room stage asked =
      let q = then_first (column_shape reading n e (length sheet) room stage) (number_questions 1 n sheet) asked in
      let p = column_shape-passed reading n e (length sheet) room stage q in
      (whole p.0, p.1, p.2)

  pub shape_passed : (rest : Asked) → (shape_questions reading n e (length sheet) then rest) ≡ pass → WholeSheet reading n sheet × (rest ≡ pass)
  shape_passed rest q =
      let shape = shape_questions reading n e (length sheet) in
      (whole (sized reading n e (length sheet) (then_first shape rest q)), then_next shape rest q)

  -- The calls' own questions, 4 and 5, come next.
  pub table-input-passed : (room : ℕ) → table_input reading n e sheet room ≡ pass → WholeSheet reading n sheet × (n * n ≤ room)
  unfolding table_input
  table-input-passed room q =
      let p = shape_passed (question4 (n * n) room then number_questions reading n sheet) q in
      (p.0, room_held (n * n) room (then_first (question4 (n * n) room) (number_questions reading n sheet) p.1))

  -- Moving asks 6 to 8 next, and adds to the unit.
  pub move_unit : (room : ℕ) → move_input reading n e sheet room ≡ pass → T (exponent_in_range e)
  unfolding move_input
  move_unit room q =
      let shape = shape_questions reading n e (length sheet) in
      (sized reading n e (length sheet) (then_first shape (question4 (sheet_numbers reading n) room then place_questions reading n sheet) q)).unit

  pub move_input-passed : (room : ℕ) → move_input reading n e sheet room ≡ pass → WholeSheet reading n sheet × (sheet_numbers reading n ≤ room) × (place_questions reading n sheet ≡ pass)
  unfolding move_input
  move_input-passed room q =
      let p = shape_passed (question4 (sheet_numbers reading n) room then place_questions reading n sheet) q in
      (p.0, room_held (sheet_numbers reading n) room (then_first (question4 (sheet_numbers reading n) room) (place_questions reading n sheet) p.1), then_next (question4 (sheet_numbers reading n) room) (place_questions reading n sheet) p.1)

  pub entry-input-passed : (i j : ℕ) → entry_input reading n e sheet i j ≡ pass → WholeSheet reading n sheet × ((1 ≤ i) × (i ≤ n)) × ((1 ≤ j) × (j ≤ n))
  unfolding entry_input question5
  entry-input-passed i j q =
      let p = shape_passed (question5 n i j then number_questions reading n sheet) q in
      let t = ask_yes (leb 1 i && leb i n && (leb 1 j && leb j n)) 5 0 0 (then_first (question5 n i j) (number_questions reading n sheet) p.1) in
      (p.0, is_stage i n (and_l (leb 1 i && leb i n) (leb 1 j && leb j n) t), is_stage j n (and_r (leb 1 i && leb i n) (leb 1 j && leb j n) t))

  -- Prices ask 4 for n numbers, and 18.
  price_shape-passed : (given room : ℕ) → price_shape reading n e (length sheet) given room ≡ pass → WholeSheet reading n sheet × (n ≤ room) × (given ≡ n)
  unfolding price_shape question18
  price_shape-passed given room q =
      let four = question4 n room in
      let last = question18 n given in
      let p = shape_passed (four then last) q in
      (p.0, room_held n room (then_first four last p.1), eqb→eq given n (ask_yes (eqb given n) 18 0 0 (then_next four last p.1)))

  pub price_square : (given room : ℕ) → price_shape reading n e (length sheet) given room ≡ pass → WholeSheet reading n sheet
  price_square given room q = (price_shape-passed given room q).0

  pub price_input-passed : (given room : ℕ) → price_input reading n e sheet given room ≡ pass → WholeSheet reading n sheet × (n ≤ room) × (given ≡ n)
  unfolding price_input
  price_input-passed given room q =
      price_shape-passed given room (then_first (price_shape reading n e (length sheet) given room) (number_questions reading n sheet) q)
