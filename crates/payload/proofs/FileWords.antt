-- The numbers of a file that is accepted: where the k-th word stands, and that the file holds it.
use Prim.Native.Nat.{ℕ, zero, suc, ◌+◌, ◌-◌, ◌*◌, ◌/◌, ◌≤◌, ◌<◌}
use mathlib.Core.Bool.{true}
use mathlib.Core.List.{List, ◌++◌}
use mathlib.Core.Path.{◌≡◌, refl, sym, ap, ◌∙◌}
use native.Mathlib.Nat.{add-zero, zero-add, not-suc-le-zero, le_of_suc-le-suc, div-eq_of_lt, div-eq-sub-div}
use native.Mathlib.Decide.{dec_lt}
use native.Mathlib.Omega.{arith}
use borrow.Author.Tests.{leb-true}
use lib.Dec.{leb}
use lib.ListN.{length, drop, get_or, length-append, length-drop, length-map, get_or-append}
use lib.Ieee.{binary64, of_bits}
use lib.Ieee.Bits.{is_true}
use lib.Ieee.Positive.{first_pos}
use lib.Seq.{drop-drop, get_or-append-add}
use Rattle.definitions.specs.Sheet.{sheet_rows, sheet_numbers}
use Rattle.definitions.specs.Questions.{pass, ask, ◌then◌, question1, question2, question4}
use Rattle.definitions.specs.File.{little, record_length, payload, rest, whole_record, head_reading, head_stages, good_head, good_record, record_questions, file_questions, number_bytes, words, record_words, file_words, file_numbers}
use Rattle.steps.proofs.QuestionLaws.{then_first, then_next, ask_yes}
use Rattle.counts.proofs.Counts.{rows_few, rows_of-numbers}
use Rattle.payload.specs.SheetFile.{SheetFile}
use Rattle.records.proofs.Records.{payload-at, whole_room}
use Rattle.records.proofs.RecordDue.{width_due, row-width, weights-width, numbers_due, RecordRead, record_read}
use Rattle.file_questions.proofs.Judging.{Read, head_read}

-- m words of 8 bytes.
pub words-length : (m : ℕ) (bytes : List ℕ) → length (words m bytes) ≡ m
unfolding words
words-length zero bytes = refl
words-length (suc m) bytes = ap suc (words-length m (drop 8 bytes))

words-at : (m k : ℕ) (bytes : List ℕ) → k < m → get_or (words m bytes) k 0 ≡ little 8 (drop (8 * k) bytes)
unfolding words
words-at zero k bytes h = absurd (not-suc-le-zero h)
words-at (suc m) zero bytes h = refl
words-at (suc m) (suc k) bytes h =
    let place : 8 + 8 * k ≡ 8 * suc k = omega arith in
    words-at m k (drop 8 bytes) (le_of_suc-le-suc h) ∙ ap (little 8) (drop-drop (8 * k) 8 bytes ∙ ap (λ i. drop i bytes) place)

-- The records of n words each.
record_words-length : (n due m : ℕ) (bytes : List ℕ) → length (record_words n due m bytes) ≡ m * n
unfolding record_words
record_words-length n due zero bytes = omega arith
record_words-length n due (suc m) bytes =
    let one = words-length n (number_bytes n due bytes) in
    let more = record_words-length n (suc due) m (rest bytes) in
    length-append (words n (number_bytes n due bytes)) (record_words n (suc due) m (rest bytes)) ∙ omega arith

-- What the questions of m + 1 records say where all are answered yes.
pub record RecordPassed (n due m : ℕ) (bytes : List ℕ) : Type 0 where
  pub whole : whole_record bytes ≡ true
  pub read : RecordRead n due bytes
  pub inside : 6 + (width_due n due + 8 * n) ≤ length bytes
  pub ends : rest bytes ≡ drop (6 + (width_due n due + 8 * n)) bytes
  pub later : record_questions n (suc due) m (rest bytes) ≡ pass

pub record_passed : (n due m : ℕ) (bytes : List ℕ) → record_questions n due (suc m) bytes ≡ pass → RecordPassed n due m bytes
unfolding record_questions rest
record_passed n due m bytes e =
    let whole = ask (whole_record bytes) 11 due 0 in
    let good = ask (good_record n due bytes) 13 due 0 in
    let later = record_questions n (suc due) m (rest bytes) in
    let is_whole = is_true (whole_record bytes) (ask_yes (whole_record bytes) 11 due 0 (then_first whole (good then later) e)) in
    let behind = then_next whole (good then later) e in
    let read = record_read n due bytes (is_true (good_record n due bytes) (ask_yes (good_record n due bytes) 13 due 0 (then_first good later behind))) in
    record {
      whole = is_whole;
      read = read;
      inside = omega (arith, whole_room bytes 0 is_whole, read.size);
      ends = ap (λ size. drop (6 + size) bytes) read.size;
      later = then_next good later behind;
    }

-- Word k of a list stands at a place of the bytes, which hold it whole.
pub record WordAt (list bytes : List ℕ) (k place : ℕ) : Type 0 where
  pub word : get_or list k 0 ≡ little 8 (drop place bytes)
  pub held : place + 8 ≤ length bytes

at_place : {list bytes : List ℕ} {k place other : ℕ} → place ≡ other → WordAt list bytes k place → WordAt list bytes k other
at_place e w = rw e at w

-- Behind the start of the record due, before word k of the records: k words, eight bytes for each of the k / n rows, and what stands
-- before the numbers of its own record.
abbrev pub place_of : ℕ → ℕ → ℕ → ℕ
place_of n due k = 6 + width_due n (due + k / n) + 8 * (k + k / n)

first_place : (n due k : ℕ) → k < n → 6 + (width_due n due + 8 * k) ≡ place_of n due k
first_place n due k h = rw (div-eq_of_lt h, add-zero due) (omega arith)

next_place : (n due k : ℕ) → 0 < n → n ≤ k → 6 + (2 + 8 * n) + place_of n (suc due) (k - n) ≡ place_of n due k
next_place n due k p h =
    let rows = div-eq-sub-div p h in
    let same : suc due + (k - n) / n ≡ due + k / n = omega arith in
    rw same (omega arith)

module _ (n due m k : ℕ) (bytes later : List ℕ) (passed : RecordPassed n due m bytes) where
  abbrev own : List ℕ
  own = words n (number_bytes n due bytes)

  in_record : k < n → WordAt (own ++ later) bytes k (place_of n due k)
  in_record h =
      let width = width_due n due in
      let inside : width + 8 * k + 8 ≤ record_length bytes = omega (arith, passed.read.size) in
      let held : k < length own = rw words-length h in
      at_place (first_place n due k h)
      (record {
        word =
            get_or-append own later 0 k held
            ∙ words-at n k (number_bytes n due bytes) h
            ∙ ap (λ l. little 8 (drop (8 * k) l)) (numbers_due n due bytes)
            ∙ ap (little 8) (drop-drop (8 * k) width (payload bytes))
            ∙ payload-at bytes 0 (width + 8 * k) 8 inside
            ∙ ap (λ i. little 8 (drop i bytes)) (zero-add (6 + (width + 8 * k)));
        held = omega (arith, passed.inside);
      })

  past_record : 0 < n → n ≤ k → width_due n due ≡ 2 → WordAt later (rest bytes) (k - n) (place_of n (suc due) (k - n)) → WordAt (own ++ later) bytes k (place_of n due k)
  past_record p h row w =
      let before : length own + (k - n) ≡ k = omega (arith, words-length n (number_bytes n due bytes)) in
      let ends : rest bytes ≡ drop (6 + (2 + 8 * n)) bytes = rw row at passed.ends in
      let place = place_of n (suc due) (k - n) in
      at_place (next_place n due k p h)
      (record {
        word =
            ap (λ i. get_or (own ++ later) i 0) (sym before)
            ∙ get_or-append-add own later (k - n) 0
            ∙ w.word
            ∙ ap (λ l. little 8 (drop place l)) ends
            ∙ ap (little 8) (drop-drop place (6 + (2 + 8 * n)) bytes);
        held = omega (arith, w.held, ap length ends, length-drop (6 + (2 + 8 * n)) bytes);
      })

-- Of m records from the one due, none comes after the weights.
record_words-at : (n due m k : ℕ) (bytes : List ℕ) → record_questions n due m bytes ≡ pass → 0 < n → due + m ≤ n + 2 → k < m * n → WordAt (record_words n due m bytes) bytes k (place_of n due k)
unfolding record_words
record_words-at n due zero k bytes e p last h = absurd (omega arith)
record_words-at n due (suc m) k bytes e p last h =
    let passed = record_passed n due m bytes e in
    let later = record_words n (suc due) m (rest bytes) in
    elim (dec_lt k n) [
      | yes l ↦ in_record n due m k bytes later passed l
      | no l ↦
          let inside : k - n < m * n = omega arith in
          let row : due ≤ n = omega (arith, first_pos m n (omega arith)) in
          past_record n due m k bytes later passed p (omega arith) (row-width n due row) (record_words-at n (suc due) m (k - n) (rest bytes) passed.later p (omega arith) inside)
    ]

-- What the questions say of a file that is accepted.
pub record FilePassed (bytes : List ℕ) (n room : ℕ) : Type 0 where
  pub whole : whole_record bytes ≡ true
  pub read : Read bytes
  pub least : 1 ≤ n
  pub most : n ≤ 32
  pub inside : 6 + record_length bytes ≤ length bytes
  pub records : record_questions n 1 (sheet_rows (head_reading bytes) n) (rest bytes) ≡ pass
  pub held : question4 (sheet_numbers (head_reading bytes) n) room ≡ pass

pub file-passed : (bytes : List ℕ) (n : ℕ) (file : SheetFile bytes n) → FilePassed bytes n file.room
unfolding file_questions rest
file-passed bytes n file =
    let stages = head_stages bytes in
    let reading = head_reading bytes in
    let whole = ask (whole_record bytes) 11 0 0 in
    let good = ask (good_head bytes) 12 0 0 in
    let records = record_questions stages 1 (sheet_rows reading stages) (rest bytes) in
    let room = question4 (sheet_numbers reading stages) file.room in
    let last = question1 reading then question2 stages then room in
    let from-head = then_next whole (good then records then last) file.passes in
    let from-records = then_next good (records then last) from-head in
    let from-size = then_next (question1 reading) (question2 stages then room) (then_next records last from-records) in
    let is_whole = is_true (whole_record bytes) (ask_yes (whole_record bytes) 11 0 0 (then_first whole (good then records then last) file.passes)) in
    let read = head_read bytes (is_true (good_head bytes) (ask_yes (good_head bytes) 12 0 0 (then_first good (records then last) from-head))) in
    let pass-records = then_first records last from-records in
    let pass-room = then_next (question2 stages) room from-size in
    record {
      whole = is_whole;
      read = read;
      least = rw file.stages at read.least;
      most = rw file.stages at read.most;
      inside = omega (arith, whole_room bytes 0 is_whole);
      records = rw file.stages at pass-records;
      held = rw file.stages at pass-room;
    }

module _ (bytes : List ℕ) (n : ℕ) (file : SheetFile bytes n) where
  abbrev numbers : ℕ
  numbers = sheet_numbers (head_reading bytes) n

  abbrev rows : ℕ
  rows = sheet_rows (head_reading bytes) n

  pub at_least_one : 1 ≤ n
  at_least_one = (file-passed bytes n file).least

  pub few_stages : n ≤ 32
  few_stages = (file-passed bytes n file).most

  pub room_held : numbers ≤ file.room
  unfolding question4
  room_held = leb-true numbers file.room (is_true (leb numbers file.room) (ask_yes (leb numbers file.room) 4 0 0 (file-passed bytes n file).held))

  pub file-words-length : length (file_words bytes) ≡ numbers
  unfolding file_words
  file-words-length = rw file.stages (record_words-length n 1 rows (rest bytes) ∙ sym (rows_of-numbers (head_reading bytes) n))

  -- As many as the code counts.
  pub words_due : {reading count : ℕ} → reading ≡ head_reading bytes → count ≡ sheet_numbers reading n → length (file_words bytes) ≡ count
  words_due kind due = rw (due, kind) file-words-length

  pub head_held : 6 + record_length bytes ≤ length bytes
  head_held = (file-passed bytes n file).inside

  -- Word k, behind the head and the length and kind of the first record.
  pub file-word : (k : ℕ) → k < length (file_words bytes) → WordAt (file_words bytes) bytes k (6 + record_length bytes + place_of n 1 k)
  unfolding file_words rest
  file-word k h =
      let p = file-passed bytes n file in
      let inside : k < rows * n = rw (file-words-length, rows_of-numbers (head_reading bytes) n) at h in
      let last : 1 + rows ≤ n + 2 = omega (arith, rows_few (head_reading bytes) n) in
      let w = record_words-at n 1 rows k (rest bytes) p.records p.least last inside in
      record {
        word = rw file.stages (w.word ∙ ap (little 8) (drop-drop (place_of n 1 k) (6 + record_length bytes) bytes));
        held = omega (arith, w.held, p.inside, length-drop (6 + record_length bytes) bytes);
      }

  -- As the code finds it: in a row behind the row's number, and among the weights without one.
  module _ (k : ℕ) (h : k < length (file_words bytes)) where
    pub word_inside : 12 + record_length bytes + 8 * (k + k / n) ≤ length bytes
    word_inside = omega (arith, (file-word k h).held)

    pub row_word : k / n < n → WordAt (file_words bytes) bytes k (12 + record_length bytes + 8 * (k + k / n) + 2)
    row_word row = at_place (omega (arith, row-width n (1 + k / n) (omega arith))) (file-word k h)

    pub weight-word : n ≤ k / n → WordAt (file_words bytes) bytes k (12 + record_length bytes + 8 * (k + k / n))
    weight-word past = at_place (omega (arith, weights-width n (1 + k / n) (omega arith))) (file-word k h)

-- The same words as numbers.
pub as_many_words : (bytes : List ℕ) → length (file_numbers bytes) ≡ length (file_words bytes)
unfolding file_numbers
as_many_words bytes = length-map (file_words bytes) (λ word. of_bits binary64 word)
