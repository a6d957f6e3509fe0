-- Reading the file of a sheet: it is accepted, and what is read are the sheet's words.
use Prim.Native.Nat.{ℕ, zero, suc, ◌+◌, ◌*◌, ◌^◌, ◌≤◌, ◌<◌}
use mathlib.Core.Bool.{true}
use mathlib.Core.List.{List, [], ◌∷◌, ◌++◌, append_assoc, append-nil}
use mathlib.Core.Path.{◌≡◌, refl, sym, ap, ap₂, ◌∙◌}
use native.Mathlib.Nat.{suc-mul, zero-mul}
use native.Mathlib.Omega.{arith}
use borrow.Author.Tests.{eq-eqb, le-leb}
use lib.Dec.{T}
use lib.IntN.{ℤ}
use lib.Signed.{mag}
use lib.ListN.{length, take, drop, length-append, length-drop}
use lib.Seq.{drop_at, drop-drop, take-add, take_all, length-take-le}
use lib.Ieee.Bits.{is_true}
use Rattle.definitions.specs.Sheet.{sheet_rows, sheet_numbers}
use Rattle.definitions.specs.Questions.{pass, known_reading, exponent_in_range, question1, question2, question4}
use Rattle.definitions.specs.File.{little, record_length, record_kind, payload, rest, whole_record, head_length, old_head_length, head_reading, head_stages, head_unit, known_head, good_head, good_record, record_questions, file_questions, number_bytes, words, record_words, file_words}
use Rattle.definitions.specs.Saving.{little_bytes, record_bytes, complement, head_bytes, word_bytes, bytes_due, records_bytes, sheet_file}
use Rattle.records.proofs.LittleBytes.{length-little}
use Rattle.records.proofs.Signed.{signed-complement, complement_small}
use Rattle.records.proofs.RecordDue.{kind_due, number_due, width_due, width_small, kind_narrow, number_narrow, bytes_due_lem, numbers_due, read_good}
use Rattle.counts.proofs.Counts.{rows_few, rows_of-numbers}
use Rattle.steps.proofs.QuestionLaws.{exponent_small}
use Rattle.saving.proofs.FileBytes.{length-words}
use Rattle.round_trip.specs.RoundTrip.{Below}
use Rattle.round_trip.proofs.Bytes.{below_first, below_rest, below-drop, below-take, number_back}
use Rattle.round_trip.proofs.RecordBytes.{length_back, kind_back, payload_back, rest_back, whole_back}

-- Words in eight bytes each.
words_back : (list : List ℕ) → Below (256 ^ 8) list → words (length list) (word_bytes list) ≡ list
unfolding words word_bytes
words_back [] b = refl
words_back (word ∷ list) b =
    ap₂ (λ first more. first ∷ more) (number_back 8 word (word_bytes list) (below_first word list b))
    (ap (words (length list)) (drop_at (little_bytes 8 word) (word_bytes list) 8 (length-little 8 word)) ∙ words_back list (below_rest word list b))

-- One record of n words, with more bytes behind it.
module _ (n due : ℕ) (row later : List ℕ) (held : length row ≡ n) (few : n ≤ 32) (narrow : due < 256 ^ 2) where
  abbrev kind : ℕ
  kind = kind_due n due

  abbrev width : ℕ
  width = width_due n due

  number : List ℕ
  number = little_bytes width (number_due n due)

  content : List ℕ
  content = number ++ word_bytes row

  abbrev bytes : List ℕ
  bytes = bytes_due n due row ++ later

  as_record : bytes ≡ record_bytes kind content ++ later
  unfolding content number
  as_record = rw (bytes_due_lem n due row)

  length_content : length content ≡ width + 8 * n
  unfolding content number
  length_content = rw (length-append, length-little, length-words, held)

  short : length content < 256 ^ 4
  short = omega (arith, length_content, width_small n due)

  pub record_whole : whole_record bytes ≡ true
  record_whole = rw as_record (whole_back kind content later (kind_narrow n due) short)

  pub record_rest : rest bytes ≡ later
  record_rest = rw as_record (rest_back kind content later (kind_narrow n due) short)

  record_payload : payload bytes ≡ content
  record_payload = rw as_record (payload_back kind content later (kind_narrow n due) short)

  record_kind_lem : record_kind bytes ≡ kind
  record_kind_lem = rw as_record (kind_back kind content later (kind_narrow n due) short)

  record_length_lem : record_length bytes ≡ width + 8 * n
  record_length_lem = rw as_record (length_back kind content later (kind_narrow n due) short) ∙ length_content

  record_number : little width (payload bytes) ≡ number_due n due
  unfolding content number
  record_number = rw record_payload (number_back width (number_due n due) (word_bytes row) (number_narrow n due narrow))

  pub record_good : good_record n due bytes ≡ true
  record_good = read_good n due bytes (record { kind = record_kind_lem; size = record_length_lem; number = record_number })

  pub record_words_lem : Below (256 ^ 8) row → words n (number_bytes n due bytes) ≡ row
  unfolding content number
  record_words_lem b =
      rw (numbers_due n due bytes, record_payload, drop_at number (word_bytes row) width (length-little width (number_due n due)))
      (ap (λ m. words m (word_bytes row)) (sym held) ∙ words_back row b)

-- All records: the questions pass, and the words come back.
module _ (n : ℕ) (few : n ≤ 32) where
  row_held : (m : ℕ) (list : List ℕ) → suc m * n ≤ length list → (length (take n list) ≡ n) × (m * n ≤ length (drop n list))
  row_held m list h =
      let more : n + m * n ≤ length list = omega (arith, suc-mul m n) in
      (length-take-le n list (omega arith), rw length-drop (omega arith))

  pub records_pass : (due m : ℕ) (list : List ℕ) → m * n ≤ length list → due + m ≤ 34 → record_questions n due m (records_bytes n due m list) ≡ pass
  unfolding record_questions records_bytes
  records_pass due zero list h due-few = refl
  records_pass due (suc m) list h due-few =
      let row = take n list in
      let later = records_bytes n (suc due) m (drop n list) in
      let held = row_held m list h in
      let narrow : due < 256 ^ 2 = omega arith in
      rw (record_whole n due row later held.0 few narrow, record_good n due row later held.0 few narrow, record_rest n due row later held.0 few narrow)
      (records_pass (suc due) m (drop n list) held.1 (omega arith))

  pub records_back : (due m : ℕ) (list : List ℕ) → m * n ≤ length list → due + m ≤ 34 → Below (256 ^ 8) list → record_words n due m (records_bytes n due m list) ≡ take (m * n) list
  unfolding record_words records_bytes
  records_back due zero list h due-few b = rw zero-mul
  records_back due (suc m) list h due-few b =
      let row = take n list in
      let later = records_bytes n (suc due) m (drop n list) in
      let held = row_held m list h in
      let narrow : due < 256 ^ 2 = omega arith in
      let size : suc m * n ≡ n + m * n = omega (arith, suc-mul m n) in
      rw (record_words_lem n due row later held.0 few narrow (below-take n list b), record_rest n due row later held.0 few narrow, records_back (suc due) m (drop n list) held.1 (omega arith) (below-drop n list b), size)
      (sym (take-add n (m * n) list))

-- The head, with more bytes behind it.
module _ (reading n : ℕ) (e : ℤ) (later : List ℕ) (narrow : reading < 256 ^ 2) (few : n < 256 ^ 2) (unit : T (exponent_in_range e)) where
  head_content : List ℕ
  head_content = little_bytes 2 reading ++ little_bytes 2 n ++ little_bytes 2 (complement e)

  abbrev head_and_records : List ℕ
  head_and_records = head_bytes reading n e ++ later

  length_head_content : length head_content ≡ 6
  unfolding head_content
  length_head_content = simp (length-append, length-little)

  head_short : length head_content < 256 ^ 4
  head_short = omega (arith, length_head_content)

  pub head_whole : whole_record head_and_records ≡ true
  unfolding head_bytes head_content
  head_whole = whole_back 1 head_content later (omega arith) head_short

  pub head_rest : rest head_and_records ≡ later
  unfolding head_bytes head_content
  head_rest = rest_back 1 head_content later (omega arith) head_short

  head_payload : payload head_and_records ≡ head_content
  unfolding head_bytes head_content
  head_payload = payload_back 1 head_content later (omega arith) head_short

  head_kind : record_kind head_and_records ≡ 1
  unfolding head_bytes head_content
  head_kind = kind_back 1 head_content later (omega arith) head_short

  head_length_lem : record_length head_and_records ≡ 6
  unfolding head_bytes head_content
  head_length_lem = length_back 1 head_content later (omega arith) head_short ∙ length_head_content

  -- The payload's three numbers, one behind the other.
  in_order_lem : head_content ≡ little_bytes 2 reading ++ (little_bytes 2 n ++ little_bytes 2 (complement e))
  unfolding head_content
  in_order_lem = append_assoc (little_bytes 2 reading) (little_bytes 2 n) (little_bytes 2 (complement e))

  after-reading : drop 2 head_content ≡ little_bytes 2 n ++ little_bytes 2 (complement e)
  after-reading = rw in_order_lem (drop_at (little_bytes 2 reading) _ 2 (length-little 2 reading))

  after-stages : drop 4 head_content ≡ little_bytes 2 (complement e)
  after-stages = sym (drop-drop 2 2 head_content) ∙ rw after-reading (drop_at (little_bytes 2 n) _ 2 (length-little 2 n))

  pub head_reading_lem : head_reading head_and_records ≡ reading
  unfolding head_reading
  head_reading_lem = rw (head_payload, in_order_lem) (number_back 2 reading (little_bytes 2 n ++ little_bytes 2 (complement e)) narrow)

  pub head_stages_lem : head_stages head_and_records ≡ n
  unfolding head_stages
  head_stages_lem = rw (head_payload, after-reading) (number_back 2 n (little_bytes 2 (complement e)) few)

  small : mag e < 32768
  small = omega (arith, exponent_small e unit)

  pub head_unit_lem : head_unit head_and_records ≡ e
  unfolding head_unit old_head_length
  head_unit_lem =
      let word : little 2 (little_bytes 2 (complement e)) ≡ complement e =
      ap (little 2) (sym (append-nil (little_bytes 2 (complement e)))) ∙ number_back 2 (complement e) [] (complement_small e small) in
      rw (head_length_lem, head_payload, after-stages, word) (signed-complement e small)

  pub head_good : known_reading reading ≡ true → 1 ≤ n → n ≤ 32 → good_head head_and_records ≡ true
  unfolding good_head known_head head_length old_head_length
  head_good known least most =
      rw (eq-eqb (record_kind head_and_records) 1 head_kind, head_length_lem, head_reading_lem, head_stages_lem, head_unit_lem, known, le-leb 1 n least, le-leb n 32 most, is_true (exponent_in_range e) unit)

-- The file of a sheet for which the questions of saving pass.
module _ (reading n : ℕ) (e : ℤ) (room : ℕ) (list : List ℕ) (known : known_reading reading ≡ true) (narrow : reading < 256 ^ 2) (least : 1 ≤ n) (most : n ≤ 32) (held : length list ≡ sheet_numbers reading n) (enough : sheet_numbers reading n ≤ room) (unit : T (exponent_in_range e)) where
  records : List ℕ
  records = records_bytes n 1 (sheet_rows reading n) list

  abbrev file : List ℕ
  file = sheet_file reading n e list

  few : n < 256 ^ 2
  few = omega arith

  pub file-reading : head_reading file ≡ reading
  unfolding sheet_file records
  file-reading = head_reading_lem reading n e records narrow few unit

  pub file-stages : head_stages file ≡ n
  unfolding sheet_file records
  file-stages = head_stages_lem reading n e records narrow few unit

  pub file-unit : head_unit file ≡ e
  unfolding sheet_file records
  file-unit = head_unit_lem reading n e records narrow few unit

  file-rest : rest file ≡ records
  unfolding sheet_file records
  file-rest = head_rest reading n e records narrow few unit

  file-whole : whole_record file ≡ true
  unfolding sheet_file records
  file-whole = head_whole reading n e records narrow few unit

  file-good : good_head file ≡ true
  unfolding sheet_file records
  file-good = head_good reading n e records narrow few unit known least most

  -- Whole rows of n words, at most 33 of them.
  all-rows : length list ≡ sheet_rows reading n * n
  all-rows = held ∙ rows_of-numbers reading n

  last : 1 + sheet_rows reading n ≤ 34
  last = omega (arith, rows_few reading n)

  file_records : record_questions n 1 (sheet_rows reading n) records ≡ pass
  unfolding records
  file_records = records_pass n most 1 (sheet_rows reading n) list (omega (arith, all-rows)) last

  pub file-passes : file_questions file room ≡ pass
  unfolding file_questions question1 question2 question4
  file-passes = rw (file-whole, file-good, file-reading, file-stages, file-rest, file_records, known, le-leb 1 n least, le-leb n 32 most, le-leb (sheet_numbers reading n) room enough)

  pub file-words : Below (256 ^ 8) list → file_words file ≡ list
  unfolding file_words records
  file-words b =
      rw (file-reading, file-stages, file-rest, records_back n most 1 (sheet_rows reading n) list (omega (arith, all-rows)) last b)
      (take_all (sheet_rows reading n * n) list (omega (arith, all-rows)))
