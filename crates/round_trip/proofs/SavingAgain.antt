-- Writing the file of what was read: the bytes that were there.
use Prim.Native.Nat.{ℕ, zero, suc, ◌+◌, ◌*◌, ◌^◌, ◌≤◌}
use mathlib.Core.Bool.{true}
use mathlib.Core.List.{List, [], ◌∷◌, ◌++◌, append_assoc}
use mathlib.Core.Path.{◌≡◌, refl, sym, ◌∙◌}
use native.Mathlib.Omega.{arith}
use borrow.Author.Tests.{eqb-true, eq-eqb, ne_eqb}
use lib.Dec.{eqb, lit<}
use lib.ListN.{length, take, drop, length-append, length-drop, take-append-drop}
use lib.Seq.{take_at, drop_at, drop-drop, take-add, take_all}
use lib.Ieee.Bits.{is_true}
use Rattle.definitions.specs.Sheet.{sheet_rows}
use Rattle.definitions.specs.Questions.{pass}
use Rattle.definitions.specs.File.{little, record_length, record_kind, payload, rest, whole_record, old_head_length, head_reading, head_stages, head_unit, record_questions, number_bytes, words, record_words, file_words}
use Rattle.definitions.specs.Saving.{little_bytes, record_bytes, complement, head_bytes, word_bytes, bytes_due, records_bytes, sheet_file}
use Rattle.steps.proofs.QuestionLaws.{ask_yes}
use Rattle.exact.proofs.Cases.{by_equal}
use Rattle.records.proofs.Little.{below}
use Rattle.records.proofs.LittleBytes.{length-little}
use Rattle.records.proofs.RecordDue.{number_due, width_due, bytes_due_lem, numbers_due, RecordRead}
use Rattle.records.proofs.Signed.{complement-signed}
use Rattle.file_questions.proofs.HeadAndRecords.{at_least-four, not-four, old_unit}
use Rattle.file_questions.proofs.Judging.{Read}
use Rattle.payload.specs.SheetFile.{SheetFile}
use Rattle.payload.proofs.FileWords.{words-length, record_passed, file-passed}
use Rattle.round_trip.specs.RoundTrip.{Below, with_unit}
use Rattle.round_trip.proofs.Bytes.{bytes_back, below-drop, below-take, below_nothing, below_more, below_append, below_all}
use Rattle.round_trip.proofs.RecordBytes.{length-payload, kind-bytes_back, record_back}

-- The words of 8 bytes each.
word-bytes_back : (m : ℕ) (bytes : List ℕ) → Below 256 bytes → 8 * m ≤ length bytes → word_bytes (words m bytes) ≡ take (8 * m) bytes
unfolding words word_bytes
word-bytes_back zero bytes b h = refl
word-bytes_back (suc m) bytes b h =
    let size : 8 * suc m ≡ 8 + 8 * m = omega arith in
    rw (size, bytes_back 8 bytes b (omega arith), word-bytes_back m (drop 8 bytes) (below-drop 8 bytes b) (rw length-drop (omega arith)))
    (sym (take-add 8 (8 * m) bytes))

-- What stands in a record's payload is below 256 as the file is.
below-payload : (bytes : List ℕ) → Below 256 bytes → Below 256 (payload bytes)
unfolding payload
below-payload bytes b = below-take (record_length bytes) (drop 6 bytes) (below-drop 6 bytes b)

-- One record.
module _ (n due : ℕ) (bytes : List ℕ) (b : Below 256 bytes) (whole : whole_record bytes ≡ true) (read : RecordRead n due bytes) where
  abbrev width : ℕ
  width = width_due n due

  held : length (payload bytes) ≡ width + 8 * n
  held = length-payload bytes b whole ∙ read.size

  number_again : little_bytes width (number_due n due) ≡ take width (payload bytes)
  number_again = rw (← read.number) (bytes_back width (payload bytes) (below-payload bytes b) (omega (arith, held)))

  words_again : word_bytes (words n (drop width (payload bytes))) ≡ drop width (payload bytes)
  words_again =
      let size : length (drop width (payload bytes)) ≡ 8 * n = rw length-drop (omega (arith, held)) in
      word-bytes_back n (drop width (payload bytes)) (below-drop width (payload bytes) (below-payload bytes b)) (omega arith)
      ∙ take_all (8 * n) (drop width (payload bytes)) (omega arith)

  pub record_again : bytes_due n due (words n (number_bytes n due bytes)) ++ rest bytes ≡ bytes
  record_again =
      rw (bytes_due_lem n due (words n (number_bytes n due bytes)), numbers_due n due bytes, number_again, words_again, take-append-drop width (payload bytes), ← read.kind)
      (record_back bytes b whole)

-- All records.
below-after : (bytes : List ℕ) → Below 256 bytes → Below 256 (rest bytes)
unfolding rest
below-after bytes b = below-drop (6 + record_length bytes) bytes b

empty : (bytes : List ℕ) → length bytes ≡ 0 → [] ≡ bytes
empty [] e = refl
empty (x ∷ bytes) e = absurd (omega arith)

pub records_again : (n due m : ℕ) (bytes : List ℕ) → Below 256 bytes → record_questions n due m bytes ≡ pass → records_bytes n due m (record_words n due m bytes) ≡ bytes
unfolding record_questions record_words records_bytes
records_again n due zero bytes b e = empty bytes (eqb-true (length bytes) 0 (is_true (eqb (length bytes) 0) (ask_yes (eqb (length bytes) 0) 14 0 0 e)))
records_again n due (suc m) bytes b e =
    let passed = record_passed n due m bytes e in
    let list = words n (number_bytes n due bytes) in
    let later = record_words n (suc due) m (rest bytes) in
    let size = words-length n (number_bytes n due bytes) in
    rw (take_at list later n size, drop_at list later n size, records_again n (suc due) m (rest bytes) (below-after bytes b) passed.later)
    (record_again n due bytes b passed.whole passed.read)

-- The head, of either length.
module _ (bytes : List ℕ) (b : Below 256 bytes) (whole : whole_record bytes ≡ true) (read : Read bytes) where
  abbrev behind : List ℕ
  behind = payload bytes

  four : 4 ≤ length behind
  four = omega (arith, length-payload bytes b whole, at_least-four bytes read.size)

  reading-bytes : little_bytes 2 (head_reading bytes) ≡ take 2 behind
  unfolding head_reading
  reading-bytes = bytes_back 2 behind (below-payload bytes b) (omega (arith, four))

  stages-bytes : little_bytes 2 (head_stages bytes) ≡ take 2 (drop 2 behind)
  unfolding head_stages
  stages-bytes = bytes_back 2 (drop 2 behind) (below-drop 2 behind (below-payload bytes b)) (rw length-drop (omega (arith, four)))

  both : little_bytes 2 (head_reading bytes) ++ little_bytes 2 (head_stages bytes) ≡ take 4 behind
  both = rw (reading-bytes, stages-bytes) (sym (take-add 2 2 behind))

  -- Six bytes: the last two are e's own.
  module _ (other : record_length bytes ≡ 4 → ⊥) where
    six : length behind ≡ 6
    six = length-payload bytes b whole ∙ not-four bytes read.size other

    unit-bytes : little_bytes 2 (complement (head_unit bytes)) ≡ drop 4 behind
    unfolding head_unit old_head_length
    unit-bytes =
        let last = below-drop 4 behind (below-payload bytes b) in
        let size : length (drop 4 behind) ≡ 2 = rw length-drop (omega (arith, six)) in
        rw (ne_eqb (record_length bytes) 4 other, complement-signed (little 2 (drop 4 behind)) (below 2 (drop 4 behind) (below_all (lit< tt) (drop 4 behind) last)))
        (bytes_back 2 (drop 4 behind) last (omega arith) ∙ take_all 2 (drop 4 behind) (omega arith))

    same_head : head_bytes (head_reading bytes) (head_stages bytes) (head_unit bytes) ++ rest bytes ≡ bytes
    unfolding head_bytes
    same_head = rw (both, unit-bytes, take-append-drop 4 behind, ← read.kind) (record_back bytes b whole)

  -- Four bytes: two zeros come behind them.
  module _ (old : record_length bytes ≡ 4) where
    all-four : take 4 behind ≡ behind
    all-four = take_all 4 behind (omega (arith, length-payload bytes b whole))

    kind_and_payload : little_bytes 2 (record_kind bytes) ++ behind ≡ take 6 (drop 4 bytes)
    unfolding payload
    kind_and_payload = rw (kind-bytes_back bytes b whole, old, ← drop-drop 2 4 bytes) (sym (take-add 2 4 (drop 4 bytes)))

    pieces : head_bytes (head_reading bytes) (head_stages bytes) (head_unit bytes) ++ rest bytes ≡ little_bytes 4 6 ++ take 6 (drop 4 bytes) ++ little_bytes 2 0 ++ drop 10 bytes
    unfolding head_bytes record_bytes complement rest
    pieces =
        let size : length (behind ++ little_bytes 2 0) ≡ 6 = rw (length-append, length-little) (omega (arith, length-payload bytes b whole)) in
        rw (both, all-four, old_unit bytes old, size, ← kind_and_payload, read.kind, old) (simp append_assoc)

    longer_head : head_bytes (head_reading bytes) (head_stages bytes) (head_unit bytes) ++ rest bytes ≡ (6 ∷ 0 ∷ 0 ∷ 0 ∷ []) ++ take 6 (drop 4 bytes) ++ (0 ∷ 0 ∷ []) ++ drop 10 bytes
    unfolding little_bytes
    longer_head = pieces

  pub head_again : head_bytes (head_reading bytes) (head_stages bytes) (head_unit bytes) ++ rest bytes ≡ with_unit bytes
  unfolding with_unit old_head_length
  head_again =
      by_equal (record_length bytes) 4
      (λ old. rw (eq-eqb (record_length bytes) 4 old) (longer_head old))
      (λ other. rw (ne_eqb (record_length bytes) 4 other) (same_head other))

-- The file.
pub file_again : (bytes : List ℕ) (n : ℕ) → Below 256 bytes → SheetFile bytes n → sheet_file (head_reading bytes) n (head_unit bytes) (file_words bytes) ≡ with_unit bytes
unfolding sheet_file file_words
file_again bytes n b file =
    let passed = file-passed bytes n file in
    rw (← file.stages, records_again (head_stages bytes) 1 (sheet_rows (head_reading bytes) (head_stages bytes)) (rest bytes) (below-after bytes b) (rw (← file.stages) at passed.records))
    (head_again bytes b passed.whole passed.read)

-- The words that are read from bytes are 64-bit words.
words-below : (m : ℕ) (bytes : List ℕ) → Below 256 bytes → Below (256 ^ 8) (words m bytes)
unfolding words
words-below zero bytes b = below_nothing
words-below (suc m) bytes b = below_more (little 8 bytes) (words m (drop 8 bytes)) (below 8 bytes (below_all (lit< tt) bytes b)) (words-below m (drop 8 bytes) (below-drop 8 bytes b))

record_words-below : (n due m : ℕ) (bytes : List ℕ) → Below 256 bytes → Below (256 ^ 8) (record_words n due m bytes)
unfolding record_words
record_words-below n due zero bytes b = below_nothing
record_words-below n due (suc m) bytes b =
    below_append (words n (number_bytes n due bytes)) (record_words n (suc due) m (rest bytes))
    (words-below n (number_bytes n due bytes) (rw (numbers_due n due bytes) (below-drop (width_due n due) (payload bytes) (below-payload bytes b))))
    (record_words-below n (suc due) m (rest bytes) (below-after bytes b))

pub file-words-below : (bytes : List ℕ) → Below 256 bytes → Below (256 ^ 8) (file_words bytes)
unfolding file_words
file-words-below bytes b = record_words-below (head_stages bytes) 1 (sheet_rows (head_reading bytes) (head_stages bytes)) (rest bytes) (below-after bytes b)
