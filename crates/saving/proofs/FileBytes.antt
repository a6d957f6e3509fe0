-- The file of a sheet as the pieces that are written, one after another, and its length.
use Prim.Native.Nat.{ℕ, zero, suc, ◌+◌, ◌-◌, ◌*◌, ◌≤◌, ◌<◌}
use mathlib.Core.Bool.{Bool, true, false, cond}
use mathlib.Core.List.{List, [], ◌∷◌, ◌++◌, map, append_assoc, append-nil}
use mathlib.Core.Path.{◌≡◌, refl, sym, ap, ◌∙◌}
use native.Mathlib.Nat.{suc-mul, zero-mul, add-zero, mul-le-mul_right}
use native.Mathlib.Omega.{arith}
use lib.Dec.{eqb}
use lib.IntN.{ℤ}
use lib.ListN.{length, take, drop, get_or, length-append, length-drop}
use lib.Seq.{take-suc, drop-drop, length-take-le}
use Rattle.std.proofs.lemmas.List.{take-map, drop-map}
use Rattle.definitions.specs.Sheet.{sheet_rows, sheet_numbers}
use Rattle.definitions.specs.File.{head_length, file_length}
use Rattle.definitions.specs.Saving.{little_bytes, record_bytes, complement, head_bytes, word_bytes, bytes_due, records_bytes, sheet_file}
use Rattle.counts.proofs.Counts.{rows_of-numbers, numbers_few}
use Rattle.buffer.specs.declared.Writer.{Writer}
use Rattle.buffer.specs.Pasted.{Room, Written}
use Rattle.buffer.proofs.Pasting.{written_nothing, room_first, room_next, written_next}
use Rattle.records.proofs.LittleBytes.{length-little}
use Rattle.records.proofs.RecordDue.{width_due, row-width, weights-width, bytes_due_lem}

-- Eight bytes to a word, and the words before one more.
pub length-words : (words : List ℕ) → length (word_bytes words) ≡ 8 * length words
unfolding word_bytes
length-words [] = refl
length-words (word ∷ words) = rw (length-append, length-little) (omega (arith, length-words words))

-- How long the pieces of a file are.
pub ruleset lengths = (length-little, length-words, length-append)

words_append : (a b : List ℕ) → word_bytes (a ++ b) ≡ word_bytes a ++ word_bytes b
unfolding word_bytes
words_append [] b = refl
words_append (word ∷ a) b = rw (words_append a b) (sym (append_assoc (little_bytes 8 word) (word_bytes a) (word_bytes b)))

one_word : (word : ℕ) → word_bytes (word ∷ []) ≡ little_bytes 8 word
unfolding word_bytes
one_word word = append-nil (little_bytes 8 word)

pub words_grow : (words : List ℕ) (other k : ℕ) → k < length words → word_bytes (take (suc k) words) ≡ word_bytes (take k words) ++ little_bytes 8 (get_or words k other)
words_grow words other k h =
    ap word_bytes (take-suc words k other h) ∙ words_append (take k words) (get_or words k other ∷ []) ∙ ap (λ l. word_bytes (take k words) ++ l) (one_word (get_or words k other))

-- A head and another record, piece by piece.
pub head_pieces : (reading n : ℕ) (e : ℤ) → head_bytes reading n e ≡ little_bytes 4 6 ++ little_bytes 2 1 ++ little_bytes 2 reading ++ little_bytes 2 n ++ little_bytes 2 (complement e)
unfolding head_bytes record_bytes
head_pieces reading n e = simp (length-append, length-little, append_assoc)

pub record_pieces : (kind number width : ℕ) (words : List ℕ)
    → record_bytes kind (little_bytes width number ++ word_bytes words) ≡ little_bytes 4 (width + 8 * length words) ++ little_bytes 2 kind ++ little_bytes width number ++ word_bytes words
unfolding record_bytes
record_pieces kind number width words = rw (length-append, length-little, length-words) (simp append_assoc)

pub length_head : (reading n : ℕ) (e : ℤ) → length (head_bytes reading n e) ≡ 6 + head_length
unfolding head_length
length_head reading n e = rw head_pieces (simp (length-append, length-little))

length_due : (n due : ℕ) (words : List ℕ) → length (bytes_due n due words) ≡ 6 + width_due n due + 8 * length words
length_due n due words = rw (bytes_due_lem, record_pieces) (simp (length-append, length-little, length-words) (omega arith))

-- Row i of n words each.
abbrev pub row_of : ℕ → ℕ → List ℕ → List ℕ
row_of n i words = take n (drop (i * n) words)

-- As the code takes it of the sheet's numbers.
pub row_taken : {A : Type 0} (word_of : A → ℕ) (n i : ℕ) (sheet : List A) → map word_of (take (i * n + n - i * n) (drop (i * n) sheet)) ≡ row_of n i (map word_of sheet)
row_taken word_of n i sheet = let size : i * n + n - i * n ≡ n = omega arith in rw (size, drop-map, take-map)

-- One record more at the end; they are due from 1 on.
records_grow : (n due i : ℕ) (words : List ℕ) → records_bytes n due (suc i) words ≡ records_bytes n due i words ++ bytes_due n (due + i) (row_of n i words)
unfolding records_bytes
records_grow n due zero words = rw (add-zero, zero-mul) (append-nil (bytes_due n due (take n words)))
records_grow n due (suc i) words =
    let number : suc due + i ≡ due + suc i = omega arith in
    let place : n + i * n ≡ suc i * n = omega (arith, suc-mul i n) in
    rw (records_grow n (suc due) i (drop n words), drop-drop, number, place)
    (sym (append_assoc (bytes_due n due (take n words)) (records_bytes n (suc due) i (drop n words)) (bytes_due n (due + suc i) (row_of n (suc i) words))))

pub file_grows : (n : ℕ) (words : List ℕ) (i : ℕ) → records_bytes n 1 (suc i) words ≡ records_bytes n 1 i words ++ bytes_due n (i + 1) (row_of n i words)
file_grows n words i =
    let number : 1 + i ≡ i + 1 = omega arith in
    rw (records_grow n 1 i words, number)

-- No word is written before the first, and no record.
pub words-begun : (out : Writer) → Written (word_bytes []) out out
unfolding word_bytes
words-begun out = written_nothing out

pub records_begun : (n : ℕ) (words : List ℕ) (out : Writer) → Written (records_bytes n 1 0 words) out out
unfolding records_bytes
records_begun n words out = written_nothing out

-- A sheet is short, and its words are whole rows of n.
pub short : (reading n : ℕ) {held : ℕ} → held ≡ sheet_numbers reading n → n ≤ 32 → held ≤ 1056
short reading n e few = rw e (numbers_few reading n few)

pub row_inside : (reading n : ℕ) {i held : ℕ} → held ≡ sheet_numbers reading n → i < sheet_rows reading n → i * n + n ≤ held
row_inside reading n {i} e due = rw (e, rows_of-numbers reading n) (omega (arith, suc-mul i n, mul-le-mul_right n due))

length-row : (n i : ℕ) (words : List ℕ) → i * n + n ≤ length words → length (row_of n i words) ≡ n
length-row n i words h = length-take-le n (drop (i * n) words) (rw length-drop (omega arith))

-- A row has eight bytes beside its words, the weights have six.
length-rows : (n m : ℕ) (words : List ℕ) → m ≤ n → m * n ≤ length words → length (records_bytes n 1 m words) ≡ m * (6 + 2 + 8 * n)
unfolding records_bytes
length-rows n zero words few h = sym (zero-mul (6 + 2 + 8 * n))
length-rows n (suc m) words few h =
    let more : m * n + n ≤ length words = omega (arith, suc-mul m n) in
    let row : m + 1 ≤ n = omega arith in
    rw (file_grows n words m, length-append, length_due, length-row n m words more, row-width n (m + 1) row, length-rows n m words (omega arith) (omega arith))
    (omega (arith, suc-mul m (6 + 2 + 8 * n)))

abbrev pub records_of : ℕ → ℕ → List ℕ → List ℕ
records_of reading n words = records_bytes n 1 (sheet_rows reading n) words

length_records : (reading n : ℕ) (words : List ℕ) → length words ≡ sheet_numbers reading n → length (records_of reading n words) ≡ n * (6 + 2 + 8 * n) + cond (eqb reading 3) (6 + 8 * n) 0
unfolding sheet_rows sheet_numbers
length_records reading n words held = go (eqb reading 3) held
  where
    go : (weights : Bool) → length words ≡ cond weights (n * n + n) (n * n) → length (records_bytes n 1 (cond weights (suc n) n) words) ≡ n * (6 + 2 + 8 * n) + cond weights (6 + 8 * n) 0
    go true all =
        let last : n < n + 1 = omega arith in
        rw (file_grows n words n, length-append, length_due, length-row n n words (omega arith), weights-width n (n + 1) last, length-rows n n words (omega arith) (omega arith))
        (omega arith)
    go false all = rw (length-rows n n words (omega arith) (omega arith)) (omega arith)

pub length-file : (reading n : ℕ) (e : ℤ) (words : List ℕ) → length words ≡ sheet_numbers reading n → length (sheet_file reading n e words) ≡ file_length reading n
unfolding sheet_file file_length
length-file reading n e words held = rw (length-append, length_head, length_records reading n words held) (omega arith)

-- Room for the file is room for its head, and then for its records, and together they are the file.
module _ (reading n : ℕ) (e : ℤ) (words : List ℕ) (held : length words ≡ sheet_numbers reading n) {start : Writer} where
  file_room : start.at ≡ 0 → file_length reading n ≤ length start.out.now → Room (head_bytes reading n e ++ records_of reading n words) start
  unfolding sheet_file
  file_room empty fits = record { within = omega (arith, empty, length-file reading n e words held) }

  pub head_room : start.at ≡ 0 → file_length reading n ≤ length start.out.now → Room (head_bytes reading n e) start
  head_room empty fits = room_first (head_bytes reading n e) (records_of reading n words) (file_room empty fits)

  module _ {file : Writer} (head : Written (head_bytes reading n e) start file) (empty : start.at ≡ 0) (fits : file_length reading n ≤ length start.out.now) where
    pub records_room : Room (records_of reading n words) file
    records_room = room_next (head_bytes reading n e) (records_of reading n words) (file_room empty fits) head

    pub file_written : {last : Writer} → Written (records_of reading n words) file last → Written (sheet_file reading n e words) start last
    unfolding sheet_file
    file_written written = written_next (head_bytes reading n e) (records_of reading n words) (file_room empty fits) head written
