-- How long the lines are: an entry's line has at most 23 bytes for row and column up to 32, and the whole text at most 32,768.
use mathlib.Core.Path.{◌≡◌, refl}
use Prim.Native.Nat.{ℕ, zero, suc, ◌+◌, ◌*◌, ◌^◌, ◌≤◌, ◌<◌}
use native.Mathlib.Omega.{arith}
use mathlib.Core.List.{◌++◌, append_assoc}
use lib.IntN.{ℤ}
use lib.ListN.{length, length-append}
use lib.Signed.{mag}
use lib.Ieee.{Float, binary64, to_bits}
use Rattle.definitions.specs.Dwell.{text, seconds_line, entry_line, row_lines, table_lines}
use Rattle.buffer.specs.declared.Writer.{Writer}
use Rattle.buffer.specs.Pasted.{Room, Written}
use Rattle.buffer.proofs.Pasting.{room_first, room_next, written_next}
use Rattle.digits.proofs.Digits.{field, decimal-at-most, length-hexadecimal}
use Rattle.digits.proofs.Integers.{signed_field, integer-at-most}
use Rattle.lines.proofs.Lines.{entry_pieces, row-none, row_grows, table_none, table_grows}

pub seconds_pieces : (n allowed : ℕ) (e : ℤ) → seconds_line n allowed e ≡ text "seconds " ++ field n 32 ++ field allowed 32 ++ signed_field e 10
unfolding seconds_line text
seconds_pieces n allowed e = simp append_assoc

length_seconds : (n allowed : ℕ) (e : ℤ) → n < 10 ^ 20 → allowed < 10 ^ 20 → mag e < 2 ^ 63 → length (seconds_line n allowed e) ≤ 72
unfolding text
length_seconds n allowed e a b c =
    rw (seconds_pieces n allowed e) (simp length-append (omega (arith, decimal-at-most 19 n a, decimal-at-most 19 allowed b, integer-at-most e c)))

pub length-entry : (row column : ℕ) (x : Float) → row ≤ 32 → column ≤ 32 → length (entry_line row column x) ≤ 23
length-entry row column x a b =
    rw (entry_pieces row column x (to_bits binary64 x) refl) (simp length-append
    (omega (arith, decimal-at-most 1 row (omega arith), decimal-at-most 1 column (omega arith), length-hexadecimal 16 (to_bits binary64 x))))

module _ (x : ℕ → ℕ → Float) where
  pub length-row : (i m : ℕ) → i < 32 → m ≤ 32 → length (row_lines x i m) ≤ 23 * m
  length-row i zero a b = rw row-none (omega arith)
  length-row i (suc m) a b =
      rw (row_grows, length-append) (omega (arith, length-row i m a (omega arith), length-entry (i + 1) (m + 1) (x i m) (omega arith) (omega arith)))

  pub length-table : (n m : ℕ) → n ≤ 32 → m ≤ 32 → length (table_lines x n m) ≤ 736 * m
  length-table n zero a b = rw table_none (omega arith)
  length-table n (suc m) a b =
      rw (table_grows, length-append) (omega (arith, length-table n m a (omega arith), length-row m n (omega arith) a))

-- A buffer of 32,768 bytes has room for the first line, and then for the table, and together they are the text.
module _ (n allowed : ℕ) (e : ℤ) (x : ℕ → ℕ → Float) (a : n ≤ 32) (b : allowed < 10 ^ 20) (c : mag e < 2 ^ 63) where
  length_whole : length (seconds_line n allowed e ++ table_lines x n n) ≤ 32768
  length_whole = rw length-append (omega (arith, length_seconds n allowed e (omega arith) b c, length-table x n n a a))

  module _ {start : Writer} where
    whole_room : start.at ≡ 0 → 32768 ≤ length start.out.now → Room (seconds_line n allowed e ++ table_lines x n n) start
    whole_room empty h = record { within = omega (arith, empty, length_whole) }

    pub line_room : start.at ≡ 0 → 32768 ≤ length start.out.now → Room (seconds_line n allowed e) start
    line_room empty h = room_first (seconds_line n allowed e) (table_lines x n n) (whole_room empty h)

    module _ {next : Writer} (line : Written (seconds_line n allowed e) start next) (empty : start.at ≡ 0) (h : 32768 ≤ length start.out.now) where
      pub table_room : Room (table_lines x n n) next
      table_room = room_next (seconds_line n allowed e) (table_lines x n n) (whole_room empty h) line

      pub text_written : {last : Writer} → Written (table_lines x n n) next last → Written (seconds_line n allowed e ++ table_lines x n n) start last
      text_written table = written_next (seconds_line n allowed e) (table_lines x n n) (whole_room empty h) line table
