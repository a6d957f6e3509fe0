-- The lines as the pieces that are written, one after another.
use mathlib.Core.Path.{◌≡◌, refl}
use mathlib.Core.List.{[], ◌∷◌, ◌++◌, append_assoc}
use Prim.Native.Nat.{ℕ, suc, ◌+◌}
use native.Mathlib.Numerals.{add-one}
use lib.Ieee.{Float, binary64, to_bits}
use Rattle.buffer.specs.declared.Writer.{Writer}
use Rattle.buffer.specs.Pasted.{Written}
use Rattle.digits.proofs.Digits.{field}
use Rattle.buffer.proofs.Pasting.{written_nothing}
use Rattle.definitions.specs.Dwell.{text, hexadecimal, entry_line, row_lines, table_lines}

pub entry_pieces : (row column : ℕ) (x : Float) (word : ℕ) → word ≡ to_bits binary64 x → entry_line row column x ≡ field row 32 ++ field column 32 ++ hexadecimal 16 word ++ (10 ∷ [])
unfolding entry_line text
entry_pieces row column x word e = rw e (simp append_assoc)

-- No line, and one line more; no row, and one row more.
pub row-none : (x : ℕ → ℕ → Float) (i : ℕ) → row_lines x i 0 ≡ []
unfolding row_lines
row-none x i = refl

pub row_grows : (x : ℕ → ℕ → Float) (i m : ℕ) → row_lines x i (suc m) ≡ row_lines x i m ++ entry_line (i + 1) (m + 1) (x i m)
unfolding row_lines
row_grows x i m = simp add-one

pub table_none : (x : ℕ → ℕ → Float) (n : ℕ) → table_lines x n 0 ≡ []
unfolding table_lines
table_none x n = refl

pub table_grows : (x : ℕ → ℕ → Float) (n m : ℕ) → table_lines x n (suc m) ≡ table_lines x n m ++ row_lines x m n
unfolding table_lines
table_grows x n m = refl

-- No line and no row are written before the first.
pub row-begun : (x : ℕ → ℕ → Float) (i : ℕ) (out : Writer) → Written (row_lines x i 0) out out
row-begun x i out = rw (row-none x i) (written_nothing out)

pub table-begun : (x : ℕ → ℕ → Float) (n : ℕ) (out : Writer) → Written (table_lines x n 0) out out
table-begun x n out = rw (table_none x n) (written_nothing out)
