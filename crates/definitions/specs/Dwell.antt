-- What the dwell program prints for the bytes of its standard input (document 01, "The sheet file"; document 02, U5 and U10).
use Rattle.std.specs.Prelude.{ℕ, zero, suc, ◌+◌, ◌/◌, ◌%◌, cond, List, [], ◌∷◌, ◌++◌, ltb, ℤ, pos, negsuc, take, Float}
use Prim.Native.Char.{code}
use Prim.Native.String.{String}
use Rattle.std.specs.Float.{binary64}
use Rattle.std.specs.Float.Ieee.{to_bits}
use Rattle.definitions.specs.Table.{entry}
use Rattle.definitions.specs.Services.{Answer, given, refused, table_answer}
use Rattle.definitions.specs.File.{Head, file_answer, file_numbers, longest_file}

-- The codes of a text's characters.
unfoldable pub text : String → List ℕ
text String.[] = []
text (String.◌∷◌ c s) = code c ∷ text s

-- A number below 10^20 in decimal digits.
unfoldable pub digits : ℕ → ℕ → List ℕ
digits zero a = []
digits (suc more) a = let front = digits more (a / 10) in cond (ltb a 10) [] front ++ ((48 + a % 10) ∷ [])

unfoldable pub decimal : ℕ → List ℕ
decimal a = digits 20 a

-- A signed number: a minus sign before the digits where it is negative.
unfoldable pub integer : ℤ → List ℕ
integer (pos m) = decimal m
integer (negsuc m) = text "-" ++ decimal (suc m)

-- m lowercase hexadecimal digits.
unfoldable pub hexadecimal : ℕ → ℕ → List ℕ
hexadecimal zero a = []
hexadecimal (suc m) a = hexadecimal m (a / 16) ++ ((cond (ltb (a % 16) 10) 48 87 + a % 16) ∷ [])

-- "Fields are separated by one space."
unfoldable pub refused_line : ℕ → ℕ → ℕ → List ℕ
refused_line number row column =
    text "refused " ++ decimal number ++ text " " ++ decimal row ++ text " " ++ decimal column ++ text "\n"

-- "The first line printed gains e after the allowance" (document 02, U5).
unfoldable pub seconds_line : ℕ → ℕ → ℤ → List ℕ
seconds_line n allowed e = text "seconds " ++ decimal n ++ text " " ++ decimal allowed ++ text " " ++ integer e ++ text "\n"

-- "One line an entry, row by row: row, column, the 64 bits as 16 lowercase hexadecimal digits."
unfoldable pub entry_line : ℕ → ℕ → Float → List ℕ
entry_line row column x =
    decimal row ++ text " " ++ decimal column ++ text " " ++ hexadecimal 16 (to_bits binary64 x) ++ text "\n"

unfoldable pub row_lines : (ℕ → ℕ → Float) → ℕ → ℕ → List ℕ
row_lines x i zero = []
row_lines x i (suc m) = row_lines x i m ++ entry_line (suc i) (suc m) (x i m)

unfoldable pub table_lines : (ℕ → ℕ → Float) → ℕ → ℕ → List ℕ
table_lines x n zero = []
table_lines x n (suc m) = table_lines x n m ++ row_lines x m n

-- On success the table of the sheet, on refusal its line.
unfoldable pub table_text : ℕ → ℕ → ℤ → List Float → Answer ℕ → List ℕ
table_text reading n e sheet (given allowed) = seconds_line n allowed e ++ table_lines (entry reading n sheet) n n
table_text reading n e sheet (refused number row column) = refused_line number row column

unfoldable pub file_text : List ℕ → Answer Head → List ℕ
file_text bytes (given head) =
    table_text head.reading head.n head.e (file_numbers bytes)
    (table_answer head.reading head.n head.e (file_numbers bytes) 1024)
file_text bytes (refused number row column) = refused_line number row column

-- "It takes at most one byte more than the longest file and judges only those bytes." Its own areas hold every sheet, of up to 1,056
-- numbers, and every table, of up to 1,024.
unfoldable pub dwell_text : List ℕ → List ℕ
dwell_text input = let bytes = take (suc longest_file) input in file_text bytes (file_answer bytes 1056)
