-- The lines of a table look only at its n × n entries, so the text for an answer area is the definitions' text.
use mathlib.Core.Path.{◌≡◌, refl, sym, ap, ap₂, ◌∙◌}
use Prim.Native.Nat.{ℕ, zero, suc, ◌+◌, ◌<◌}
use native.Mathlib.Omega.{arith}
use mathlib.Core.List.{List, ◌++◌}
use lib.IntN.{ℤ}
use lib.ListN.{length, drop}
use lib.Ieee.{Float}
use Rattle.definitions.specs.Tables.{rows}
use Rattle.definitions.specs.Sheet.{place}
use Rattle.definitions.specs.Table.{entry}
use Rattle.definitions.specs.Questions.{Asked, pass, refuse, table_questions}
use Rattle.definitions.specs.Services.{Answer, given, refused, answer, filled, table_answer, table, table_area}
use Rattle.definitions.specs.Dwell.{seconds_line, entry_line, row_lines, table_lines, table_text}
use Rattle.steps.proofs.TableLaws.{place_of-rows}
use Rattle.text.specs.AnswerText.{answer_text}
use Rattle.lines.proofs.Lines.{row-none, row_grows, table_none, table_grows}

-- Two tables that agree where the lines look have the same lines.
module _ (x y : ℕ → ℕ → Float) where
  pub same_row : (i m : ℕ) → ((j : ℕ) → j < m → x i j ≡ y i j) → row_lines x i m ≡ row_lines y i m
  same_row i zero same = row-none x i ∙ sym (row-none y i)
  same_row i (suc m) same =
      row_grows x i m
      ∙ ap₂ (λ (front : List ℕ) (last : Float). front ++ entry_line (i + 1) (m + 1) last) (same_row i m (λ j h. same j (omega arith))) (same m (omega arith))
      ∙ sym (row_grows y i m)

  pub same_table : (n m : ℕ) → ((i j : ℕ) → i < m → j < n → x i j ≡ y i j) → table_lines x n m ≡ table_lines y n m
  same_table n zero same = table_none x n ∙ sym (table_none y n)
  same_table n (suc m) same =
      table_grows x n m
      ∙ ap₂ (λ (front last : List ℕ). front ++ last) (same_table n m (λ i j h k. same i j (omega arith) k)) (same_row m n (λ j h. same m j (omega arith) h))
      ∙ sym (table_grows y n m)

-- An area that starts with a table: its text is the table's, whatever stands after the table.
pub lines_of_rows : (f : ℕ → ℕ → Float) (n : ℕ) (rest : List Float) → table_lines (place n (rows f n n ++ rest)) n n ≡ table_lines f n n
lines_of_rows f n rest = same_table (place n (rows f n n ++ rest)) f n n (place_of-rows f n rest)

-- A given answer comes with a filled area.
filled_given_lem : {A B : Type 0} (asked : Asked) (value allowed : A) (new area : List B) → answer asked value ≡ given allowed → filled asked new area ≡ new ++ drop (length new) area
filled_given_lem pass value allowed new area e = refl
filled_given_lem (refuse number row column) value allowed new area e = cc

-- The text for the answer that the whole table's service gives, and for the area that it leaves.
given_text : (reading n : ℕ) (e : ℤ) (sheet area : List Float) (allowed : ℕ) → table_answer reading n e sheet (length area) ≡ given allowed
    → seconds_line n allowed e ++ table_lines (place n (table_area reading n e sheet area)) n n ≡ table_text reading n e sheet (given allowed)
unfolding table_text table_answer table_area table
given_text reading n e sheet area allowed is =
    ap (λ (lines : List ℕ). seconds_line n allowed e ++ lines)
    (rw (filled_given_lem (table_questions reading n e sheet (length area)) _ allowed (rows (entry reading n sheet) n n) area is)
    (lines_of_rows (entry reading n sheet) n _))

pub text_of_answer : (reading n : ℕ) (e : ℤ) (sheet area : List Float) (a : Answer ℕ) → table_answer reading n e sheet (length area) ≡ a
    → answer_text n e (table_area reading n e sheet area) a ≡ table_text reading n e sheet a
unfolding answer_text table_text
text_of_answer reading n e sheet area (given allowed) is = given_text reading n e sheet area allowed is
text_of_answer reading n e sheet area (refused number row column) is = refl
