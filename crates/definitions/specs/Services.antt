-- What each service answers and leaves in the lent area (document 01, after the questions).
use Rattle.std.specs.Prelude.{ℕ, ◌-◌, List, ◌++◌, ℤ, length, drop, Float}
use Rattle.definitions.specs.Sheet.{allowance}
use Rattle.definitions.specs.Tables.{rows}
use Rattle.definitions.specs.Table.{entry}
use Rattle.definitions.specs.Questions.{Asked, pass, refuse, table_questions, entry_questions}

-- An answer is what was asked for, or a refusal with number, row and column.
pub data Answer (A : Type 0) : Type 0 where
  given : A → Answer A
  refused : ℕ → ℕ → ℕ → Answer A

abbrev pub answer : {A : Type 0} → Asked → A → Answer A
answer pass value = given value
answer (refuse number row column) value = refused number row column

-- A lent area after the call: filled from its start, with later places as they were; a refused call changes no place.
abbrev pub filled : {A : Type 0} → Asked → List A → List A → List A
filled pass new area = new ++ drop (length new) area
filled (refuse number row column) new area = area

-- Whole table: the allowance, and the table in the first n × n places of the answer area. "Answers are in that unit" (document 02,
-- U5): the numbers of a sheet whose rates are per 2^e seconds count units of 2^e seconds, so their steps do not look at e.
unfoldable pub table_answer : ℕ → ℕ → ℤ → List Float → ℕ → Answer ℕ
table_answer reading n e sheet room = answer (table_questions reading n e sheet room) (allowance reading n)

unfoldable pub table : ℕ → ℕ → List Float → List Float
table reading n sheet = rows (entry reading n sheet) n n

unfoldable pub table_area : ℕ → ℕ → ℤ → List Float → List Float → List Float
table_area reading n e sheet area =
    let new = table reading n sheet in
    filled (table_questions reading n e sheet (length area)) new area

-- One entry, of stages numbered from 1: the number of seconds, or of units of 2^e seconds.
unfoldable pub entry_answer : ℕ → ℕ → ℤ → List Float → ℕ → ℕ → Answer Float
entry_answer reading n e sheet i j =
    let seconds = entry reading n sheet (i - 1) (j - 1) in
    answer (entry_questions reading n e sheet i j) seconds
