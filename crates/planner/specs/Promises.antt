-- What the two services promise of every call, refused calls too.
use Rattle.std.specs.Prelude.{Result, ◌≡◌, ℕ, List, ℤ, length, Float}
use Rattle.definitions.specs.Sheet.{place, takes_part, allowance}
use Rattle.definitions.specs.Table.{entry}
use Rattle.definitions.specs.Matrix.{matrix}
use Rattle.definitions.specs.Questions.{pass, table_questions, entry_questions}
use Rattle.definitions.specs.Accuracy.{Accurate}
use Rattle.definitions.specs.Services.{table_answer, table_area, entry_answer}
use Rattle.answers.specs.declared.Refusal.{Refusal}
use Rattle.answers.specs.Answers.{told}

-- The whole table: the answer r, each place of the answer area before and after, and for an accepted sheet demand 3 of the numbers in the area.
pub record TableDone (reading n : ℕ) (e : ℤ) (sheet before after : List Float) (r : Result ℕ Refusal) : Type 0 where
  pub answered : told r ≡ table_answer reading n e sheet (length before)
  pub area : after ≡ table_area reading n e sheet before
  pub accurate : table_questions reading n e sheet (length before) ≡ pass
      → Accurate n (takes_part reading n sheet) (allowance reading n) (matrix reading n sheet) (place n after)

-- One entry: the answer r, and for an accepted call demand 3 of the table whose entry it is.
pub record EntryDone (reading n : ℕ) (e : ℤ) (sheet : List Float) (i j : ℕ) (r : Result Float Refusal) : Type 0 where
  pub answered : told r ≡ entry_answer reading n e sheet i j
  pub accurate : entry_questions reading n e sheet i j ≡ pass
      → Accurate n (takes_part reading n sheet) (allowance reading n) (matrix reading n sheet) (entry reading n sheet)
