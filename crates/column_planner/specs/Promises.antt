-- What the column's service promises of every call, refused calls too.
use Rattle.std.specs.Prelude.{Result, ◌≡◌, ℕ, ◌-◌, ◌<◌, Bool, List, T, ℤ, length, get_or, Float}
use Rattle.std.specs.Float.{nan}
use Rattle.definitions.specs.Sheet.{takes_part, allowance}
use Rattle.definitions.specs.Table.{entry}
use Rattle.definitions.specs.Matrix.{matrix}
use Rattle.definitions.specs.Questions.{pass}
use Rattle.definitions.specs.Accuracy.{AccurateColumn}
use Rattle.definitions.specs.Column.{column_in_range, column_questions, column_answer, column_area}
use Rattle.tables.specs.Vectors.{IsVector, vector}
use Rattle.answers.specs.declared.Refusal.{Refusal}
use Rattle.answers.specs.Answers.{told}

-- The answer r, each place of the answer area before and after, and for an accepted call demand 3 of the numbers in the area,
-- whether or not the whole table is accepted.
pub record ColumnDone (reading n : ℕ) (e : ℤ) (sheet : List Float) (stage : ℕ) (before after : List Float) (r : Result ℕ Refusal) : Type 0 where
  pub answered : told r ≡ column_answer reading n e sheet (length before) stage
  pub area : after ≡ column_area reading n e sheet stage before
  pub accurate : column_questions reading n e sheet (length before) stage ≡ pass
      → AccurateColumn n (takes_part 1 n sheet) (allowance 1 n) (matrix 1 n sheet) (stage - 1) (λ i. get_or after i nan)

-- The steps: whether they are in range; where they are, the n numbers of column j.
pub record ColumnStepped (n : ℕ) (sheet : List Float) (j : ℕ) (ok : Bool) (xs : List Float) : Type 0 where
  pub range : ok ≡ column_in_range n sheet j
  pub entries : T ok → (i : ℕ) → i < n → vector xs i ≡ entry 1 n sheet i j
  pub long : IsVector xs
