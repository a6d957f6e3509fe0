-- The column of a stage beside the whole table (document 02, U2).
use Rattle.std.specs.Prelude.{ℕ, ◌-◌, ◌≤◌, ◌<◌, List, ◌≡◌, ℤ, length, get_or, Float}
use Rattle.std.specs.Float.{nan}
use Rattle.definitions.specs.Sheet.{place}
use Rattle.definitions.specs.Questions.{pass, table_questions}
use Rattle.definitions.specs.Services.{table_area}
use Rattle.definitions.specs.Column.{column_questions, column_area}

-- The column is accepted, and each number that it leaves in its area is the table's in the table's area.
pub record SameColumn (n : ℕ) (e : ℤ) (sheet table_before column_before : List Float) (stage : ℕ) : Type 0 where
  pub accepted : column_questions 1 n e sheet (length column_before) stage ≡ pass
  pub same :
      (i : ℕ) → i < n
      → get_or (column_area 1 n e sheet stage column_before) i nan ≡ place n (table_area 1 n e sheet table_before) i (stage - 1)

-- Theorem: "Where the whole table is accepted, its column has the same bits", for every stage, with room for n numbers.
unfoldable pub ColumnOfTable : Type 0
ColumnOfTable =
    (n : ℕ) (e : ℤ) (sheet table_before column_before : List Float) (stage : ℕ)
    → table_questions 1 n e sheet (length table_before) ≡ pass
    → 1 ≤ stage → stage ≤ n → n ≤ length column_before
    → SameColumn n e sheet table_before column_before stage
