-- "Answers are in that unit" (document 02, U5): the table, one entry, one column and prices do not depend on e but for question 12, so
-- demand 3 is unchanged in that unit.
use Rattle.std.specs.Prelude.{ℕ, List, ◌≡◌, T, ℤ, Float}
use Rattle.definitions.specs.Questions.{exponent_in_range}
use Rattle.definitions.specs.Services.{table_answer, table_area, entry_answer}
use Rattle.definitions.specs.Column.{column_answer, column_area}
use Rattle.definitions.specs.Prices.{price_answer, price_area}

-- What these services answer and leave in their areas for e and for e'.
pub record SameAnswers (reading n : ℕ) (e e' : ℤ) (sheet : List Float) : Type 0 where
  pub table : (room : ℕ) → table_answer reading n e sheet room ≡ table_answer reading n e' sheet room
  pub table_areas : (area : List Float) → table_area reading n e sheet area ≡ table_area reading n e' sheet area
  pub entry : (i j : ℕ) → entry_answer reading n e sheet i j ≡ entry_answer reading n e' sheet i j
  pub column : (room stage : ℕ) → column_answer reading n e sheet room stage ≡ column_answer reading n e' sheet room stage
  pub column_areas : (stage : ℕ) (area : List Float) → column_area reading n e sheet stage area ≡ column_area reading n e' sheet stage area
  pub prices : (given : List Float) (room : ℕ) → price_answer reading n e sheet given room ≡ price_answer reading n e' sheet given room
  pub price_areas : (given area : List Float) → price_area reading n e sheet given area ≡ price_area reading n e' sheet given area

-- Theorem: for every sheet, refused ones too, and any two units in range.
unfoldable pub SameInEveryUnit : Type 0
SameInEveryUnit =
    (reading n : ℕ) (e e' : ℤ) (sheet : List Float) → T (exponent_in_range e) → T (exponent_in_range e') → SameAnswers reading n e e' sheet
