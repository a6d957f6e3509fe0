-- What the calls for the table, one column, one entry and prices promise with out places, refused calls too: what is returned, and every
-- place that the call may write.
use Rattle.std.specs.Prelude.{◌≡◌, List, ℕ, ◌-◌, ℤ, length, get_or, Float}
use Rattle.std.specs.Float.{nan}
use Rattle.definitions.specs.Sheet.{place, takes_part, allowance}
use Rattle.definitions.specs.Table.{entry}
use Rattle.definitions.specs.Matrix.{matrix}
use Rattle.definitions.specs.Questions.{pass, table_questions, entry_questions}
use Rattle.definitions.specs.Accuracy.{Accurate, AccurateColumn, AccuratePrices}
use Rattle.definitions.specs.Services.{table_answer, table_area, entry_answer}
use Rattle.definitions.specs.Column.{column_questions, column_answer, column_area}
use Rattle.definitions.specs.Prices.{unit_price, price_questions, price_allowance, price_answer, price_area}
use Rattle.out_places.specs.OutPlaces.{ValueHanded}

-- The whole table: the answer area and the place for the allowance before and after, the places for the row and the column
-- after, and the number returned.
pub record TableCall (reading n : ℕ) (e : ℤ) (sheet before after : List Float) (allowed allowed' row column returned : ℕ) : Type 0 where
  pub answer : ValueHanded (table_answer reading n e sheet (length before)) allowed allowed' row column returned
  pub area : after ≡ table_area reading n e sheet before
  pub accurate : table_questions reading n e sheet (length before) ≡ pass
      → Accurate n (takes_part reading n sheet) (allowance reading n) (matrix reading n sheet) (place n after)

-- One column: the same places as the table's, of an area that takes n numbers.
pub record ColumnCall (reading n : ℕ) (e : ℤ) (sheet : List Float) (stage : ℕ) (before after : List Float) (allowed allowed' row column returned : ℕ) : Type 0 where
  pub answer : ValueHanded (column_answer reading n e sheet (length before) stage) allowed allowed' row column returned
  pub area : after ≡ column_area reading n e sheet stage before
  pub accurate : column_questions reading n e sheet (length before) stage ≡ pass
      → AccurateColumn n (takes_part 1 n sheet) (allowance 1 n) (matrix 1 n sheet) (stage - 1) (λ i. get_or after i nan)

-- One entry: the place for the seconds before and after, and the same.
pub record EntryCall (reading n : ℕ) (e : ℤ) (sheet : List Float) (i j : ℕ) (seconds seconds' : Float) (row column returned : ℕ) : Type 0 where
  pub answer : ValueHanded (entry_answer reading n e sheet i j) seconds seconds' row column returned
  pub accurate : entry_questions reading n e sheet i j ≡ pass
      → Accurate n (takes_part reading n sheet) (allowance reading n) (matrix reading n sheet) (entry reading n sheet)

-- Prices: the prices area afterwards, and the same places as a column's.
pub record PricesCall (reading n : ℕ) (e : ℤ) (sheet prices left before after : List Float) (allowed allowed' row column returned : ℕ) : Type 0 where
  pub kept : left ≡ prices
  pub answer : ValueHanded (price_answer reading n e sheet prices (length before)) allowed allowed' row column returned
  pub area : after ≡ price_area reading n e sheet prices before
  pub accurate : price_questions reading n e sheet prices (length before) ≡ pass
      → AccuratePrices n (takes_part reading n sheet) (price_allowance reading n) (matrix reading n sheet) (unit_price prices) (λ i. get_or after i nan)
