-- The unit is asked for and not looked at again.
use Prim.Native.Nat.{ℕ}
use mathlib.Core.List.{List}
use mathlib.Core.Path.{◌≡◌}
use lib.Dec.{T}
use lib.IntN.{ℤ}
use lib.ListN.{length}
use lib.Ieee.{Float}
use lib.Ieee.Bits.{is_true}
use Rattle.definitions.specs.Questions.{exponent_in_range, question12, size_questions, shape_questions, table_input, table_questions, entry_input, entry_questions}
use Rattle.definitions.specs.Services.{table_answer, table_area, entry_answer}
use Rattle.definitions.specs.Column.{column_shape, column_input, column_questions, column_answer, column_area}
use Rattle.definitions.specs.Prices.{price_shape, price_input, price_questions, price_answer, price_area}
use Rattle.steps.specs.AnyUnit.{SameAnswers, SameInEveryUnit}

module _ (reading n : ℕ) (e e' : ℤ) (in_range_lem : T (exponent_in_range e)) (in-range' : T (exponent_in_range e')) where
  same_size : (reading held : ℕ) → size_questions reading n e held ≡ size_questions reading n e' held
  unfolding size_questions question12
  same_size reading held = rw (is_true (exponent_in_range e) in_range_lem, is_true (exponent_in_range e') in-range')

  module _ (sheet : List Float) where
    same_table : (room : ℕ) → table_questions reading n e sheet room ≡ table_questions reading n e' sheet room
    unfolding table_questions table_input shape_questions
    same_table room = rw (same_size reading (length sheet))

    same_entry : (i j : ℕ) → entry_questions reading n e sheet i j ≡ entry_questions reading n e' sheet i j
    unfolding entry_questions entry_input shape_questions
    same_entry i j = rw (same_size reading (length sheet))

    same_column : (room stage : ℕ) → column_questions reading n e sheet room stage ≡ column_questions reading n e' sheet room stage
    unfolding column_questions column_input column_shape
    same_column room stage = rw (same_size 1 (length sheet))

    same_prices : (given : List Float) (room : ℕ) → price_questions reading n e sheet given room ≡ price_questions reading n e' sheet given room
    unfolding price_questions price_input price_shape shape_questions
    same_prices given room = rw (same_size reading (length sheet))

    same_answers : SameAnswers reading n e e' sheet
    unfolding table_answer table_area entry_answer column_answer column_area price_answer price_area
    same_answers =
        record {
          table = λ room. rw (same_table room);
          table_areas = λ area. rw (same_table (length area));
          entry = λ i j. rw (same_entry i j);
          column = λ room stage. rw (same_column room stage);
          column_areas = λ stage area. rw (same_column (length area) stage);
          prices = λ given room. rw (same_prices given room);
          price_areas = λ given area. rw (same_prices given (length area));
        }

pub same_in_every_unit : SameInEveryUnit
unfolding SameInEveryUnit
same_in_every_unit reading n e e' sheet a b = same_answers reading n e e' a b sheet
