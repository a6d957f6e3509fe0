-- What the calls that make numbers of a sheet say of it once their questions passed: those up to 9, and 10 too.
use Prim.Native.Nat.{ℕ, ◌*◌, ◌-◌, ◌<◌}
use mathlib.Core.Bool.{Bool}
use mathlib.Core.List.{List}
use mathlib.Core.Path.{◌≡◌, refl}
use native.Mathlib.Omega.{arith}
use lib.Dec.{T}
use lib.IntN.{ℤ}
use lib.ListN.{length}
use lib.Ieee.{Float}
use Rattle.definitions.specs.Table.{every_step_in_range}
use Rattle.definitions.specs.Questions.{Asked, pass, ask, ◌then◌, known_reading, question1, size_questions, shape_questions, question4, question5, question10, number_questions, table_input, table_questions, entry_input, entry_questions}
use Rattle.definitions.specs.Column.{column_reading, column_shape, column_input, column_in_range, column_questions}
use Rattle.definitions.specs.Prices.{question18, question19, price_shape, price_input, prices_in_range, price_questions}
use Rattle.steps.proofs.QuestionLaws.{then_first, then_next, ask_yes, reading-passed, one-stage}

-- Up to 9: its reading is known, and its numbers are such that steps can be taken.
pub record KnownSheet (reading n : ℕ) (sheet : List Float) : Type 0 where
  pub first : question1 reading ≡ pass
  pub numbers : number_questions reading n sheet ≡ pass

-- The call's own questions stand between.
known : (reading n : ℕ) (e : ℤ) (sheet : List Float) (own : Asked)
    → (shape_questions reading n e (length sheet) then own then number_questions reading n sheet) ≡ pass → KnownSheet reading n sheet
known reading n e sheet own q =
    let rest = own then number_questions reading n sheet in
    record {
      first = reading-passed reading n e (length sheet) rest q;
      numbers = then_next own (number_questions reading n sheet) (then_next (shape_questions reading n e (length sheet)) rest q);
    }

pub table-known : (reading n : ℕ) (e : ℤ) (sheet : List Float) (room : ℕ) → table_input reading n e sheet room ≡ pass → KnownSheet reading n sheet
unfolding table_input
table-known reading n e sheet room = known reading n e sheet (question4 (n * n) room)

pub entry_known : (reading n : ℕ) (e : ℤ) (sheet : List Float) (i j : ℕ) → entry_input reading n e sheet i j ≡ pass → KnownSheet reading n sheet
unfolding entry_input
entry_known reading n e sheet i j = known reading n e sheet (question5 n i j)

pub price_known : (reading n : ℕ) (e : ℤ) (sheet : List Float) (given room : ℕ) → price_input reading n e sheet given room ≡ pass → KnownSheet reading n sheet
unfolding price_input price_shape
price_known reading n e sheet given room q =
    let shape = price_shape reading n e (length sheet) given room in
    record {
      first = reading-passed reading n e (length sheet) (question4 n room then question18 n given) (then_first shape (number_questions reading n sheet) q);
      numbers = then_next shape (number_questions reading n sheet) q;
    }

-- A column is of reading 1, and of a stage of the sheet.
module _ (reading n : ℕ) (e : ℤ) (sheet : List Float) (room stage : ℕ) (q : column_input reading n e sheet room stage ≡ pass) where
  pub column-known : KnownSheet 1 n sheet
  unfolding column_input question1 known_reading
  column-known = record { first = refl; numbers = then_next (column_shape reading n e (length sheet) room stage) (number_questions 1 n sheet) q }

  pub column-stage : stage - 1 < n
  unfolding column_input column_shape
  column-stage =
      let size = size_questions 1 n e (length sheet) in
      let own = question4 n room then question5 n stage stage in
      let shape = then_first (column_shape reading n e (length sheet) room stage) (number_questions 1 n sheet) q in
      let five = then_next (question4 n room) (question5 n stage stage) (then_next size own (then_next (column_reading reading) (size then own) shape)) in
      let stages = one-stage n stage five in
      omega arith

-- 10 too: the steps that the call takes are in range.
pub record AcceptedSheet (reading n : ℕ) (sheet : List Float) (range : Bool) : Type 0 where
  pub known : KnownSheet reading n sheet
  pub in_range_lem : T range

accepted : {reading n : ℕ} {sheet : List Float} {range : Bool} (input : Asked) → (input ≡ pass → KnownSheet reading n sheet)
    → (input then ask range 10 0 0) ≡ pass → AcceptedSheet reading n sheet range
accepted {range = range} input says q =
    record { known = says (then_first input (ask range 10 0 0) q); in_range_lem = ask_yes range 10 0 0 (then_next input (ask range 10 0 0) q) }

pub table_accepted : (reading n : ℕ) (e : ℤ) (sheet : List Float) (room : ℕ) → table_questions reading n e sheet room ≡ pass
    → AcceptedSheet reading n sheet (every_step_in_range reading n sheet)
unfolding table_questions question10
table_accepted reading n e sheet room = accepted (table_input reading n e sheet room) (table-known reading n e sheet room)

pub entry_accepted : (reading n : ℕ) (e : ℤ) (sheet : List Float) (i j : ℕ) → entry_questions reading n e sheet i j ≡ pass
    → AcceptedSheet reading n sheet (every_step_in_range reading n sheet)
unfolding entry_questions question10
entry_accepted reading n e sheet i j = accepted (entry_input reading n e sheet i j) (entry_known reading n e sheet i j)

pub column_accepted : (reading n : ℕ) (e : ℤ) (sheet : List Float) (room stage : ℕ) → column_questions reading n e sheet room stage ≡ pass
    → AcceptedSheet 1 n sheet (column_in_range n sheet (stage - 1))
unfolding column_questions
column_accepted reading n e sheet room stage = accepted (column_input reading n e sheet room stage) (column-known reading n e sheet room stage)

pub accepted_stage : (reading n : ℕ) (e : ℤ) (sheet : List Float) (room stage : ℕ) → column_questions reading n e sheet room stage ≡ pass → stage - 1 < n
unfolding column_questions
accepted_stage reading n e sheet room stage q =
    column-stage reading n e sheet room stage (then_first (column_input reading n e sheet room stage) (ask (column_in_range n sheet (stage - 1)) 10 0 0) q)

-- Prices ask 19 before it.
module _ (reading n : ℕ) (e : ℤ) (sheet prices : List Float) (room : ℕ) (q : price_questions reading n e sheet prices room ≡ pass) where
  abbrev input : Asked
  input = price_input reading n e sheet (length prices) room

  abbrev ten : Asked
  ten = ask (prices_in_range reading n sheet prices) 10 0 0

  pub price_accepted : AcceptedSheet reading n sheet (prices_in_range reading n sheet prices)
  unfolding price_questions
  price_accepted =
      record {
        known = price_known reading n e sheet (length prices) room (then_first input (question19 n prices then ten) q);
        in_range_lem = ask_yes (prices_in_range reading n sheet prices) 10 0 0 (then_next (question19 n prices) ten (then_next input (question19 n prices then ten) q));
      }

  pub prices_fine : question19 n prices ≡ pass
  unfolding price_questions
  prices_fine = then_first (question19 n prices) ten (then_next input (question19 n prices then ten) q)
