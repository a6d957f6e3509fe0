-- The questions in the order of document 01: those of a call's shape, then those of its numbers.
use mathlib.Core.Path.{◌≡◌}
use mathlib.Core.List.{List}
use Prim.Native.Nat.{ℕ, ◌*◌}
use lib.IntN.{ℤ}
use lib.ListN.{length}
use lib.Ieee.{Float}
use Rattle.definitions.specs.Sheet.{sheet_numbers}
use Rattle.definitions.specs.Questions.{◌then◌, shape_questions, question4, question5, place_questions, number_questions, table_input, entry_input}
use Rattle.definitions.specs.Moving.{move_input}
use Rattle.steps.proofs.QuestionLaws.{then_assoc}

module _ (reading n : ℕ) (e : ℤ) (sheet : List Float) where
  pub table_in_order : (room : ℕ) → ((shape_questions reading n e (length sheet) then question4 (n * n) room) then number_questions reading n sheet) ≡ table_input reading n e sheet room
  unfolding table_input
  table_in_order room = then_assoc (shape_questions reading n e (length sheet)) (question4 (n * n) room) (number_questions reading n sheet)

  pub move_in_order : (room : ℕ) → ((shape_questions reading n e (length sheet) then question4 (sheet_numbers reading n) room) then place_questions reading n sheet) ≡ move_input reading n e sheet room
  unfolding move_input
  move_in_order room = then_assoc (shape_questions reading n e (length sheet)) (question4 (sheet_numbers reading n) room) (place_questions reading n sheet)

  pub entry_in_order : (i j : ℕ) → ((shape_questions reading n e (length sheet) then question5 n i j) then number_questions reading n sheet) ≡ entry_input reading n e sheet i j
  unfolding entry_input
  entry_in_order i j = then_assoc (shape_questions reading n e (length sheet)) (question5 n i j) (number_questions reading n sheet)
