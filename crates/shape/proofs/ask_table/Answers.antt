-- `shape::ask_table` meets its contract. Assumes nothing.
use Rattle.std.proofs.Common.{rules}
use native.Mathlib.Omega.{arith}
use mir.Syntax.{w64}
use mir.ValLaws.{to_z-of_z}
use Rattle.answers.proofs.Outcome.{Passes, passed, goes_on}
use Rattle.definitions.specs.Questions.{shape_questions}
use Rattle.counts.proofs.Counts.{square_small}
use Rattle.shape.proofs.ShapeQuestions.{sized, bad_room, good_room}
use Rattle.shape.proofs.ask_table.Goals as goal
use Rattle.shape.proofs.ask_table.Goals.{In_ok-ask_shape}

-- The sheet holds e by its bits, which mean e.
asked : (c : goal.In_ok-ask_shape) → Passes (shape_questions c.args.sheet.reading c.args.sheet.n c.args.sheet.e c.args.sheet.held)
asked c = rw (to_z-of_z w64 c.args.sheet.e (search rules)) at c.in_ok-ask_shape.ensures

pub overflow_mul-sheet : goal.overflow_mul-sheet
overflow_mul-sheet c = omega (arith, square_small (sized _ _ _ _ (passed (asked (goal.at.overflow_mul-sheet c).In_ok-ask_shape))).few)

pub returns-then-room-sheet : goal.returns-then-room-sheet
returns-then-room-sheet c = goes_on (asked (goal.at.returns-then-room-sheet c).In_ok-ask_shape) (bad_room _ _ c.if-room-sheet.true)

pub returns : goal.returns
returns c = goes_on (asked (goal.at.returns c).In_ok-ask_shape) (good_room _ _ c.if-room-sheet.false)
