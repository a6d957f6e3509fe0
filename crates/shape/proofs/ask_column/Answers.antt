-- `shape::ask_column` meets its contract. Assumes nothing.
use Rattle.std.proofs.Common.{rules}
use mir.Syntax.{w64}
use mir.ValLaws.{to_z-of_z}
use Rattle.answers.proofs.Outcome.{Passes, ends, goes_on}
use Rattle.definitions.specs.Questions.{shape_questions}
use Rattle.shape.proofs.ShapeQuestions.{column_bad_reading, column-next, bad_room, good_room, bad_stage, good-stage}
use mathlib.Core.Path.{ap}
use mathlib.Core.Bool.{not}
use Rattle.shape.proofs.ask_column.Goals as goal
use Rattle.shape.proofs.ask_column.Goals.{In_ok-ask_shape}

-- The sheet holds e by its bits, which mean e.
asked : (c : goal.In_ok-ask_shape) → Passes (shape_questions 1 c.args.sheet.n c.args.sheet.e c.args.sheet.held)
asked c = rw (to_z-of_z w64 c.args.sheet.e (search rules)) at c.in_ok-ask_shape.ensures

pub returns-then-sheet-ne1 : goal.returns-then-sheet-ne1
returns-then-sheet-ne1 c = column_bad_reading _ _ _ _ _ c.if-sheet-ne1.true

pub returns-then-room-sheet : goal.returns-then-room-sheet
returns-then-room-sheet c = column-next _ _ _ _ _ c.if-sheet-ne1.false (goes_on (asked (goal.at.returns-then-room-sheet c).In_ok-ask_shape) (ends _ (bad_room _ _ c.if-room-sheet.true)))

pub returns-then-not-stage-sheet : goal.returns-then-not-stage-sheet
returns-then-not-stage-sheet c = column-next _ _ _ _ _ c.if-sheet-ne1.false (goes_on (asked (goal.at.returns-then-not-stage-sheet c).In_ok-ask_shape) (goes_on (good_room _ _ c.if-room-sheet.false) (bad_stage _ _ (ap not c.if-not-stage-sheet.true))))

pub returns : goal.returns
returns c = column-next _ _ _ _ _ c.if-sheet-ne1.false (goes_on (asked (goal.at.returns c).In_ok-ask_shape) (goes_on (good_room _ _ c.if-room-sheet.false) (good-stage _ _ (ap not c.if-not-stage-sheet.false))))

pub returns-in_err-ask_shape : goal.returns-in_err-ask_shape
returns-in_err-ask_shape c = column-next _ _ _ _ _ c.if-sheet-ne1.false (search rules)
