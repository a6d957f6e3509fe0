-- `shape::ask_entry` meets its contract. Assumes nothing.
use Rattle.std.proofs.Common.{rules}
use mir.Syntax.{w64}
use mir.ValLaws.{to_z-of_z}
use Rattle.answers.proofs.Outcome.{Passes, goes_on}
use Rattle.definitions.specs.Questions.{shape_questions}
use Rattle.shape.proofs.ShapeQuestions.{bad_entry, good-entry}
use mathlib.Core.Path.{ap}
use mathlib.Core.Bool.{not}
use Rattle.shape.proofs.ask_entry.Goals as goal
use Rattle.shape.proofs.ask_entry.Goals.{In_ok-ask_shape}

-- The sheet holds e by its bits, which mean e.
asked : (c : goal.In_ok-ask_shape) → Passes (shape_questions c.args.sheet.reading c.args.sheet.n c.args.sheet.e c.args.sheet.held)
asked c = rw (to_z-of_z w64 c.args.sheet.e (search rules)) at c.in_ok-ask_shape.ensures

pub returns-then-not-i-sheet : goal.returns-then-not-i-sheet
returns-then-not-i-sheet c = goes_on (asked (goal.at.returns-then-not-i-sheet c).In_ok-ask_shape) (bad_entry _ _ _ (ap not c.if-not-i-sheet.true))

pub returns : goal.returns
returns c = goes_on (asked (goal.at.returns c).In_ok-ask_shape) (good-entry _ _ _ (ap not c.if-not-i-sheet.false))
