-- `shape::ask_prices` meets its contract. Assumes nothing.
use Rattle.std.proofs.Common.{rules}
use mir.Syntax.{w64}
use mir.ValLaws.{to_z-of_z}
use Rattle.answers.proofs.Outcome.{Passes, ends, goes_on}
use Rattle.definitions.specs.Questions.{shape_questions}
use Rattle.definitions.specs.Prices.{price_shape}
use Rattle.shape.proofs.ShapeQuestions.{bad_room, good_room, bad_count, good_count}
use Rattle.shape.proofs.ask_prices.Goals as goal
use Rattle.shape.proofs.ask_prices.Goals.{In_ok-ask_shape}

-- The sheet holds e by its bits, which mean e.
asked : (c : goal.In_ok-ask_shape) → Passes (shape_questions c.args.sheet.reading c.args.sheet.n c.args.sheet.e c.args.sheet.held)
asked c = rw (to_z-of_z w64 c.args.sheet.e (search rules)) at c.in_ok-ask_shape.ensures

pub returns-then-sheet-room : goal.returns-then-sheet-room
unfolding price_shape
returns-then-sheet-room c = goes_on (asked (goal.at.returns-then-sheet-room c).In_ok-ask_shape) (ends _ (bad_room _ _ c.if-sheet-room.true))

pub returns-then-given-sheet : goal.returns-then-given-sheet
unfolding price_shape
returns-then-given-sheet c = goes_on (asked (goal.at.returns-then-given-sheet c).In_ok-ask_shape) (goes_on (good_room _ _ c.if-sheet-room.false) (bad_count _ _ c.if-given-sheet.true))

pub returns : goal.returns
unfolding price_shape
returns c = goes_on (asked (goal.at.returns c).In_ok-ask_shape) (goes_on (good_room _ _ c.if-sheet-room.false) (good_count _ _ c.if-given-sheet.false))

pub returns-in_err-ask_shape : goal.returns-in_err-ask_shape
unfolding price_shape
returns-in_err-ask_shape c = search rules
