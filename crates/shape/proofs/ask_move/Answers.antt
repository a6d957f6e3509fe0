-- `shape::ask_move` meets its contract: by then the sheet holds as many numbers as it should. Assumes nothing.
use Rattle.std.proofs.Common.{rules}
use Prim.Native.Nat.{◌≤◌}
use native.Mathlib.Omega.{arith}
use mir.Syntax.{w64}
use mir.ValLaws.{to_z-of_z}
use Rattle.answers.proofs.Outcome.{Passes, passed, goes_on}
use Rattle.definitions.specs.Questions.{shape_questions}
use Rattle.shape.proofs.ShapeQuestions.{sized, bad_room, good_room}
use Rattle.shape.proofs.ask_move.Goals as goal
use Rattle.shape.proofs.ask_move.Goals.{In_ok-ask_shape}

-- The sheet holds e by its bits, which mean e.
asked : (c : goal.In_ok-ask_shape) → Passes (shape_questions c.args.sheet.reading c.args.sheet.n c.args.sheet.e c.args.sheet.held)
asked c = rw (to_z-of_z w64 c.args.sheet.e (search rules)) at c.in_ok-ask_shape.ensures

pub returns-then-room-held : goal.returns-then-room-held
returns-then-room-held c =
    let numbers = (sized _ _ _ _ (passed (asked (goal.at.returns-then-room-held c).In_ok-ask_shape))).numbers in
    goes_on (asked (goal.at.returns-then-room-held c).In_ok-ask_shape) (bad_room _ _ (rw numbers at c.if-room-held.true))

pub returns : goal.returns
returns c =
    let enough : c.args.sheet.held ≤ c.args.room = omega arith in
    let numbers = (sized _ _ _ _ (passed (asked (goal.at.returns c).In_ok-ask_shape))).numbers in
    goes_on (asked (goal.at.returns c).In_ok-ask_shape) (good_room _ _ (rw numbers at enough))
