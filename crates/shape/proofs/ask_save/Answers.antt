-- `shape::ask_save` meets its contract. Assumes nothing.
use Rattle.std.proofs.Common.{rules}
use mir.Syntax.{w64}
use mir.ValLaws.{to_z-of_z}
use Rattle.definitions.specs.Saving.{save_questions}
use Rattle.answers.proofs.Outcome.{Passes, passed, goes_on}
use Rattle.definitions.specs.Questions.{shape_questions}
use Rattle.shape.proofs.ShapeQuestions.{sized, bad_room, good_room}
use Rattle.shape.proofs.ask_save.Goals as goal
use Rattle.shape.proofs.ask_save.Goals.{In_ok-ask_shape}

-- e is handed over by its bits, which mean e.
asked : (c : goal.In_ok-ask_shape) → Passes (shape_questions c.args.reading c.args.n c.args.e c.args.held)
asked c = rw (to_z-of_z w64 c.args.e c.ranges.e) at c.in_ok-ask_shape.ensures

pub returns-then-room-file_bytes : goal.returns-then-room-file_bytes
unfolding save_questions
returns-then-room-file_bytes c =
    goes_on (asked (goal.at.returns-then-room-file_bytes c).In_ok-ask_shape) (bad_room _ _ (rw c.file_bytes.ensures at c.if-room-file_bytes.true))

pub returns : goal.returns
unfolding save_questions
returns c =
    goes_on (asked (goal.at.returns c).In_ok-ask_shape) (good_room _ _ (rw c.file_bytes.ensures at c.if-room-file_bytes.false))

pub file_bytes-requires : goal.file_bytes-requires
file_bytes-requires c = (sized _ _ _ _ (passed (asked (goal.at.file_bytes-requires c).In_ok-ask_shape))).few

pub returns-in_err-ask_shape : goal.returns-in_err-ask_shape
unfolding save_questions
returns-in_err-ask_shape c = search rules
