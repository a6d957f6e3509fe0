-- `out_places::hand_head` meets its contract: the answer, case by case. Assumes nothing.
use Rattle.std.proofs.Common.{rules}
use mathlib.Core.Path.{ap}
use mir.Syntax.{w64}
use mir.ValLaws.{to_z-of_z}
use Rattle.answers.specs.Answers.{head_told}
use Rattle.out_places.proofs.Telling.{head_given_lem, head_kept}
use Rattle.out_places.proofs.hand_head.Goals as goal

-- The head holds e by its bits.
pub returns-in-Ok : goal.returns-in-Ok
returns-in-Ok c =
    rw (to_z-of_z w64 c.in-Ok.head.e (search rules))
    (head_given_lem c.args.reading.now c.args.n.now c.args.e.now (ap head_told c.in-Ok.is))

pub returns-in-Err : goal.returns-in-Err
returns-in-Err c = rw (c.tell.ensures.0, c.tell.ensures.1, c.tell.ensures.2) (head_kept c.args.reading.now c.args.n.now c.args.e.now (ap head_told c.in-Err.is))
