-- `out_places::hand` meets its contract: the answer, case by case. Assumes nothing.
use mathlib.Core.Path.{ap}
use Rattle.answers.specs.Answers.{told}
use Rattle.out_places.proofs.Telling.{value_given, value-kept}
use Rattle.out_places.proofs.hand.Goals as goal

pub returns-in-Ok : goal.returns-in-Ok
returns-in-Ok g c = value_given c.args.value.now (ap told c.in-Ok.is)

pub returns-in-Err : goal.returns-in-Err
returns-in-Err g c = rw (c.tell.ensures.0, c.tell.ensures.1, c.tell.ensures.2) (value-kept c.args.value.now (ap told c.in-Err.is))
