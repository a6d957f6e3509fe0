-- `shape::ask_shape` meets its contract. Assumes nothing.
use mir.Syntax.{w64}
use mir.ValLaws.{to_z-of_z}
use Rattle.definitions.specs.Questions.{exponent_in_range}
use Rattle.shape.proofs.ShapeQuestions.{bad_reading, bad_stages, bad_unit, bad_length, good_shape, few_passed}
use mathlib.Core.Path.{ap}
use mathlib.Core.Bool.{not}
use Rattle.shape.proofs.ask_shape.Goals as goal

-- e is handed over by its bits, which mean e.
pub returns-then-not-e : goal.returns-then-not-e
unfolding exponent_in_range
returns-then-not-e c =
    bad_unit _ _ _ _ (ap not c.if-not-reading.false) (ap not c.if-not-n.false) (rw (to_z-of_z w64 c.args.e c.ranges.e) at (ap not c.if-not-e.true))

pub numbers-requires : goal.numbers-requires
numbers-requires c =
    few_passed c.args.reading c.args.n c.args.e c.args.held (ap not c.if-not-reading.false) (ap not c.if-not-n.false)

pub returns-then-held-numbers : goal.returns-then-held-numbers
unfolding exponent_in_range
returns-then-held-numbers c =
    bad_length _ _ _ _ (ap not c.if-not-reading.false) (ap not c.if-not-n.false) (rw (to_z-of_z w64 c.args.e c.ranges.e) at (ap not c.if-not-e.false)) c.numbers.ensures c.if-held-numbers.true

pub returns : goal.returns
unfolding exponent_in_range
returns c =
    good_shape _ _ _ _ (ap not c.if-not-reading.false) (ap not c.if-not-n.false) (rw (to_z-of_z w64 c.args.e c.ranges.e) at (ap not c.if-not-e.false)) c.numbers.ensures c.if-held-numbers.false

pub returns-then-not-reading : goal.returns-then-not-reading
returns-then-not-reading c = bad_reading _ _ _ _ (ap not c.if-not-reading.true)

pub returns-then-not-n : goal.returns-then-not-n
returns-then-not-n c = bad_stages _ _ _ _ (ap not c.if-not-reading.false) (ap not c.if-not-n.true)
