-- `moving::move_sheet` meets its contract. Assumes nothing.
use Rattle.std.proofs.Common.{rules}
use borrow.Author.Tests.{not-true, not-false}
use mathlib.Core.Bool.{true}
use mathlib.Core.Path.{◌≡◌}
use lib.IntN.{◌+ℤ◌}
use mir.Syntax.{w64}
use mir.Val.{to_z, of_z, SFits}
use mir.ValLaws.{to_z-of_z}
use Rattle.std.specs.Prelude.{Err}
use Rattle.exact.proofs.Bools.{holds}
use Rattle.definitions.specs.Questions.{exponent_in_range}
use Rattle.answers.proofs.Outcome.{is_refusal, passed, refused}
use Rattle.moving.proofs.Endings.{input_refused, exponent_refused, unit_refused, room_refused, moved_given_lem, its_square, movable, fits_area, its_unit, unit-fits}
use mathlib.Core.Path.{ap}
use mathlib.Core.Bool.{not}
use Rattle.moving.proofs.move_sheet.Goals as goal
use Rattle.moving.proofs.move_sheet.Goals.{Else-not-k, Else-not-unit}

pub returns-in_err-move_input : goal.returns-in_err-move_input
returns-in_err-move_input c =
    input_refused c.args.sheet.reading c.args.sheet.n c.args.sheet.e c.args.sheet.numbers.now c.args.k c.args.area.now (is_refusal c.from_residual.ensures.1)
    (refused c.in_err-move_input.ensures)

inside : (c : goal.Else-not-k) → exponent_in_range c.args.k ≡ true
unfolding exponent_in_range
inside c =
    not-false (exponent_in_range c.args.k) (rw (to_z-of_z w64 c.args.k c.ranges.k) at (ap not c.if-not-k.false))

pub returns-then-not-k : goal.returns-then-not-k
unfolding exponent_in_range
returns-then-not-k c =
    exponent_refused c.args.sheet.reading c.args.sheet.n c.args.sheet.e c.args.sheet.numbers.now c.args.k c.args.area.now (passed c.in_ok-move_input.ensures) (ap (λ r. Err r) c.into.ensures)
    (not-true (exponent_in_range c.args.k) (rw (to_z-of_z w64 c.args.k c.ranges.k) at (ap not c.if-not-k.true)))

sum_fits : (c : goal.Else-not-k) → SFits w64 (c.args.sheet.e +ℤ c.args.k)
sum_fits c = unit-fits c.args.sheet.e c.args.k (its_unit c.args.sheet.reading c.args.sheet.n c.args.sheet.e c.args.sheet.numbers.now c.args.k c.args.area.now (passed c.in_ok-move_input.ensures)) (holds (inside c))

-- e and k are held by their bits, which mean e and k.
pub overflow_add-unit : goal.overflow_add-unit
overflow_add-unit c = rw (to_z-of_z w64 c.args.sheet.e (search rules), to_z-of_z w64 c.args.k c.ranges.k) (sum_fits (goal.at.overflow_add-unit c).Else-not-k)

-- The sum is e + k.
unit : (c : goal.Else-not-k) → to_z w64 (of_z w64 (to_z w64 (of_z w64 c.args.sheet.e) +ℤ to_z w64 (of_z w64 c.args.k))) ≡ c.args.sheet.e +ℤ c.args.k
unit c = rw (to_z-of_z w64 c.args.sheet.e (search rules), to_z-of_z w64 c.args.k c.ranges.k) (to_z-of_z w64 (c.args.sheet.e +ℤ c.args.k) (sum_fits c))

pub returns-then-not-unit : goal.returns-then-not-unit
unfolding exponent_in_range
returns-then-not-unit c =
    let w2 = (goal.at.returns-then-not-unit c).Else-not-k in
    unit_refused c.args.sheet.reading c.args.sheet.n c.args.sheet.e c.args.sheet.numbers.now c.args.k c.args.area.now (passed c.in_ok-move_input.ensures) (inside w2) (ap (λ r. Err r) c.into-then-not-unit.ensures)
    (not-true (exponent_in_range (c.args.sheet.e +ℤ c.args.k)) (rw (unit w2) at (ap not c.if-not-unit.true)))

in_range_lem : (c : goal.Else-not-unit) → to_z w64 (of_z w64 (to_z w64 (of_z w64 c.args.sheet.e) +ℤ to_z w64 (of_z w64 c.args.k))) ≡ c.args.sheet.e +ℤ c.args.k
    → exponent_in_range (c.args.sheet.e +ℤ c.args.k) ≡ true
unfolding exponent_in_range
in_range_lem c is =
    not-false (exponent_in_range (c.args.sheet.e +ℤ c.args.k)) (rw is at (ap not c.if-not-unit.false))

pub move_numbers-requires : goal.move_numbers-requires
move_numbers-requires c =
    let known = passed c.in_ok-move_input.ensures in
    rw (to_z-of_z w64 c.args.k c.ranges.k, c.rates.ensures, c.weights.ensures) (
      movable c.args.sheet.reading c.args.sheet.n c.args.sheet.e c.args.sheet.numbers.now c.args.k c.args.area.now known (holds (inside (goal.at.move_numbers-requires c).Else-not-k)),
      fits_area c.args.sheet.reading c.args.sheet.n c.args.sheet.e c.args.sheet.numbers.now c.args.k c.args.area.now known,
    )

pub returns-then-not-move_numbers : goal.returns-then-not-move_numbers
returns-then-not-move_numbers c =
    let same = to_z-of_z w64 c.args.k c.ranges.k in
    let done = rw (same, c.rates.ensures, c.weights.ensures) at c.move_numbers.ensures in
    room_refused c.args.sheet.reading c.args.sheet.n c.args.sheet.e c.args.sheet.numbers.now c.args.k c.args.area.now (passed c.in_ok-move_input.ensures) (inside (goal.at.returns-then-not-move_numbers c).Else-not-k) (in_range_lem (goal.at.returns-then-not-move_numbers c).Else-not-unit (unit (goal.at.returns-then-not-move_numbers c).Else-not-k))
    done.value done.area_after (ap (λ r. Err r) c.into-then-not-move_numbers.ensures) (not-true c.move_numbers.result (ap not c.if-not-move_numbers.true))

pub returns : goal.returns
returns c =
    let w2 = (goal.at.returns c).Else-not-k in
    let same = to_z-of_z w64 c.args.k c.ranges.k in
    let done = rw (same, c.rates.ensures, c.weights.ensures) at c.move_numbers.ensures in
    rw (unit w2)
    (moved_given_lem c.args.sheet.reading c.args.sheet.n c.args.sheet.e c.args.sheet.numbers.now c.args.k c.args.area.now (passed c.in_ok-move_input.ensures) (inside w2) (in_range_lem (goal.at.returns c).Else-not-unit (unit w2))
    done.value done.area_after (not-false c.move_numbers.result (ap not c.if-not-move_numbers.false)))

pub invariant_of-sheet : goal.invariant_of-sheet
invariant_of-sheet c =
    record { square = its_square c.args.sheet.reading c.args.sheet.n c.args.sheet.e c.args.sheet.numbers.now c.args.k c.args.area.now (passed c.in_ok-move_input.ensures) }
