-- `places::number_in_row` meets its contract. Assumes nothing.
use native.Mathlib.Omega.{arith}
use Rattle.shape.proofs.Square.{row_inside, numbers_few}
use Rattle.places.proofs.number_in_row.Goals as goal

pub overflow_mul-result : goal.overflow_mul-result
overflow_mul-result c = omega (arith, row_inside c.args.whole.whole c.requires.0 c.requires.1, numbers_few c.args.whole.whole)

pub overflow_add-result : goal.overflow_add-result
overflow_add-result c = omega (arith, row_inside c.args.whole.whole c.requires.0 c.requires.1, numbers_few c.args.whole.whole)

pub offset_bounds-sheet-i : goal.offset_bounds-sheet-i
offset_bounds-sheet-i c = omega (arith, row_inside c.args.whole.whole c.requires.0 c.requires.1, numbers_few c.args.whole.whole)

pub bounds-sheet-i : goal.bounds-sheet-i
bounds-sheet-i c = row_inside c.args.whole.whole c.requires.0 c.requires.1
