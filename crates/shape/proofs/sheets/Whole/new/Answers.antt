-- `shape::sheets::Whole::new` meets its contract. Assumes nothing.
use mathlib.Core.Path.{refl}
use Rattle.definitions.specs.Accuracy.{Binary64}
use Rattle.shape.proofs.Square.{is_square}
use Rattle.shape.proofs.sheets.Whole.new.Goals as goal

pub invariant_of-sheet : goal.invariant_of-sheet
invariant_of-sheet c = record { square = is_square c.requires }

pub returns : goal.returns
unfolding Binary64
returns c = (refl, refl, refl, c.type_inv.numbers)
