-- The sheets to move and to make a table of, by computation from the definitions.
use mathlib.Core.Path.{refl}
use Rattle.definitions.proofs.Computing.{computing}
use Rattle.commuting.specs.CommutingExamples.{moved, AfterMoveClaim, after_moves}

pub after-moves_hold : AfterMoveClaim after_moves
unfolding computing moved AfterMoveClaim after_moves
after-moves_hold = refl
