-- The sheets to move, by computation from the definitions.
use mathlib.Core.Path.{refl}
use Rattle.definitions.proofs.Computing.{computing}
use Rattle.definitions.specs.MovingExamples.{MoveClaim, move_lines}

pub moves_hold : MoveClaim move_lines
unfolding computing
moves_hold = refl
