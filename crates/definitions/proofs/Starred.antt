-- The sheets to try, by computation from the definitions.
use mathlib.Core.Path.{refl}
use Rattle.definitions.proofs.Computing.{computing}
use Rattle.definitions.specs.Starred.{Claim, starred, further}

pub starred_hold : Claim starred
unfolding computing
starred_hold = refl

pub further_hold : Claim further
unfolding computing
further_hold = refl
