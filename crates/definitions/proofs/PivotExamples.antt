-- The pivots to try, by computation from the definitions.
use mathlib.Core.Path.{refl}
use Rattle.definitions.proofs.Computing.{computing}
use Rattle.definitions.specs.PivotExamples.{PivotClaim, pivots}

pub pivots_hold : PivotClaim pivots
unfolding computing
pivots_hold = refl
