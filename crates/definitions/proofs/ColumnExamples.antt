-- The columns to try, by computation from the definitions.
use mathlib.Core.Path.{refl}
use Rattle.definitions.proofs.Computing.{computing}
use Rattle.definitions.specs.ColumnExamples.{ColumnClaim, columns}

pub columns_hold : ColumnClaim columns
unfolding computing
columns_hold = refl
