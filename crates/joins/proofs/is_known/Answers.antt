-- `joins::is_known` meets its contract. Assumes nothing.
use mathlib.Core.Path.{refl}
use Rattle.joins.specs.StageJoin.{knows}
use Rattle.joins.proofs.is_known.Goals as goal

pub returns : goal.returns
unfolding knows
returns c = refl
