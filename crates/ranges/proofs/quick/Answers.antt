-- `ranges::quick` meets its contract: a parameter is a number of the format. Assumes nothing.
use mathlib.Core.Path.{ap₂}
use mathlib.Core.Bool.{◌||◌}
use Rattle.rounding.proofs.ResultRange.{is_zero_is}
use Rattle.ranges.proofs.quick.Goals as goal

pub returns : goal.returns
returns c =
    record { is = ap₂ (λ a b. a || b) (is_zero_is c.args.m) c.above.ensures; held = rw c.well_formed.0.1 tt }
