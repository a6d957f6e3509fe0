-- `ranges::above` meets its contract: the literal is 2^-1022. Assumes nothing.
use mathlib.Core.Path.{ap}
use lib.Ieee.{Float, lt}
use Rattle.definitions.specs.Numbers.{◌⊗◌}
use Rattle.rounding.proofs.Words.{smallest-word}
use Rattle.ranges.proofs.above.Goals as goal

pub returns : goal.returns
returns c = ap (λ (s : Float). lt s (c.args.m ⊗ c.args.lo)) smallest-word
