-- `rounding::size_within` meets its contract: the tests of the definition, with the program's zero. Assumes nothing.
use Rattle.rounding.specs.ResultRange.{size_within}
use Rattle.rounding.proofs.ResultRange.{is_zero_is}
use Rattle.rounding.proofs.size_within.Goals as goal

pub returns : goal.returns
unfolding size_within
returns c = rw (is_zero_is c.args.x)
