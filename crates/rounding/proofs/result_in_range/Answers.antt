-- `rounding::result_in_range` meets its contract: the three tests of the definition, with the program's literals. Assumes nothing.
use Rattle.rounding.proofs.ResultRange.{by_tests}
use Rattle.rounding.proofs.result_in_range.Goals as goal

pub returns : goal.returns
returns c = by_tests c.args.x c.args.y c.args.r c.is_finite-finite.ensures
