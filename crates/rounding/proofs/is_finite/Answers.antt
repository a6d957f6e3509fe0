-- `rounding::is_finite` meets its contract. Assumes nothing.
use mathlib.Core.Path.{◌∙◌}
use Rattle.rounding.proofs.Finite.{tests_finite}
use Rattle.rounding.proofs.ResultRange.{is_zero_is}
use lib.Ieee.{binary64, sub}
use Rattle.rounding.proofs.is_finite.Goals as goal

pub returns : goal.returns
returns c = is_zero_is (sub binary64 c.args.x c.args.x) ∙ tests_finite c.args.x
