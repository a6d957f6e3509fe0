-- `rounding::to_word` meets its contract. Assumes nothing.
use Rattle.rounding.proofs.Words.{nan-bits, not-nan}
use Rattle.rounding.proofs.to_word.Goals as goal

pub returns-then-x : goal.returns-then-x
returns-then-x c = nan-bits c.args.x c.if-x.true

pub float_to_bits-result : goal.float_to_bits-result
float_to_bits-result c = not-nan c.args.x c.if-x.false
