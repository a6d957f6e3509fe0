-- `bounds::floor` meets its contract. Assumes nothing.
use lib.Ieee.{of_bits}
use Rattle.rounding.proofs.ResultRange.{is_zero_is}
use Rattle.bounds.proofs.floor.Goals as goal

pub returns-then-x : goal.returns-then-x
unfolding of_bits
returns-then-x c = rw (← is_zero_is c.args.x, c.if-x.true)

pub returns : goal.returns
unfolding of_bits
returns c = rw (← is_zero_is c.args.x, c.if-x.false)
