-- `column::large_product` meets its contract: the literals are zero and 2^-1022. Assumes nothing.
use Rattle.rounding.proofs.ResultRange.{is_zero_is}
use Rattle.rounding.proofs.Words.{smallest-word}
use Rattle.column.specs.ColumnSteps.{large_product}
use Rattle.column.proofs.large_product.Goals as goal

pub returns : goal.returns
unfolding large_product
returns c = rw (is_zero_is c.args.m, is_zero_is c.args.y, smallest-word)
