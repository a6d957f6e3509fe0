-- `rounding::from_word` meets its contract. Assumes nothing.
use Rattle.rounding.proofs.Words.{nan-word, number_word}
use Rattle.rounding.proofs.from_word.Goals as goal

pub returns-then-w-gt9218868437227405312 : goal.returns-then-w-gt9218868437227405312
returns-then-w-gt9218868437227405312 c = nan-word c.args.w c.if-w-gt9218868437227405312.true

pub float_from_bits-result : goal.float_from_bits-result
float_from_bits-result c = number_word c.args.w c.if-w-gt9218868437227405312.false
