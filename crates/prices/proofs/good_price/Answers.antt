-- `prices::good_price` meets its contract: the literals are zero and 2^-1022. Assumes nothing.
use Rattle.definitions.specs.Numbers.{is_zero}
use Rattle.definitions.specs.Questions.{large_enough}
use Rattle.definitions.specs.Prices.{good_price}
use Rattle.rounding.proofs.Words.{zero_word, smallest-word}
use Rattle.prices.proofs.good_price.Goals as goal

pub returns : goal.returns
unfolding good_price large_enough is_zero
returns c = rw (c.is_finite-finite.ensures, zero_word, smallest-word)
