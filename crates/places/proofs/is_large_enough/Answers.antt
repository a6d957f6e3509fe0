-- `places::is_large_enough` meets its contract. Assumes nothing.
use Rattle.definitions.specs.Numbers.{is_zero}
use Rattle.definitions.specs.Questions.{large_enough}
use Rattle.rounding.proofs.Words.{zero_word, smallest-word}
use Rattle.places.proofs.is_large_enough.Goals as goal

pub returns : goal.returns
unfolding large_enough is_zero
returns c = rw (zero_word, smallest-word)
