-- The prices to try, by computation from the definitions.
use mathlib.Core.Path.{refl}
use Rattle.definitions.proofs.Computing.{computing}
use Rattle.definitions.specs.PriceExamples.{PriceClaim, price_lines}

pub prices_hold : PriceClaim price_lines
unfolding computing
prices_hold = refl
