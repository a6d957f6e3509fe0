-- `moving::sizes_within` meets its contract. The loop's invariant: the flag tells of the numbers so far. Assumes nothing.
use mathlib.Core.Path.{◌≡◌}
use lib.ListN.{get_or}
use lib.Ieee.{nan}
use Rattle.definitions.specs.Numbers.{all}
use Rattle.rounding.specs.ResultRange.{size_within}
use Rattle.moving.proofs.sizes_within.Given as goal

abbrev pub invariant-loop-number : goal.invariant-loop-number
invariant-loop-number l = l.good ≡ all (λ at. size_within l.least l.most (get_or l.numbers at nan)) 0 l.number-index
