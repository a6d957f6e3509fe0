-- `prices::price` meets its contract: at column j the products before it are added. Assumes nothing.
use mathlib.Core.Path.{refl}
use native.Mathlib.Nat.{sub-zero}
use native.Mathlib.Omega.{arith}
use borrow.Author.Rules.{rules}
use Rattle.definitions.specs.Prices.{unit_price, request_price}
use Rattle.rounding.proofs.Words.{zero_word}
use Rattle.steps.proofs.Gathering.{summed_begins, summed_turns, summed_ends}
use Rattle.prices.proofs.price.Goals as goal

pub loop-j-preserved : goal.loop-j-preserved
unfolding unit_price
loop-j-preserved c =
    let l = c.loop-j in
    (omega arith, summed_turns l.invariant.1 (rw c.get-entry.ensures))

pub returns : goal.returns
unfolding request_price
returns c =
    let n = c.args.n in
    rw (sub-zero n) at (summed_ends c.loop-j.invariant.1 {hi = n} (omega arith) (omega arith))

pub loop-j-init : goal.loop-j-init
loop-j-init c = (search rules, summed_begins refl zero_word)
