-- `ratios::sum_after` meets its contract: at column j the sizes before it are added. Assumes nothing.
use mathlib.Core.Path.{refl}
use native.Mathlib.Numerals.{add-one}
use native.Mathlib.Omega.{arith}
use borrow.Author.Rules.{rules}
use Rattle.steps.proofs.Gathering.{summed_begins, summed_turns}
use Rattle.ratios.proofs.sum_after.Goals as goal

pub loop-j-preserved : goal.loop-j-preserved
loop-j-preserved c = (omega arith, summed_turns c.loop-j.invariant.1 c.get-x.ensures)

pub loop-j-init : goal.loop-j-init
loop-j-init c = (search rules, summed_begins (add-one c.args.i) refl)
