-- `rows::dot` meets its contract: at column j the products before it are added and tested. Assumes nothing.
use mathlib.Core.Path.{refl, ◌∙◌, ap₂}
use native.Mathlib.Omega.{arith}
use borrow.Author.Rules.{rules}
use Rattle.definitions.specs.Numbers.{◌⊗◌}
use Rattle.rounding.proofs.Words.{zero_word}
use Rattle.rounding.proofs.ResultRange.{product_test}
use Rattle.steps.proofs.Gathering.{gathered_begins, gathered_turns, summed_begins, summed_turns}
use Rattle.rows.proofs.dot.Goals as goal

pub loop-j-preserved : goal.loop-j-preserved
loop-j-preserved c =
    let l = c.loop-j in
    (omega arith, summed_turns l.invariant.1 (ap₂ ◌⊗◌ c.get-x.ensures c.get-y.ensures), gathered_turns l.invariant.2 (c.result_in_range-step.ensures ∙ product_test c.get-x.result c.get-y.result ∙ rw (c.get-x.ensures, c.get-y.ensures)))

pub loop-j-init : goal.loop-j-init
loop-j-init c = (search rules, summed_begins refl zero_word, gathered_begins refl)
