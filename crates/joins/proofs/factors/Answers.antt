-- `joins::factors` meets its contract: at place l the places before it are done and tested. Assumes nothing.
use mathlib.Core.Path.{refl, ap, ap₂, ◌∙◌}
use mathlib.Core.Bool.{not, ◌||◌}
use native.Mathlib.Omega.{arith}
use borrow.Author.Rules.{rules}
use Rattle.definitions.specs.Numbers.{◌⊘◌, div_in_range}
use Rattle.rounding.proofs.ResultRange.{quotient_test}
use Rattle.steps.proofs.Gathering.{gathered_begins, gathered_turns, gathered_all}
use Rattle.tables.proofs.Vectors.{vector_begins, vector_turns, vector_ends}
use Rattle.joins.specs.StageJoin.{factors_of, factors_in_range}
use Rattle.joins.proofs.factors.Goals as goal

pub loop-l-preserved : goal.loop-l-preserved
loop-l-preserved c =
    let p = c.args.p in (
      omega arith,
      vector_turns c.loop-l.invariant.1 c.put.ensures (ap (λ x. x ⊘ p) c.get-x.ensures),
      gathered_turns c.loop-l.invariant.2 (ap₂ (λ a b. not a || b) c.is_known-known.ensures (c.result_in_range-step.ensures ∙ quotient_test c.get-x.result p ∙ ap (λ x. div_in_range x p) c.get-x.ensures)),
    )

pub returns : goal.returns
unfolding factors_of factors_in_range
returns c =
    let l = c.loop-l in
    record { range = gathered_all l.invariant.2 (omega arith) (omega arith); holds = vector_ends l.invariant.1 (omega arith) (omega arith) }

pub loop-l-init : goal.loop-l-init
loop-l-init c = (search rules, vector_begins refl c.told-w, gathered_begins refl)
