-- `idle::is_idle` meets its contract: before stage j every number is zero. Assumes nothing.
use mathlib.Core.Path.{refl, sym, ◌∙◌}
use native.Mathlib.Omega.{arith}
use borrow.Author.Rules.{rules}
use borrow.Author.Tests.{not-true, not-false}
use Rattle.steps.proofs.Gathering.{gathered_begins, gathered_turns, gathered_all}
use Rattle.steps.proofs.LiveStages.{idle_is}
use Rattle.idle.proofs.Idling.{one_fails, zeros_is}
use Rattle.idle.proofs.is_idle.Goals as goal

pub returns-then-number_at : goal.returns-then-number_at
returns-then-number_at c =
    sym (idle_is _ _ _ ∙ one_fails _ _ _ c.loop-j-test.true (not-true _ (sym (zeros_is _ _ _ _ c.number_at.ensures c.number_at-in-loop-j.ensures) ∙ c.if-number_at.true)))

pub loop-j-preserved : goal.loop-j-preserved
loop-j-preserved c =
    (omega arith, gathered_turns c.loop-j.invariant.1 (sym (not-false _ (sym (zeros_is _ _ _ _ c.number_at.ensures c.number_at-in-loop-j.ensures) ∙ c.if-number_at.false))))

pub returns : goal.returns
returns c = gathered_all c.loop-j.invariant.1 (omega arith) (omega arith) ∙ sym (idle_is _ _ _)

pub loop-j-init : goal.loop-j-init
loop-j-init c = (search rules, gathered_begins refl)
