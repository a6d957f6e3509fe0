-- `idle::some_idle` meets its contract: every stage before i takes part. Assumes nothing.
use mathlib.Core.Path.{refl, sym, ap, ◌∙◌}
use mathlib.Core.Bool.{not}
use native.Mathlib.Omega.{arith}
use borrow.Author.Rules.{rules}
use Rattle.steps.proofs.Gathering.{gathered_begins, gathered_turns, gathered_all}
use Rattle.idle.proofs.Idling.{one_fails, told_apart, live_of}
use Rattle.idle.proofs.some_idle.Goals as goal
use Rattle.idle.proofs.some_idle.Goals.{else-number_at-via-then-number_at+else-is_idle, else-number_at-via-else-number_at}

pub returns-then-is_idle : goal.returns-then-is_idle
returns-then-is_idle c = sym (ap not (one_fails _ _ _ c.loop-i-test.true (sym (live_of _ _ _ c.is_idle.ensures) ∙ ap not c.if-is_idle.true)))

pub loop-i-preserved : goal.loop-i-preserved
loop-i-preserved c = (
  omega arith,
  elim c.else-number_at.branch [
    | else-number_at-via-then-number_at+else-is_idle w ↦ gathered_turns c.loop-i.invariant.1 (sym (sym (live_of _ _ _ w.is_idle.ensures) ∙ ap not w.if-is_idle.false))
    | else-number_at-via-else-number_at w ↦ gathered_turns c.loop-i.invariant.1 (sym (told_apart _ _ _ c.loop-i-test.true c.number_at.ensures w.if-number_at.false))
  ],
)

pub returns : goal.returns
returns c = ap not (gathered_all c.loop-i.invariant.1 (omega arith) (omega arith))

pub loop-i-init : goal.loop-i-init
loop-i-init c = (search rules, gathered_begins refl)
