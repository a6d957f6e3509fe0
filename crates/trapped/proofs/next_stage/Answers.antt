-- `trapped::next_stage` meets its contract. Assumes nothing.
use native.Mathlib.Omega.{arith}
use borrow.Author.Count.{below_more}
use Rattle.trapped.proofs.Reaching.{next_waits, not-next}
use Rattle.trapped.proofs.next_stage.Goals as goal

pub returns-then-marks-i : goal.returns-then-marks-i
returns-then-marks-i c = let w = next_waits _ _ c.if-marks-i.true in (c.loop-i-test.true, w.0, w.1)

pub loop-i-preserved : goal.loop-i-preserved
loop-i-preserved c = below_more _ _ c.loop-i.invariant (not-next _ _ c.if-marks-i.false)

pub returns : goal.returns
returns c = λ i l. c.loop-i.invariant i (omega arith)

pub loop-i-init : goal.loop-i-init
loop-i-init c = λ k l. absurd (omega arith)
