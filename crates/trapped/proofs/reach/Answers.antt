-- `trapped::reach` meets its contract. Assumes nothing.
use native.Mathlib.Omega.{arith}
use Rattle.trapped.proofs.Reaching.{reached_begins, reached_turns, fewer_to_do, reached_all, reached_closed}
use Rattle.trapped.proofs.reach.Goals as goal

pub loop-marks-init : goal.loop-marks-init
loop-marks-init c = reached_begins _ _ c.args.sheet.square.few c.exits-marks.ensures

pub returns-then-marks-sheet : goal.returns-then-marks-sheet
returns-then-marks-sheet c = reached_all _ _ c.loop-marks.invariant c.if-marks-sheet.true

pub returns-in_default : goal.returns-in_default
returns-in_default c = reached_closed _ _ c.loop-marks.invariant c.in_default.ensures

-- Stage j is marked and not done.
pub mark_movers-marks-requires : goal.mark_movers-marks-requires
mark_movers-marks-requires c = (c.in-Some.ensures.0, c.loop-marks.invariant.counted)

pub loop-marks-smaller : goal.loop-marks-smaller
loop-marks-smaller c =
    fewer_to_do _ _ c.loop-marks.invariant c.args.sheet.square.few c.in-Some.ensures.0 (c.in-Some.ensures.1, c.in-Some.ensures.2) c.mark_movers-marks.ensures

pub loop-marks-preserved : goal.loop-marks-preserved
loop-marks-preserved c =
    reached_turns _ _ c.loop-marks.invariant c.args.sheet.square.few c.in-Some.ensures.0 (c.in-Some.ensures.1, c.in-Some.ensures.2) c.mark_movers-marks.ensures

pub next_stage-requires : goal.next_stage-requires
next_stage-requires c = c.args.sheet.square.few

pub bounds-done-j : goal.bounds-done-j
bounds-done-j c = omega (arith, c.in-Some.ensures.0)
