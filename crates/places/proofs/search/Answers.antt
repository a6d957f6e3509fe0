-- `places::search` meets its contract. Assumes nothing.
use mathlib.Core.Path.{◌∙◌}
use Rattle.steps.proofs.Searches.{enter_row, good-place, bad_place, leave_row, no_row}
use Rattle.places.proofs.PlaceQuestions.{place_tested, search_rows}
use Rattle.places.proofs.search.Goals as goal

pub loop-i-init : goal.loop-i-init
loop-i-init g c question good computes = search_rows _ _ _ good _

pub loop-j-init : goal.loop-j-init
loop-j-init g c question good computes = c.loop-i.invariant question good computes ∙ enter_row _ _ _ _ _ (rw c.rows-i-end.ensures at c.loop-i-test.true)

-- The loop runs over the rows of the sheet.
pub number_in_row-x-requires : goal.number_in_row-x-requires
number_in_row-x-requires g c = (rw c.rows-i-end.ensures at c.loop-i-test.true, c.loop-j-test.true)

pub loop-j-preserved : goal.loop-j-preserved
loop-j-preserved g c question good computes =
    c.loop-j.invariant question good computes ∙ good-place _ _ _ _ _ _ c.loop-j-test.true (place_tested _ _ _ good _ _ c.number_in_row-x.ensures (computes _ _ _ _ c.if-not-passes.ensures))

pub loop-i-preserved : goal.loop-i-preserved
loop-i-preserved g c question good computes = c.loop-j.invariant question good computes ∙ leave_row _ _ _ _ _ _ c.loop-j-test.false

pub returns : goal.returns
returns g c question good computes = c.loop-i.invariant question good computes ∙ no_row _ _ _ _ _ (rw c.rows-i-end.ensures at c.loop-i-test.false)

pub returns-then-not-passes : goal.returns-then-not-passes
returns-then-not-passes g c question good computes =
    c.loop-j.invariant question good computes ∙ bad_place _ _ _ _ _ _ c.loop-j-test.true (place_tested _ _ _ good _ _ c.number_in_row-x.ensures (computes _ _ _ _ c.if-not-passes.ensures))
