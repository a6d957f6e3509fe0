-- `column_planner::live_stages` meets its contract. Assumes nothing.
use borrow.Author.Tests.{not-true, not-false}
use Rattle.rounding.proofs.Words.{zero_word}
use Rattle.tables.specs.Vectors.{vector}
use Rattle.tables.proofs.Vectors.{new_vector}
use Rattle.column_planner.proofs.Endings.{place_within, live_fails, idle-column, live-column}
use mathlib.Core.Path.{ap, ◌∙◌}
use mathlib.Core.Bool.{not}
use Rattle.column_planner.proofs.live_stages.Goals as goal

pub solve-requires : goal.solve-requires
solve-requires c =
    (rw c.unwrap_or.ensures (place_within _ _ _ _ c.find-place.ensures), c.pack-stages.result.few, new_vector zero_word)

pub returns-then-not-solve : goal.returns-then-not-solve
returns-then-not-solve c =
    live_fails c.pack-stages.ensures c.find-place.result c.requires.0 c.find-place.ensures c.unwrap_or.ensures c.solve.ensures (not-true c.solve.result (ap not c.if-not-solve.true)) c.requires.1.long

pub returns-then-is_none : goal.returns-then-is_none
returns-then-is_none c =
    idle-column c.pack-stages.ensures c.find-place.result c.requires.0 c.find-place.ensures c.unwrap_or.ensures c.solve.ensures (not-false c.solve.result (ap not c.if-not-solve.false)) (c.is_none.ensures ∙ ap not c.if-is_none.true) c.requires.1

pub returns : goal.returns
returns c =
    live-column c.pack-stages.ensures c.find-place.result c.requires.0 c.find-place.ensures c.unwrap_or.ensures c.solve.ensures (not-false c.solve.result (ap not c.if-not-solve.false)) (c.is_none.ensures ∙ ap not c.if-is_none.false) (vector c.args.x.now) c.requires.1.is c.unpack_vector.ensures
