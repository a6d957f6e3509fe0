-- `joins::fill_column` meets its contract: at row i the rows before it are done and tested. Assumes nothing.
use mathlib.Core.Path.{refl, ap, ◌∙◌}
use mathlib.Core.Bool.{not, ◌||◌}
use native.Mathlib.Nat.{le_refl}
use native.Mathlib.Omega.{arith}
use borrow.Author.Rules.{rules}
use Rattle.steps.proofs.Gathering.{gathered_begins, gathered_turns, gathered_all}
use Rattle.tables.proofs.Loops.{down_begins, down_due, down_turns, down_ends}
use Rattle.tables.specs.Vectors.{vector}
use Rattle.compact.specs.Listing.{marked}
use Rattle.joins.specs.StageJoin.{knows, column_row, place_in_range, column_in_range, column_filled}
use Rattle.joins.proofs.fill_column.Goals as goal

pub loop-i-preserved : goal.loop-i-preserved
loop-i-preserved c =
    let known = knows c.args.c (marked c.args.kept.now) in
    let i = c.loop-i.i in
    let own = down_due c.loop-i.invariant.1 i (le_refl i) in (
      omega arith,
      down_turns c.loop-i.invariant.1 c.fill_place-place.ensures.holds (ap (column_row c.args.n known c.args.c (vector c.args.w.now) i) own),
      gathered_turns c.loop-i.invariant.2 (c.fill_place-place.ensures.range ∙ ap (λ row. not (known i) || place_in_range c.args.n known (vector c.args.w.now) row) own),
    )

pub returns : goal.returns
unfolding column_filled column_in_range
returns c =
    let l = c.loop-i in
    record { range = gathered_all l.invariant.2 (omega arith) (omega arith); holds = down_ends l.invariant.1 (omega arith) (omega arith) }

pub loop-i-init : goal.loop-i-init
loop-i-init c = (search rules, down_begins refl c.told-x, gathered_begins refl)
