-- `ranges::row_told` meets its contract: the multiplier, a parameter, is a number of the format. Assumes nothing.
use mathlib.Core.Path.{sym, ◌∙◌}
use Rattle.rounding.proofs.ResultRange.{is_zero_is, quotient_test}
use Rattle.tables.specs.RowMajor.{table}
use Rattle.ranges.proofs.RowTests.{zero_row, bounded_row, tested_row}
use Rattle.ranges.proofs.row_told.Goals as goal

pub returns-then-x : goal.returns-then-x
returns-then-x c own e =
    let f = table c.args.t.now in
    zero_row c.args.r c.args.k c.args.i c.args.p own (f c.args.k) c.requires.0 c.requires.1
    (c.get-x.ensures ∙ sym e) (rw (← is_zero_is c.get-x.result, c.if-x.true) tt)

pub returns-then-above : goal.returns-then-above
returns-then-above c own e =
    let f = table c.args.t.now in
    bounded_row c.args.r c.args.k c.args.i c.args.p own (f c.args.k) c.requires.0 c.requires.1 (rw (← e) at c.requires.3)
    c.args.lo (rw c.well_formed.1.1.1.1.0.1 tt) c.requires.4 (rw (← c.above.ensures, c.if-above.true) tt)

pub returns : goal.returns
returns c own e =
    let f = table c.args.t.now in
    tested_row c.args.r c.args.k c.args.i c.args.p own (f c.args.k) c.requires.0 c.requires.1 (rw (← e) at c.requires.3)
    (c.get-x.ensures ∙ sym e) (c.result_in_range-multiplier.ensures ∙ rw (c.requires.3, ← c.get-x.ensures) (quotient_test c.get-x.result c.args.p)) c.products_in_range-left.ensures c.products_in_range-right.ensures
