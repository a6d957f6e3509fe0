-- `quick::sheet_passes` meets its contract. Assumes nothing.
use mathlib.Core.Bool.{not}
use mathlib.Core.Path.{ap}
use borrow.Author.Tests.{not-false}
use Rattle.exact.proofs.Bools.{holds}
use Rattle.quick.proofs.QuickSheets.{sheet_passes}
use Rattle.quick.proofs.sheet_passes.Goals as goal

pub returns : goal.returns
returns c t =
    sheet_passes c.args.whole.reading c.args.whole.sheet.n c.args.whole.sheet.numbers.now
    (c.diagonal_passes.ensures (holds (not-false c.diagonal_passes.result (ap not c.if-not-diagonal_passes.false))))
    (c.sizes_pass.ensures (holds (not-false c.sizes_pass.result (ap not c.if-not-sizes_pass.false))))
    c.args.whole.whole
    (rw c.weights.ensures at (c.weights_pass.ensures t))
