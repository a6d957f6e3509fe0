-- `loading::sizes` meets its contract: at row i the rows before it are done. Assumes nothing.
use mathlib.Core.Path.{refl}
use native.Mathlib.Omega.{arith}
use borrow.Author.Rules.{rules}
use Rattle.definitions.specs.Sheet.{size}
use Rattle.tables.specs.RowMajor.{table}
use Rattle.tables.proofs.Loops.{down_begins, down_spans, down_ends}
use Rattle.loading.specs.LoadedTable.{with_sizes}
use Rattle.loading.proofs.sizes.Goals as goal

pub loop-i-preserved : goal.loop-i-preserved
loop-i-preserved c =
    (omega arith, down_spans 0 c.args.sheet.n (size c.args.sheet.n c.args.sheet.numbers.now) (table c.args.t.now) c.loop-i.invariant.1 c.load_row.ensures)

pub returns : goal.returns
unfolding with_sizes
returns c = down_ends c.loop-i.invariant.1 (omega arith) (omega arith)

pub loop-i-init : goal.loop-i-init
loop-i-init c = (search rules, down_begins refl c.told-t)
