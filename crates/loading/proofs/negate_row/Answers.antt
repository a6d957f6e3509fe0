-- `loading::negate_row` meets its contract: at column j the columns before it are done. Assumes nothing.
use mathlib.Core.Path.{refl}
use native.Mathlib.Omega.{arith}
use borrow.Author.Rules.{rules}
use Rattle.tables.proofs.Loops.{along_begins, along_turns}
use Rattle.loading.proofs.LoadedRows.{as_negated}
use Rattle.loading.proofs.negate_row.Goals as goal

pub loop-j-preserved : goal.loop-j-preserved
loop-j-preserved c =
    (omega arith, along_turns c.loop-j.invariant.1 c.put.ensures (as_negated c.args.sheet.n c.args.sheet.numbers.now c.args.i c.loop-j.j c.number_at-x.ensures))

pub loop-j-init : goal.loop-j-init
loop-j-init c = (search rules, along_begins refl c.told-t)
