-- `loading::rates` meets its contract: at row i the rows before it are done. Assumes nothing.
use mathlib.Core.Path.{refl}
use native.Mathlib.Omega.{arith}
use borrow.Author.Rules.{rules}
use Rattle.tables.proofs.Loops.{down_begins, down_puts, down_ends}
use Rattle.loading.specs.LoadedTable.{with_rates}
use Rattle.loading.proofs.LoadedRows.{as_diagonal}
use Rattle.loading.proofs.rates.Goals as goal

pub loop-i-preserved : goal.loop-i-preserved
loop-i-preserved c =
    (omega arith, down_puts c.loop-i.invariant.1 c.loop-i.i c.put.ensures (as_diagonal c.args.sheet.n c.args.sheet.numbers.now c.loop-i.i c.loop-i-test.true c.number_at-x.ensures) refl)

pub returns : goal.returns
unfolding with_rates
returns c = down_ends c.loop-i.invariant.1 (omega arith) (omega arith)

pub loop-i-init : goal.loop-i-init
loop-i-init c = (search rules, down_begins refl c.told-t)
