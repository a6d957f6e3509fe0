-- `columns::identity` meets its contract: at row i the rows before it are done. Assumes nothing.
use mathlib.Core.Path.{refl, ap}
use native.Mathlib.Omega.{arith}
use lib.Ieee.{of_bits}
use borrow.Author.Rules.{rules}
use Rattle.passes.specs.RowPass.{identity_rows}
use Rattle.columns.proofs.IdentityRows.{unit_row_lem}
use Rattle.tables.proofs.Loops.{down_begins, down_puts, down_ends}
use Rattle.columns.proofs.identity.Goals as goal

pub loop-i-preserved : goal.loop-i-preserved
unfolding of_bits
loop-i-preserved c =
    let i = c.loop-i.i in
    (omega arith, down_puts c.loop-i.invariant.1 i c.put.ensures refl (unit_row_lem i c.args.r (omega arith) (ap (λ f. f i) c.requires.1.is)))

pub returns : goal.returns
unfolding identity_rows
returns c = down_ends c.loop-i.invariant.1 (omega arith) (omega arith)

pub loop-i-init : goal.loop-i-init
loop-i-init c = (search rules, down_begins refl c.requires.1.long)
