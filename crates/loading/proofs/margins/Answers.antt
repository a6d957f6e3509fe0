-- `loading::margins` meets its contract: at stage i the stages before it are done. Assumes nothing.
use mathlib.Core.Path.{refl}
use native.Mathlib.Omega.{arith}
use borrow.Author.Rules.{rules}
use Rattle.tables.proofs.Vectors.{vector_begins, vector_turns}
use Rattle.loading.proofs.LoadedRows.{as_diagonal}
use Rattle.loading.proofs.margins.Goals as goal

pub loop-i-preserved : goal.loop-i-preserved
loop-i-preserved c =
    (omega arith, vector_turns c.loop-i.invariant.1 c.put.ensures (as_diagonal c.args.sheet.n c.args.sheet.numbers.now c.loop-i.i c.loop-i-test.true c.number_at-x.ensures))

pub loop-i-init : goal.loop-i-init
loop-i-init c = (search rules, vector_begins refl c.told-d)
