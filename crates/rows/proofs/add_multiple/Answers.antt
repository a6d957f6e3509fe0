-- `rows::add_multiple` meets its contract: at column j the columns before it are done. Assumes nothing.
use mathlib.Core.Path.{refl, ◌∙◌}
use native.Mathlib.Omega.{arith}
use borrow.Author.Rules.{rules}
use Rattle.tables.specs.RowMajor.{table}
use Rattle.tables.proofs.Loops.{along_begins, along_due, along_else, along_turns}
use Rattle.tables.proofs.Rows.{plus_multiple_lem}
use Rattle.rows.proofs.add_multiple.Goals as goal

pub loop-j-preserved : goal.loop-j-preserved
loop-j-preserved c =
    let f = table c.args.a.now in
    let h = c.loop-j.invariant.1 in
    (omega arith, along_turns h c.put.ensures (plus_multiple_lem c.loop-j.j (f c.args.i) (c.get-x.ensures ∙ along_due h) c.args.m (f c.args.k) (c.get-y.ensures ∙ along_else h c.args.k c.loop-j.j c.requires.2)))

pub loop-j-init : goal.loop-j-init
loop-j-init c = (search rules, along_begins refl c.told-a)
