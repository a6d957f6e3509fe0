-- `schur::add_two` meets its contract: at column j the columns before it are done. Assumes nothing.
use mathlib.Core.Path.{refl, ◌∙◌}
use Prim.Native.Nat.{suc}
use native.Mathlib.Numerals.{add-one}
use native.Mathlib.Omega.{arith}
use borrow.Author.Rules.{rules}
use Rattle.tables.specs.RowMajor.{table}
use Rattle.tables.proofs.Loops.{along_begins, along_due, along_else, along_turns}
use Rattle.schur.proofs.SchurRows.{plus_two_lem}
use Rattle.schur.proofs.add_two.Goals as goal

pub loop-j-preserved : goal.loop-j-preserved
loop-j-preserved c =
    let k = c.args.k in
    let f = table c.args.t.now in
    let j = c.loop-j.j in
    let h = c.loop-j.invariant.1 in (
      omega arith,
      along_turns h c.put.ensures (plus_two_lem c.args.a c.args.b j (f c.args.i) (f k) (f (suc k))
          (c.get-x.ensures ∙ along_due h)
          (c.get-y.ensures ∙ along_else h k j (λ e. omega arith))
          (rw (add-one k) at c.get-z.ensures ∙ along_else h (suc k) j (λ e. omega arith))),
    )

pub loop-j-init : goal.loop-j-init
loop-j-init c = (search rules, along_begins refl c.told-t)
