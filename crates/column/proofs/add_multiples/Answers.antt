-- `column::add_multiples` meets its contract: at row i the rows from `from` before it are done. Assumes nothing.
use mathlib.Core.Path.{refl, ap₂, ◌∙◌}
use native.Mathlib.Omega.{arith}
use borrow.Author.Rules.{rules}
use Rattle.steps.proofs.AddProduct.{step_same}
use Rattle.tables.proofs.Vectors.{vector_begins, vector_due, vector_turns}
use Rattle.steps.proofs.Gathering.{gathered_begins, gathered_turns}
use Rattle.column.specs.ColumnSteps.{large_product}
use Rattle.column.proofs.add_multiples.Goals as goal

pub loop-i-init : goal.loop-i-init
loop-i-init c = (search rules, vector_begins refl c.told-b, gathered_begins refl)

pub loop-i-preserved : goal.loop-i-preserved
loop-i-preserved c =
    let v = c.loop-i.invariant in
    let y = c.get-y.ensures in (
      omega arith,
      vector_turns v.1 c.put.ensures (step_same (c.get-x.ensures ∙ vector_due v.1) c.get-m.ensures y),
      gathered_turns v.2 (c.large_product-large.ensures ∙ ap₂ large_product c.get-m.ensures y),
    )
