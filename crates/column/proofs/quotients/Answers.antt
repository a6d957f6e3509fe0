-- `column::quotients` meets its contract: at row i the rows before it are divided and tested. Assumes nothing.
use mathlib.Core.Path.{refl, ap₂, ◌∙◌}
use native.Mathlib.Omega.{arith}
use borrow.Author.Rules.{rules}
use Rattle.definitions.specs.Numbers.{◌⊘◌, div_in_range}
use Rattle.rounding.proofs.ResultRange.{quotient_test}
use Rattle.tables.proofs.Vectors.{vector_begins, vector_due, vector_turns}
use Rattle.steps.proofs.Gathering.{gathered_begins, gathered_turns}
use Rattle.column.proofs.quotients.Goals as goal

pub loop-i-init : goal.loop-i-init
loop-i-init c = (search rules, vector_begins refl c.told-b, gathered_begins refl)

pub loop-i-preserved : goal.loop-i-preserved
loop-i-preserved c =
    let v = c.loop-i.invariant in
    let e = c.get-x.ensures ∙ vector_due v.1 in (
      omega arith,
      vector_turns v.1 c.put.ensures (ap₂ (λ a b. a ⊘ b) e c.get-p.ensures),
      gathered_turns v.2 (c.result_in_range-step.ensures ∙ quotient_test c.get-x.result c.get-p.result ∙ ap₂ div_in_range e c.get-p.ensures),
    )
