-- `joins::column_sum` meets its contract: at stage l the known stages before it are added and tested. Assumes nothing.
use mathlib.Core.Path.{sym, ap₂, ◌∙◌}
use native.Mathlib.Omega.{arith}
use borrow.Author.Rules.{rules}
use Rattle.definitions.specs.Numbers.{◌⊗◌, mul_in_range}
use Rattle.rounding.proofs.ResultRange.{product_test}
use Rattle.rounding.proofs.Words.{zero_word}
use Rattle.joins.proofs.ColumnSteps.{known-none, known_adds, known_skips}
use Rattle.joins.proofs.column_sum.Goals as goal
use Rattle.joins.proofs.column_sum.Goals.{then-is_known, else-is_known}

pub loop-l-preserved : goal.loop-l-preserved
loop-l-preserved c =
    let h = c.loop-l.invariant.1 in (
      omega arith,
      elim c.if-is_known.branch [
        | then-is_known v ↦ rw (v.sum-is, v.ok-is) (known_adds h (sym c.is_known.ensures ∙ v.if-is_known.true) (ap₂ ◌⊗◌ v.get-y.ensures v.get-z.ensures) (v.result_in_range-step.ensures ∙ product_test v.get-y.result v.get-z.result ∙ ap₂ mul_in_range v.get-y.ensures v.get-z.ensures))
        | else-is_known v ↦ rw (v.sum-is, v.ok-is) (known_skips h (sym c.is_known.ensures ∙ v.if-is_known.false))
      ],
    )

pub loop-l-init : goal.loop-l-init
loop-l-init c = (search rules, known-none zero_word)
