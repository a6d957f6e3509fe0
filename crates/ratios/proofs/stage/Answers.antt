-- `ratios::stage` meets its contract. Assumes nothing.
use mathlib.Core.Path.{◌∙◌}
use native.Mathlib.Omega.{arith}
use Rattle.rounding.proofs.ResultRange.{quotient_test}
use Rattle.definitions.specs.Numbers.{◌⊕◌}
use Rattle.ratios.proofs.RatioLaws.{stage_done_lem}
use Rattle.ratios.proofs.stage.Goals as goal

pub returns : goal.returns
returns c =
    stage_done_lem _ _ _ c.requires.2 c.requires.0 c.dot-before.ensures c.sum_after-sum.ensures c.get-margin.ensures c.put.ensures c.put-2.ensures c.is_finite-finite.ensures (c.result_in_range-quotient.ensures ∙ quotient_test c.sum_after-sum.result (c.get-margin.result ⊕ c.sum_after-sum.result)) (omega arith)
