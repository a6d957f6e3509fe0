-- `pivots::begin` meets its contract. Assumes nothing.
use mathlib.Core.Path.{◌∙◌}
use native.Mathlib.Omega.{arith}
use Rattle.rounding.proofs.ResultRange.{quotient_test}
use Rattle.tables.specs.RowMajor.{table}
use Rattle.pivots.proofs.Pivots.{plain_begun, weighed-begun}
use Rattle.pivots.proofs.begin.Goals as goal

pub returns-then-weights-eq0 : goal.returns-then-weights-eq0
returns-then-weights-eq0 c =
    plain_begun c.args.r c.args.k (table c.args.t.now) c.get-s.ensures c.args.weights.now (omega arith) c.later_sizes.ensures c.is_finite-ok.ensures

pub returns : goal.returns
returns c =
    weighed-begun c.args.r c.args.k (table c.args.t.now) c.get-s.ensures c.args.weights.now (omega arith) c.later_products-sum.ensures.0 c.later_products-sum.ensures.1
    (c.result_in_range-step.ensures ∙ quotient_test _ _)
