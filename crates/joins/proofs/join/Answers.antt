-- `joins::join` meets its contract. Assumes nothing.
use mathlib.Core.Path.{ap, ◌∙◌}
use Rattle.definitions.specs.Numbers.{◌⊘◌, 1·0}
use Rattle.rounding.proofs.Words.{zero_word, one_word}
use Rattle.rounding.proofs.ResultRange.{quotient_test}
use Rattle.tables.specs.RowMajor.{table}
use Rattle.tables.specs.Vectors.{vector}
use Rattle.tables.proofs.Vectors.{zero-vector}
use Rattle.compact.specs.Listing.{marked}
use Rattle.joins.specs.StageJoin.{knows}
use Rattle.joins.proofs.ColumnSteps.{joined-whole}
use Rattle.joins.proofs.join.Goals as goal

pub returns : goal.returns
returns c =
    let p = c.get-p.result in
    joined-whole c.args.n c.args.c (knows c.args.c (marked c.args.kept.now)) (λ l. table c.args.t.now l c.args.c) (table c.args.x.now) (vector c.args.a.now c.args.c) c.get-p.ensures (zero-vector 32 zero_word) c.factors-divisions.ensures c.fill_column-column.ensures c.clear.ensures (ap (λ x. x ⊘ p) one_word) c.put.ensures (c.result_in_range-first.ensures ∙ rw one_word (quotient_test 1·0 p))
