-- `file_questions::is_good_record` meets its contract: at each `return` the numbers read so far decide question 13. Assumes nothing.
use native.Mathlib.Omega.{arith}
use mathlib.Core.Path.{◌≡◌}
use lib.ListN.{drop}
use Rattle.definitions.specs.File.{record_length}
use Rattle.file_questions.proofs.HeadAndRecords.{weights_tested, not-a-row, row-size, row_tested}
use mathlib.Core.Path.{ap}
use mathlib.Core.Bool.{not}
use Rattle.file_questions.proofs.is_good_record.Goals as goal
use Rattle.file_questions.proofs.is_good_record.Goals.{After-field_at-size}

size : (c : goal.After-field_at-size) → c.field_at-size.result ≡ record_length (drop c.args.at c.args.bytes.now)
unfolding record_length
size c = c.field_at-size.ensures

pub returns-then-n-due : goal.returns-then-n-due
returns-then-n-due c =
    weights_tested c.args.bytes.now c.args.at c.args.n c.args.due _ _ c.field_at-kind.ensures (size (goal.at.returns-then-n-due c).After-field_at-size) c.if-n-due.true

pub returns-then-not-kind-size : goal.returns-then-not-kind-size
returns-then-not-kind-size c =
    not-a-row c.args.bytes.now c.args.at c.args.n c.args.due _ _ c.field_at-kind.ensures (size (goal.at.returns-then-not-kind-size c).After-field_at-size) c.if-n-due.false (ap not c.if-not-kind-size.true)

pub field_at-number-requires : goal.field_at-number-requires
field_at-number-requires c =
    omega (arith, row-size c.args.bytes.now c.args.at c.args.n c.args.due _ _ c.field_at-kind.ensures (size (goal.at.field_at-number-requires c).After-field_at-size) c.if-n-due.false (ap not c.if-not-kind-size.false))

pub returns : goal.returns
returns c =
    row_tested c.args.bytes.now c.args.at c.args.n c.args.due _ _ c.field_at-kind.ensures (size (goal.at.returns c).After-field_at-size) c.if-n-due.false (ap not c.if-not-kind-size.false) c.field_at-number.result c.field_at-number.ensures
