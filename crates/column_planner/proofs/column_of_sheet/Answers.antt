-- `column_planner::column_of_sheet` meets its contract. Assumes nothing.
use Rattle.std.specs.Prelude.{Err}
use mathlib.Core.Path.{ap}
use native.Mathlib.Omega.{arith}
use lib.ListN.{length}
use Prim.Native.Nat.{◌≤◌}
use Rattle.rounding.proofs.Words.{zero_word}
use Rattle.tables.proofs.Vectors.{new_vector}
use Rattle.shape.specs.Square.{WholeSheet}
use Rattle.shape.proofs.ShapeQuestions.{column-input-passed}
use Rattle.column_planner.proofs.Endings.{column_given, column_out_of_range}
use Rattle.column_planner.proofs.column_of_sheet.Goals as goal
use Rattle.column_planner.proofs.column_of_sheet.Goals.{Start}

-- What questions 1 to 9 leave.
input : (s : goal.Start) → WholeSheet 1 s.args.sheet.n s.args.sheet.numbers.now × (s.args.sheet.n ≤ length s.args.answer.now) × ((1 ≤ s.args.stage) × (s.args.stage ≤ s.args.sheet.n))
input s = column-input-passed s.args.sheet.reading s.args.sheet.n s.args.sheet.e s.args.sheet.numbers.now (length s.args.answer.now) s.args.stage s.requires

pub overflow_sub-stage : goal.overflow_sub-stage
overflow_sub-stage c = let p = input (goal.at.overflow_sub-stage c).Start in omega (arith, p.2.0)

pub new-whole-requires : goal.new-whole-requires
new-whole-requires c = (input (goal.at.new-whole-requires c).Start).0

pub steps-requires : goal.steps-requires
steps-requires c = let p = input (goal.at.steps-requires c).Start in (omega (arith, p.2), new_vector zero_word)

pub write_column-requires : goal.write_column-requires
write_column-requires c =
    let p = input (goal.at.write_column-requires c).Start in
    (omega (arith, p.0.few), omega (arith, p.1))

pub allowance_of-requires : goal.allowance_of-requires
allowance_of-requires c = (input (goal.at.allowance_of-requires c).Start).0.few

pub returns : goal.returns
returns c =
    column_given c.args.sheet.reading c.args.sheet.n c.args.sheet.e c.args.sheet.numbers.now c.args.stage c.args.answer.now c.requires (rw (c.new-whole.ensures.1, c.new-whole.ensures.2) at c.steps.ensures) c.new-whole.ensures.3 c.if-not-steps.false c.write_column.ensures c.allowance_of.ensures

pub returns-then-not-steps : goal.returns-then-not-steps
returns-then-not-steps c =
    column_out_of_range c.args.sheet.reading c.args.sheet.n c.args.sheet.e c.args.sheet.numbers.now c.args.stage c.args.answer.now c.requires (rw (c.new-whole.ensures.1, c.new-whole.ensures.2) at c.steps.ensures) (ap (λ r. Err r) c.into.ensures) c.if-not-steps.true
