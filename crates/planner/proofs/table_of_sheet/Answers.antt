-- `planner::table_of_sheet` meets its contract. Assumes nothing.
use Rattle.std.specs.Prelude.{Err}
use mathlib.Core.Path.{ap}
use native.Mathlib.Omega.{arith}
use borrow.Author.Rules.{rules}
use lib.ListN.{length}
use Prim.Native.Nat.{◌*◌, ◌≤◌}
use Rattle.rounding.proofs.Words.{zero_word}
use Rattle.tables.proofs.Vectors.{new_table}
use Rattle.shape.specs.Square.{WholeSheet}
use Rattle.shape.proofs.ShapeQuestions.{table-input-passed}
use Rattle.planner.proofs.Endings.{table_given, table_out_of_range}
use Rattle.planner.proofs.table_of_sheet.Goals as goal
use Rattle.planner.proofs.table_of_sheet.Goals.{Start}

-- What questions 1 to 9 leave.
input : (s : goal.Start) → WholeSheet s.args.sheet.reading s.args.sheet.n s.args.sheet.numbers.now × (s.args.sheet.n * s.args.sheet.n ≤ length s.args.answer.now)
input s = table-input-passed s.args.sheet.reading s.args.sheet.n s.args.sheet.e s.args.sheet.numbers.now (length s.args.answer.now) s.requires

pub write-requires : goal.write-requires
write-requires c =
    let p = input (goal.at.write-requires c).Start in
    (omega (arith, p.0.few), omega (arith, p.1))

pub allowance_of-requires : goal.allowance_of-requires
allowance_of-requires c = (input (goal.at.allowance_of-requires c).Start).0.few

pub returns : goal.returns
returns c =
    table_given c.args.sheet.reading c.args.sheet.n c.args.sheet.e c.args.sheet.numbers.now c.args.answer.now c.requires (rw (c.new-whole.ensures.0, c.new-whole.ensures.1, c.new-whole.ensures.2) at c.steps-told.ensures) c.new-whole.ensures.3 (search rules) c.write.ensures c.allowance_of.ensures

pub returns-then-not-told : goal.returns-then-not-told
returns-then-not-told c =
    table_out_of_range c.args.sheet.reading c.args.sheet.n c.args.sheet.e c.args.sheet.numbers.now c.args.answer.now c.requires (rw (c.new-whole.ensures.0, c.new-whole.ensures.1, c.new-whole.ensures.2) at c.steps-told.ensures) (ap (λ r. Err r) c.into.ensures) (search rules)

pub steps-told-requires : goal.steps-told-requires
steps-told-requires c = new_table zero_word

pub new-whole-requires : goal.new-whole-requires
new-whole-requires c = (input (goal.at.new-whole-requires c).Start).0
