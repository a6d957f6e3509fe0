-- `price_planner::prices_of_sheet` meets its contract. Assumes nothing.
use Rattle.std.specs.Prelude.{Err}
use Rattle.std.proofs.Common.{rules}
use mathlib.Core.Path.{ap, sym, ◌≡◌, ◌∙◌}
use native.Mathlib.Omega.{arith}
use lib.ListN.{length}
use Prim.Native.Nat.{◌≤◌}
use Rattle.shape.specs.Square.{WholeSheet}
use Rattle.shape.proofs.ShapeQuestions.{price_input-passed}
use Rattle.steps.proofs.QuestionLaws.{then_first}
use Rattle.definitions.specs.Prices.{question19, price_input}
use Rattle.definitions.specs.Accuracy.{Binary64}
use Rattle.price_planner.proofs.Endings.{prices_given, prices_out_of_range}
use Rattle.price_planner.proofs.prices_of_sheet.Goals as goal
use Rattle.price_planner.proofs.prices_of_sheet.Goals.{Start}

-- What the questions before 19 leave.
input : (s : goal.Start) → WholeSheet s.args.sheet.reading s.args.sheet.n s.args.sheet.numbers.now × (s.args.sheet.n ≤ length s.args.answer.now) × (length s.args.prices.now ≡ s.args.sheet.n)
input s =
    let given = s.args.prices.now in
    let room = length s.args.answer.now in
    price_input-passed s.args.sheet.reading s.args.sheet.n s.args.sheet.e s.args.sheet.numbers.now (length given) room
    (then_first (price_input s.args.sheet.reading s.args.sheet.n s.args.sheet.e s.args.sheet.numbers.now (length given) room) (question19 s.args.sheet.n given) s.requires)

pub steps-requires : goal.steps-requires
steps-requires c = (input (goal.at.steps-requires c).Start).2 ∙ sym c.new-whole.ensures.1

pub new-whole-requires : goal.new-whole-requires
new-whole-requires c = (input (goal.at.new-whole-requires c).Start).0

pub write_column-requires : goal.write_column-requires
write_column-requires c =
    let p = input (goal.at.write_column-requires c).Start in
    (omega (arith, p.0.few), omega (arith, p.1))

pub allowance_of_prices-requires : goal.allowance_of_prices-requires
allowance_of_prices-requires c = (input (goal.at.allowance_of_prices-requires c).Start).0.few

pub returns : goal.returns
unfolding Binary64
returns c =
    prices_given c.args.sheet.reading c.args.sheet.n c.args.sheet.e c.args.sheet.numbers.now c.args.prices.now c.args.answer.now c.requires (rw (c.new-whole.ensures.0, c.new-whole.ensures.1, c.new-whole.ensures.2) at c.steps.ensures)
    c.new-whole.ensures.3 (search rules) c.if-not-steps.false c.write_column.ensures c.allowance_of_prices.ensures

pub returns-then-not-steps : goal.returns-then-not-steps
returns-then-not-steps c =
    prices_out_of_range c.args.sheet.reading c.args.sheet.n c.args.sheet.e c.args.sheet.numbers.now c.args.prices.now c.args.answer.now c.requires (rw (c.new-whole.ensures.0, c.new-whole.ensures.1, c.new-whole.ensures.2) at c.steps.ensures) (ap (λ r. Err r) c.into.ensures) c.if-not-steps.true
