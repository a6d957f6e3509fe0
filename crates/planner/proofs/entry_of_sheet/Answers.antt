-- `planner::entry_of_sheet` meets its contract. Assumes nothing.
use Rattle.std.specs.Prelude.{Err}
use Rattle.std.proofs.Common.{rules}
use mathlib.Core.Path.{ap}
use native.Mathlib.Omega.{arith}
use Prim.Native.Nat.{◌≤◌}
use Rattle.rounding.proofs.Words.{zero_word}
use Rattle.tables.proofs.Vectors.{new_table}
use Rattle.shape.specs.Square.{WholeSheet}
use Rattle.shape.proofs.ShapeQuestions.{entry-input-passed}
use Rattle.planner.proofs.Endings.{entry_given_lem, entry_out_of_range}
use Rattle.planner.proofs.entry_of_sheet.Goals as goal
use Rattle.planner.proofs.entry_of_sheet.Goals.{Start}

-- What questions 1 to 9 leave.
stages : (s : goal.Start) → WholeSheet s.args.sheet.reading s.args.sheet.n s.args.sheet.numbers.now × ((1 ≤ s.args.i) × (s.args.i ≤ s.args.sheet.n)) × ((1 ≤ s.args.j) × (s.args.j ≤ s.args.sheet.n))
stages s = entry-input-passed s.args.sheet.reading s.args.sheet.n s.args.sheet.e s.args.sheet.numbers.now s.args.i s.args.j s.requires

pub overflow_sub-i : goal.overflow_sub-i
overflow_sub-i c = let p = stages (goal.at.overflow_sub-i c).Start in omega (arith, p.1, p.2)

pub overflow_sub-j : goal.overflow_sub-j
overflow_sub-j c = let p = stages (goal.at.overflow_sub-j c).Start in omega (arith, p.1, p.2)

pub get-requires : goal.get-requires
get-requires c =
    let p = stages (goal.at.get-requires c).Start in
    (omega (arith, p.0.few, p.1, p.2), omega (arith, p.0.few, p.1, p.2))

pub returns : goal.returns
returns c =
    entry_given_lem c.args.sheet.reading c.args.sheet.n c.args.sheet.e c.args.sheet.numbers.now c.args.i c.args.j c.requires (rw (c.new-whole.ensures.0, c.new-whole.ensures.1, c.new-whole.ensures.2) at c.steps.ensures) c.new-whole.ensures.3 (search rules) c.get.ensures

pub returns-then-not-steps : goal.returns-then-not-steps
returns-then-not-steps c =
    entry_out_of_range c.args.sheet.reading c.args.sheet.n c.args.sheet.e c.args.sheet.numbers.now c.args.i c.args.j c.requires (rw (c.new-whole.ensures.0, c.new-whole.ensures.1, c.new-whole.ensures.2) at c.steps.ensures) (ap (λ r. Err r) c.into.ensures) c.if-not-steps.true

pub steps-requires : goal.steps-requires
steps-requires c = new_table zero_word

pub new-whole-requires : goal.new-whole-requires
new-whole-requires c = (stages (goal.at.new-whole-requires c).Start).0
