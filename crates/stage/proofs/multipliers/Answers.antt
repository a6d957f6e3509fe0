-- `stage::multipliers` meets its contract: at row i the rows before it are done and told. Assumes nothing.
use native.Mathlib.Numerals.{add-one}
use native.Mathlib.Omega.{arith}
use borrow.Author.Rules.{rules}
use Rattle.tables.proofs.Loops.{down_begins, down_else, down_ends}
use Rattle.passes.specs.Stages.{multiplied_rows}
use Rattle.passes.proofs.Told.{told_begins, told_turns, told_ends}
use Rattle.stage.proofs.StageSteps.{row_told, multiplied_turns}
use Rattle.stage.proofs.multipliers.Goals as goal

pub row_told-told-requires : goal.row_told-told-requires
row_told-told-requires c =
    let h = c.loop-i.invariant.1 in
    let p = c.requires in
    (h.from, c.loop-i-test.true, p.1, rw c.get.ensures, rw (down_else h c.args.k (λ c m. omega arith)) p.2)

pub loop-i-preserved : goal.loop-i-preserved
loop-i-preserved c =
    let p = c.args.stage.p in
    let h = c.loop-i.invariant.1 in (
      omega arith,
      multiplied_turns p h c.put.ensures (rw c.get.ensures),
      λ f a. told_turns (c.loop-i.invariant.2 f a) (row_told p h c.args.r f c.loop-i-test.true a c.row_told-told.ensures),
    )

pub returns : goal.returns
unfolding multiplied_rows
returns c =
    let v = c.loop-i.invariant in
    (λ g a. told_ends (v.2 g a) (omega arith) (omega arith), down_ends v.1 (omega arith) (omega arith))

pub loop-i-init : goal.loop-i-init
loop-i-init c = (search rules, down_begins (add-one c.args.k) c.told-t, λ g a. told_begins (add-one c.args.k))
