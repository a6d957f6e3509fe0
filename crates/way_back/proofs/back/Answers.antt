-- `way_back::back` meets its contract: at place p the rows before it are done and tested. Assumes nothing.
use mathlib.Core.Path.{refl, ap, ap₂, ◌∙◌}
use native.Mathlib.Nat.{le_refl}
use native.Mathlib.Omega.{arith}
use borrow.Author.Rules.{rules}
use Rattle.definitions.specs.Numbers.{all}
use Rattle.steps.proofs.Gathering.{gathered_begins, gathered_turns}
use Rattle.tables.specs.RowMajor.{table}
use Rattle.tables.specs.Operators.{between, span}
use Rattle.tables.specs.Rows.{times_in_range}
use Rattle.tables.specs.Vectors.{vector}
use Rattle.tables.proofs.Loops.{down_begins, down_due, down_turns}
use Rattle.way_back.specs.WayBack.{multiple}
use Rattle.way_back.proofs.back.Goals as goal

pub loop-p-preserved : goal.loop-p-preserved
unfolding span
loop-p-preserved c =
    let p = c.loop-p.p in
    let own = down_due c.loop-p.invariant.1 p (le_refl p) in
    let m = c.get-m.ensures ∙ ap (vector c.args.k.now) c.stage-i.ensures in (
      omega arith,
      down_turns c.loop-p.invariant.1 {row = between 0 c.args.stages.now.count (multiple c.get-m.result (table c.loop-p.y p)) (table c.loop-p.y p)} c.multiply-row.ensures.holds (ap₂ (λ x row. between 0 c.args.stages.now.count (multiple x row) row) m own),
      gathered_turns c.loop-p.invariant.2 (c.multiply-row.ensures.range ∙ ap₂ (λ x row. all (times_in_range x row) 0 c.args.stages.now.count) m own),
    )

pub loop-p-init : goal.loop-p-init
loop-p-init c = (search rules, down_begins refl c.told-y, gathered_begins refl)
