-- `kept::system_rows` meets its contract: at place p the rows before it are done and tested. Assumes nothing.
use mathlib.Core.Path.{refl, ap, ◌∙◌}
use native.Mathlib.Nat.{le_refl}
use native.Mathlib.Omega.{arith}
use borrow.Author.Rules.{rules}
use Rattle.steps.proofs.Gathering.{gathered_begins, gathered_turns}
use Rattle.tables.specs.RowMajor.{table}
use Rattle.tables.specs.Vectors.{vector}
use Rattle.tables.proofs.Loops.{down_begins, down_due, down_turns}
use Rattle.kept.specs.Scaled.{scaled_row, scaled_row_in_range}
use Rattle.kept.proofs.system_rows.Goals as goal

pub loop-p-preserved : goal.loop-p-preserved
loop-p-preserved c =
    let p = c.loop-p.p in
    let own = down_due c.loop-p.invariant.1 p (le_refl p) in (
      omega arith,
      down_turns c.loop-p.invariant.1 c.system_row-row.ensures.holds (ap (scaled_row c.args.n c.args.stages.now.count c.args.stages.now.places (table c.args.t.now) (vector c.args.k.now) (vector c.args.w.now) p) own),
      gathered_turns c.loop-p.invariant.2 (c.system_row-row.ensures.range ∙ ap (scaled_row_in_range c.args.n c.args.stages.now.count c.args.stages.now.places (table c.args.t.now) (vector c.args.k.now) (vector c.args.w.now) p) own),
    )

pub loop-p-init : goal.loop-p-init
loop-p-init c = (search rules, down_begins refl c.told-s, gathered_begins refl)
