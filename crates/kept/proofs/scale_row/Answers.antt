-- `kept::scale_row` meets its contract: at place q the places before it are done and tested. Assumes nothing.
use mathlib.Core.Path.{refl, ap, ap₂, ◌∙◌}
use mathlib.Core.Bool.{◌||◌}
use native.Mathlib.Omega.{arith}
use lib.Dec.{eqb}
use borrow.Author.Rules.{rules}
use Rattle.definitions.specs.Numbers.{◌⊗◌, mul_in_range}
use Rattle.rounding.proofs.ResultRange.{product_test}
use Rattle.steps.proofs.Gathering.{gathered_begins, gathered_turns, gathered_all}
use Rattle.tables.specs.Vectors.{vector}
use Rattle.tables.proofs.Loops.{along_begins, along_due, along_turns, along_ends}
use Rattle.kept.specs.Scaled.{times, sizes_in_range}
use Rattle.kept.proofs.scale_row.Goals as goal

pub loop-q-preserved : goal.loop-q-preserved
unfolding times
loop-q-preserved c =
    let h = c.loop-q.invariant.1 in
    let ex = c.get-x.ensures ∙ along_due h in
    let ey = c.get-y.ensures ∙ ap (vector c.args.k.now) c.stage-j.ensures in (
      omega arith,
      along_turns h c.put.ensures (ap₂ ◌⊗◌ ex ey),
      gathered_turns c.loop-q.invariant.2 (ap (λ b. eqb c.loop-q.q c.args.p || b) (c.result_in_range-step.ensures ∙ product_test c.get-x.result c.get-y.result ∙ ap₂ mul_in_range ex ey)),
    )

pub returns : goal.returns
unfolding sizes_in_range
returns c =
    let l = c.loop-q in
    record { range = gathered_all l.invariant.2 (omega arith) (omega arith); holds = along_ends l.invariant.1 (omega arith) (omega arith) }

pub loop-q-init : goal.loop-q-init
loop-q-init c = (search rules, along_begins refl c.told-s, gathered_begins refl)
