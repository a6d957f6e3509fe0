-- `ranges::row_quick` meets its contract: at column k the multipliers before it are tested. Assumes nothing.
use mathlib.Core.Path.{refl}
use native.Mathlib.Omega.{arith}
use borrow.Author.Count.{below_more}
use borrow.Author.Rules.{rules}
use Rattle.tables.specs.RowMajor.{table}
use Rattle.steps.proofs.Gathering.{gathered_begins, gathered_turns}
use Rattle.ranges.proofs.Multiples.{quick_at_lem}
use Rattle.ranges.proofs.row_quick.Goals as goal

pub loop-k-init : goal.loop-k-init
loop-k-init c = (search rules, gathered_begins refl, λ a l m. let z : ⊥ = omega arith in absurd z)

pub loop-k-preserved : goal.loop-k-preserved
loop-k-preserved c =
    (omega arith, gathered_turns c.loop-k.invariant.1 (quick_at_lem (table c.args.t.now c.args.i) c.loop-k.k c.get-m.ensures c.quick-step.ensures), below_more _ _ c.loop-k.invariant.2 (λ _. rw c.get-m.ensures at c.quick-step.ensures.held))
