-- `downward::stages` meets its contract: at turn pair the stages of the pairs before it are done. Assumes nothing.
use mathlib.Core.Path.{◌≡◌}
use Prim.Native.Nat.{◌+◌, ◌*◌, ◌-◌}
use native.Mathlib.Omega.{arith}
use borrow.Author.Rules.{rules}
use Rattle.passes.specs.Weights.{weights_in}
use Rattle.passes.proofs.FiniteStages.{stages_begin, stages-turn, pair_turn, stages_end}
use Rattle.downward.proofs.stages.Goals as goal

pub loop-pair-init : goal.loop-pair-init
loop-pair-init c = (search rules, stages_begin (weights_in c.args.weights.now) c.args.r c.told-t)

pub loop-pair-preserved : goal.loop-pair-preserved
loop-pair-preserved c =
    let next : 2 * c.loop-pair.pair + 2 ≡ 2 * (c.loop-pair.pair + 1) = omega arith in
    (omega arith, rw next at (pair_turn c.loop-pair.invariant.1 c.eliminate_pair-told.ensures))

pub returns-then-r-eq0 : goal.returns-then-r-eq0
returns-then-r-eq0 c = stages_end c.loop-pair.invariant.1 (omega arith) (omega arith)

pub returns : goal.returns
returns c =
    let last : 2 * c.loop-pair.pair ≡ c.args.r - 1 = omega arith in
    stages_end (stages-turn (rw last at c.loop-pair.invariant.1) c.last-told.ensures) (omega arith) (omega arith)
