-- `stage::eliminate_pair` meets its contract. Assumes nothing.
use native.Mathlib.Omega.{arith}
use Rattle.tables.specs.RowMajor.{table}
use Rattle.passes.specs.Weights.{weights_in}
use Rattle.stage.proofs.StageSteps.{pair_eliminated, pair_last}
use Rattle.stage.proofs.eliminate_pair.Goals as goal

pub returns-then-k-r : goal.returns-then-k-r
returns-then-k-r c =
    pair_last (weights_in c.args.weights.now) c.args.r c.args.k (table c.args.t.now) c.requires.0 c.begin-first.ensures c.begin_next.ensures
    (omega arith) c.put.ensures c.last-told.ensures

pub returns : goal.returns
returns c =
    pair_eliminated (weights_in c.args.weights.now) c.args.r c.args.k (table c.args.t.now) c.requires.0 c.begin-first.ensures c.begin_next.ensures
    c.begin-second.ensures c.eliminate_pair.ensures c.put-2.ensures c.put-3.ensures
