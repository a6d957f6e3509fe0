-- `downward::pivots` meets its contract: at stage k the places before it are filled. Assumes nothing.
use mathlib.Core.Path.{refl}
use native.Mathlib.Omega.{arith}
use borrow.Author.Rules.{rules}
use Rattle.downward.specs.Downward.{on_diagonal}
use Rattle.tables.proofs.Vectors.{vector_begins, vector_turns}
use Rattle.downward.proofs.pivots.Goals as goal

pub loop-k-init : goal.loop-k-init
loop-k-init c = (search rules, vector_begins refl c.told-p)

pub loop-k-preserved : goal.loop-k-preserved
unfolding on_diagonal
loop-k-preserved c =
    (omega arith, vector_turns c.loop-k.invariant.1 c.put.ensures c.get-x.ensures)
