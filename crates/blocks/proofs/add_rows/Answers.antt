-- `blocks::add_rows` meets its contract: after q turns q rows are added. Assumes nothing.
use Prim.Native.Nat.{◌<◌}
use native.Mathlib.Omega.{arith}
use borrow.Author.Rules.{rules}
use Rattle.blocks.proofs.Blocks.{adding_begins, adding_turns, adding_ends, nth-below}
use Rattle.blocks.proofs.add_rows.Given.{Over}
use Rattle.blocks.proofs.add_rows.Goals as goal
use Rattle.blocks.proofs.add_rows.Goals.{After-nth-k}

-- The row that is due.
row_below : (g : Over) (c : goal.After-nth-k g) → c.nth-k.result < 32
row_below g c =
    rw c.nth-k.ensures (nth-below c.args.first c.args.count _ c.requires.2 c.requires.3 c.loop-q.q (omega arith))

pub loop-q-init : goal.loop-q-init
loop-q-init g c = (search rules, adding_begins c.load-x.ensures)

pub get-m-requires : goal.get-m-requires
get-m-requires g c = (search rules, row_below g c)

pub add-x-requires : goal.add-x-requires
add-x-requires g c = (row_below g (goal.at.add-x-requires g c).After-nth-k, search rules)

pub loop-q-preserved : goal.loop-q-preserved
loop-q-preserved g c =
    (omega arith, adding_turns c.loop-q.invariant.1 c.nth-k.result c.nth-k.ensures c.get-m.ensures c.add-x.ensures)

pub returns : goal.returns
returns g c =
    c.store.ensures _ (adding_ends c.loop-q.invariant.1 (omega arith) (omega arith))
