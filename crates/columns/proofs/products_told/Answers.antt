-- `columns::products_told` meets its contract: at turn q the turns before it are tested. Assumes nothing.
use mathlib.Core.Path.{refl}
use Prim.Native.Nat.{◌<◌}
use native.Mathlib.Omega.{arith}
use borrow.Author.Rules.{rules}
use Rattle.tables.specs.RowMajor.{table}
use Rattle.steps.proofs.Gathering.{gathered_begins, gathered_turns}
use Rattle.ranges.proofs.Multiples.{products_at_lem}
use Rattle.turns.proofs.Turns.{flag, turn_below, reach-below}
use Rattle.columns.proofs.products_told.Given.{Over}
use Rattle.columns.proofs.products_told.Goals as goal
use Rattle.columns.proofs.products_told.Goals.{After-turn-i, After-turn-k}

-- The row of turn s, and the row that is due.
own_below : (g : Over) (c : goal.After-turn-i g) → c.turn-i.result < 32
own_below g c =
    let l = turn_below c.args.r c.requires.1 (flag g.row.FALLING) c.args.s c.requires.0 in
    omega (arith, c.turn-i.ensures)

due_below : (g : Over) (c : goal.After-turn-k g) → c.turn-k.result < 32
due_below g c =
    let m = turn_below c.args.r c.requires.1 (flag g.row.FALLING) c.loop-q.q (omega arith) in
    omega (arith, c.turn-k.ensures)

pub products_in_range-products-requires : goal.products_in_range-products-requires
products_in_range-products-requires g c =
    let w = reach-below c.args.r c.requires.1 (flag g.row.FALLING) c.loop-q.q (omega arith) in
    (due_below g (goal.at.products_in_range-products-requires g c).After-turn-k, omega arith, omega (arith, c.reach.ensures))

pub loop-q-preserved : goal.loop-q-preserved
loop-q-preserved g c =
    let k = c.turn-k.ensures in (
      omega arith,
      gathered_turns c.loop-q.invariant.1
          (rw (c.reach.ensures, k, c.turn-i.ensures) at (products_at_lem c.reach.result (table c.args.t.now c.turn-i.result) (table c.args.b.now) c.turn-k.result c.get-m.ensures c.products_in_range-products.ensures)),
    )

pub loop-q-init : goal.loop-q-init
loop-q-init g c = (search rules, gathered_begins refl)

pub get-m-requires : goal.get-m-requires
get-m-requires g c = (own_below g (goal.at.get-m-requires g c).After-turn-i, due_below g c)
