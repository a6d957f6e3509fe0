-- `columns::row_told` meets its contract. Assumes nothing.
use Prim.Native.Nat.{◌≤◌}
use native.Mathlib.Omega.{arith}
use Rattle.tables.specs.RowMajor.{table}
use Rattle.passes.specs.RowPass.{turn, reach}
use Rattle.ranges.proofs.PassTests.{staged_by_products, staged_by_bound}
use Rattle.turns.proofs.Turns.{flag, turn_below, reach-below, done_fits, done_from, done_to}
use Rattle.columns.proofs.row_told.Goals as goal

pub row_quick-requires : goal.row_quick-requires
row_quick-requires g c =
    let own = turn_below c.args.r c.requires.1 (flag g.row.FALLING) c.args.s c.requires.0 in
    let fits = done_fits c.args.r c.requires.1 (flag g.row.FALLING) c.args.s (omega arith) in
    (omega (arith, c.turn.ensures), omega arith, omega (arith, c.first_done-from.ensures))

pub returns-then-row_quick : goal.returns-then-row_quick
returns-then-row_quick g c =
    let r = c.args.r in
    let falling = (flag g.row.FALLING) in
    let l : c.args.s ≤ r = omega arith in
    staged_by_bound (turn r falling) (reach r falling) (table c.args.t.now) (table c.args.b.now) (turn r falling c.args.s) c.args.s r
    (λ q m. reach-below r c.requires.1 falling q (omega arith))
    (rw (c.turn.ensures, c.first_done-from.ensures) at c.row_quick.ensures)
    c.if-row_quick.true
    (λ q m. (done_from r c.requires.1 falling c.args.s q m l, done_to r c.requires.1 falling c.args.s q m l, c.requires.2 q m))

pub returns : goal.returns
returns g c =
    let r = c.args.r in
    let falling = (flag g.row.FALLING) in
    staged_by_products (turn r falling) (reach r falling) (table c.args.t.now) (table c.args.b.now) (turn r falling c.args.s) c.args.s r
    (λ q m. reach-below r c.requires.1 falling q (omega arith))
    c.products_told.ensures

pub overflow_add-from : goal.overflow_add-from
overflow_add-from g c = omega (arith, done_fits c.args.r c.requires.1 (flag g.row.FALLING) c.args.s (omega arith), c.first_done-from.ensures)
