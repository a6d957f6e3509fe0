-- `columns::pass` meets its contract: before turn s the rows of the turns before it are done and told. Assumes nothing.
use mathlib.Core.Path.{refl}
use Prim.Native.Nat.{◌<◌, ◌-◌}
use native.Mathlib.Omega.{arith}
use borrow.Author.Rules.{rules}
use lib.Ieee.{of_bits}
use Rattle.tables.specs.RowMajor.{table}
use Rattle.bounds.proofs.Bounds.{bound-one}
use Rattle.passes.proofs.Told.{told_turns}
use Rattle.turns.proofs.Turns.{flag, turn_below, reach-below}
use Rattle.columns.proofs.Passing.{passing_begins, told_begins_pass, all_covered, turn_told, turn_done, passing_skips, passing_ends}
use Rattle.columns.proofs.pass.Goals as goal

pub loop-s-init : goal.loop-s-init
unfolding of_bits
loop-s-init g c =
    let t = table c.args.t.now in
    let b = table c.args.b.now in
    (omega arith, λ l. omega arith, passing_begins c.args.r (flag g.row.FALLING) t b 1 refl refl c.told-b bound-one, told_begins_pass c.args.r (flag g.row.FALLING) t b 1 refl)

pub least-lo-requires : goal.least-lo-requires
unfolding of_bits
least-lo-requires g c =
    let below = turn_below c.args.r c.requires.0 (flag g.row.FALLING) (c.loop-s.s - 1) (omega arith) in
    let fits = reach-below c.args.r c.requires.0 (flag g.row.FALLING) (c.loop-s.s - 1) (omega arith) in
    (omega (arith, c.turn.ensures), omega arith, omega (arith, c.reach.ensures), search (rules, bound-one))

-- The bound made lower for the row that was done last.
pub row_told-told-requires : goal.row_told-told-requires
row_told-told-requires g c =
    let p = c.loop-s.s - 1 in (
      omega arith,
      c.requires.0,
      all_covered c.args.r (flag g.row.FALLING) (table c.args.t.now) (table c.args.b.now) c.requires.0 c.loop-s.invariant.2 p (omega arith)
          (rw (c.turn.ensures, c.reach.ensures) at c.least-lo.ensures),
    )

pub add_done-requires : goal.add_done-requires
add_done-requires g c =
    let n : c.loop-s.s < c.args.r = omega arith in
    (n, c.requires.0, passing_skips c.args.r c.requires.0 (flag g.row.FALLING) (table c.args.t.now) (table c.args.b.now) c.loop-s.invariant.2 n c.requires.1)

pub loop-s-preserved : goal.loop-s-preserved
loop-s-preserved g c =
    let t = table c.args.t.now in
    let b = table c.args.b.now in
    let h = c.loop-s.invariant.2 in
    let n : c.loop-s.s < c.args.r = omega arith in
    let least = rw (c.turn.ensures, c.reach.ensures) at c.least-lo.ensures in (
      omega arith,
      λ m. omega arith,
      turn_done c.args.r (flag g.row.FALLING) t b c.requires.0 h n c.add_done.ensures (all_covered c.args.r (flag g.row.FALLING) t b c.requires.0 h (c.loop-s.s - 1) (omega arith) least) least.covering.bound,
      told_turns c.loop-s.invariant.3 (turn_told c.args.r (flag g.row.FALLING) t b c.requires.0 h n c.row_told-told.ensures),
    )

pub returns : goal.returns
returns g c =
    let v = c.loop-s.invariant in
    passing_ends c.args.r (flag g.row.FALLING) (table c.args.t.now) (table c.args.b.now) v.2 v.3 (omega arith) v.1
