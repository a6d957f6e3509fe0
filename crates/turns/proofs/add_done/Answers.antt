-- `turns::add_done` meets its contract: the blocks before the one that is due are done. Assumes nothing.
use mathlib.Core.Path.{refl}
use Prim.Native.Nat.{◌≤◌, ◌<◌, ◌*◌}
use native.Mathlib.Omega.{arith}
use Rattle.passes.specs.RowPass.{reach}
use Rattle.turns.proofs.Turns.{flag, turn_below, reach-below, skipped-below, skipped_reaches, blocks_turn, blocks_end}
use Rattle.turns.proofs.add_done.Given.{Over}
use Rattle.turns.proofs.add_done.Goals as goal
use Rattle.turns.proofs.add_done.Goals.{After-reach-width, After-skipped-from, After-turn-i, In-loop-block}

own_below : (g : Over) (c : goal.After-turn-i g) → c.turn-i.result < 32
own_below g c =
    let l = turn_below c.args.r c.requires.1 (flag g.row.FALLING) c.args.s c.requires.0 in
    omega (arith, c.turn-i.ensures)

wide_enough : (g : Over) (c : goal.After-reach-width g) → c.reach-width.result ≤ 32
wide_enough g c =
    let l = reach-below c.args.r c.requires.1 (flag g.row.FALLING) c.args.s c.requires.0 in
    omega (arith, c.reach-width.ensures)

-- The block that is due begins before the last column that is reached.
begins : (g : Over) (c : goal.In-loop-block g) → 8 * c.loop-block.block < reach c.args.r (flag g.row.FALLING) c.args.s
begins g c = omega (arith, c.reach-width.ensures)

module _ (g : Over) (c : goal.After-skipped-from g) where
  within : c.skipped-from.result ≤ c.args.s
  within =
      rw c.skipped-from.ensures (skipped-below c.args.r c.requires.1 (flag g.row.FALLING) c.args.s (8 * c.loop-block.block) c.requires.0 (omega (arith, c.reach-width.ensures)))

pub add_rows-requires : goal.add_rows-requires
add_rows-requires g c =
    let fits = wide_enough g (goal.at.add_rows-requires g c).After-reach-width in
    let below = turn_below c.args.r c.requires.1 (flag g.row.FALLING) c.skipped-from.result (let w = within g (goal.at.add_rows-requires g c).After-skipped-from in omega (arith, c.requires.0)) in (
      own_below g (goal.at.add_rows-requires g c).After-turn-i,
      omega (arith, c.loop-block-test.true),
      omega (arith, c.turn-first.ensures, c.requires.1),
      rw (c.turn-first.ensures, c.skipped-from.ensures) (skipped_reaches c.args.r c.requires.1 (flag g.row.FALLING) c.args.s (8 * c.loop-block.block) c.requires.0 (begins g (goal.at.add_rows-requires g c).In-loop-block)),
    )

pub loop-block-preserved : goal.loop-block-preserved
loop-block-preserved g c = (
  omega (arith, c.loop-block-test.true),
  blocks_turn c.loop-block.invariant.1 c.requires.1 c.requires.0 c.requires.2
      (rw (← c.skipped-from.ensures) (within g (goal.at.loop-block-preserved g c).After-skipped-from))
      (rw (c.turn-first.ensures, c.skipped-from.ensures, c.turn-i.ensures) at c.add_rows.ensures)
      (omega arith),
)

pub returns : goal.returns
returns g c =
    blocks_end c.loop-block.invariant.1 c.requires.1 c.requires.0 c.requires.2 (omega (arith, c.reach-width.ensures)) c.args.b.now refl

pub overflow_add-block-end : goal.overflow_add-block-end
overflow_add-block-end g c = omega (arith, wide_enough g c)

pub turn-first-requires : goal.turn-first-requires
turn-first-requires g c = (omega (arith, within g (goal.at.turn-first-requires g c).After-skipped-from, c.requires.0), c.requires.1)

pub overflow_sub-s : goal.overflow_sub-s
overflow_sub-s g c = within g (goal.at.overflow_sub-s g c).After-skipped-from
