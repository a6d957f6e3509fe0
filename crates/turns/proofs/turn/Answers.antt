-- `turns::turn` meets its contract. Assumes nothing.
use native.Mathlib.Omega.{arith}
use borrow.Author.Tests.{ne_eqb}
use Rattle.passes.specs.RowPass.{turn}
use Rattle.turns.proofs.turn.Goals as goal

pub returns-then-this-ne0 : goal.returns-then-this-ne0
unfolding turn
returns-then-this-ne0 g c = rw (ne_eqb g.row.FALLING 0 c.if-this-ne0.true) (omega arith)

pub returns : goal.returns
unfolding turn
returns g c = rw c.if-this-ne0.false
