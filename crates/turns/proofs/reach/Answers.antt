-- `turns::reach` meets its contract. Assumes nothing.
use native.Mathlib.Omega.{arith}
use borrow.Author.Tests.{ne_eqb}
use Rattle.passes.specs.RowPass.{reach}
use Rattle.turns.proofs.reach.Goals as goal

pub returns-then-this-ne0 : goal.returns-then-this-ne0
unfolding reach
returns-then-this-ne0 g c = rw (ne_eqb g.row.FALLING 0 c.if-this-ne0.true)

pub returns : goal.returns
unfolding reach
returns g c = rw c.if-this-ne0.false (omega arith)
