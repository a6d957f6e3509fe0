-- `turns::skipped` meets its contract. Assumes nothing.
use borrow.Author.Tests.{ne_eqb}
use Rattle.turns.specs.Turns.{skipped}
use Rattle.turns.proofs.skipped.Goals as goal

pub returns-then-this-ne0 : goal.returns-then-this-ne0
unfolding skipped
returns-then-this-ne0 g c = rw (ne_eqb g.row.FALLING 0 c.if-this-ne0.true)

pub returns : goal.returns
unfolding skipped
returns g c = rw c.if-this-ne0.false
