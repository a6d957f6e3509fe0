-- `turns::first_done` meets its contract. Assumes nothing.
use borrow.Author.Tests.{ne_eqb}
use Rattle.turns.specs.Turns.{first_done}
use Rattle.turns.proofs.first_done.Goals as goal

pub returns-then-this-ne0 : goal.returns-then-this-ne0
unfolding first_done
returns-then-this-ne0 g c = rw (ne_eqb g.row.FALLING 0 c.if-this-ne0.true)

pub returns : goal.returns
unfolding first_done
returns g c = rw c.if-this-ne0.false
