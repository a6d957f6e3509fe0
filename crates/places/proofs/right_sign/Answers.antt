-- `places::right_sign` meets its contract. Assumes nothing.
use borrow.Author.Tests.{eq-eqb, ne_eqb}
use Rattle.rounding.proofs.Words.{zero_word}
use Rattle.places.specs.PlaceQuestions.{sign_at}
use Rattle.places.proofs.right_sign.Goals as goal

pub returns-then-i-n : goal.returns-then-i-n
unfolding sign_at
returns-then-i-n c = rw (eq-eqb c.args.i c.args.n c.if-i-n.true, zero_word)

pub returns-then-i-j : goal.returns-then-i-j
unfolding sign_at
returns-then-i-j c = rw (ne_eqb c.args.i c.args.n c.if-i-n.false, ne_eqb c.args.i c.args.j c.if-i-j.true, zero_word)

pub returns-then-reading-eq1 : goal.returns-then-reading-eq1
unfolding sign_at
returns-then-reading-eq1 c =
    rw (ne_eqb c.args.i c.args.n c.if-i-n.false, eq-eqb c.args.i c.args.j c.if-i-j.false, eq-eqb c.args.reading 1 c.if-reading-eq1.true, zero_word)

pub returns : goal.returns
unfolding sign_at
returns c =
    rw (ne_eqb c.args.i c.args.n c.if-i-n.false, eq-eqb c.args.i c.args.j c.if-i-j.false, ne_eqb c.args.reading 1 c.if-reading-eq1.false, zero_word)
