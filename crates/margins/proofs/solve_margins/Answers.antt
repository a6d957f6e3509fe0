-- `margins::solve_margins` meets its contract. Assumes nothing.
use mathlib.Core.Path.{refl}
use borrow.Author.Tests.{not-true, not-false}
use Rattle.rounding.proofs.Words.{zero_word}
use Rattle.tables.proofs.Vectors.{zero-vector}
use Rattle.margins.proofs.KeptStages.{kept_fails, margins_table}
use mathlib.Core.Path.{ap}
use mathlib.Core.Bool.{not}
use Rattle.margins.proofs.solve_margins.Goals as goal

pub fill-ratios-requires : goal.fill-ratios-requires
fill-ratios-requires c = (c.requires, record { long = refl; is = zero-vector 32 zero_word })

pub returns-then-not-solve_kept : goal.returns-then-not-solve_kept
returns-then-not-solve_kept c =
    kept_fails c.fill-ratios.ensures c.solve_kept.ensures (not-true c.solve_kept.result (ap not c.if-not-solve_kept.true))

pub returns : goal.returns
returns c =
    margins_table c.fill-ratios.ensures c.solve_kept.ensures (not-false c.solve_kept.result (ap not c.if-not-solve_kept.false)) c.join_stages-joined.ensures
