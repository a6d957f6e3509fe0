-- `readings::live_stages` meets its contract. Assumes nothing.
use native.Mathlib.Omega.{arith}
use borrow.Author.Tests.{not-true, not-false}
use Rattle.rounding.proofs.Words.{zero_word}
use Rattle.tables.specs.RowMajor.{table}
use Rattle.tables.proofs.Vectors.{new_table}
use Rattle.passes.specs.Weights.{weights_in}
use Rattle.readings.proofs.SheetSteps.{live_fails, live_stepped}
use mathlib.Core.Path.{ap}
use mathlib.Core.Bool.{not}
use Rattle.readings.proofs.live_stages.Goals as goal

pub solve-requires : goal.solve-requires
solve-requires c =
    (c.pack-stages.result.few, λ l. absurd (omega arith), new_table zero_word)

pub returns-then-not-solve : goal.returns-then-not-solve
unfolding weights_in
returns-then-not-solve c =
    live_fails c.pack-stages.ensures c.solve.ensures (not-true c.solve.result (ap not c.if-not-solve.true)) c.requires.long

pub returns : goal.returns
unfolding weights_in
returns c =
    live_stepped c.pack-stages.ensures c.solve.ensures (not-false c.solve.result (ap not c.if-not-solve.false)) (table c.args.x.now) c.requires.is c.unpack.ensures
