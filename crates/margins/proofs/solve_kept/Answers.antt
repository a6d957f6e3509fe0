-- `margins::solve_kept` meets its contract. Assumes nothing.
use native.Mathlib.Omega.{arith}
use borrow.Author.Tests.{not-true, not-false}
use Rattle.rounding.proofs.Words.{zero_word}
use Rattle.tables.specs.RowMajor.{table}
use Rattle.tables.proofs.Vectors.{new_table}
use Rattle.passes.specs.Weights.{weights_in}
use Rattle.margins.proofs.KeptStages.{engine_fails, kept_table}
use mathlib.Core.Path.{ap}
use mathlib.Core.Bool.{not}
use Rattle.margins.proofs.solve_kept.Goals as goal

pub solve-requires : goal.solve-requires
solve-requires c =
    (c.list.new.self.few, λ l. absurd (omega arith), new_table zero_word)

pub returns-then-not-solve : goal.returns-then-not-solve
unfolding weights_in
returns-then-not-solve c =
    engine_fails c.requires.1 c.list.ensures c.system-scaled.ensures c.solve.ensures (not-true c.solve.result (ap not c.if-not-solve.true)) c.told-x

pub returns : goal.returns
unfolding weights_in
returns c =
    kept_table c.requires.1 c.list.ensures c.system-scaled.ensures c.solve.ensures (not-false c.solve.result (ap not c.if-not-solve.false)) c.back-back.ensures (table c.args.x.now) c.unpack.ensures
