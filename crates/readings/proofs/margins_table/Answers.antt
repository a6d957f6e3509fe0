-- `readings::margins_table` meets its contract. Assumes nothing.
use Rattle.rounding.proofs.Words.{zero_word}
use Rattle.tables.proofs.Vectors.{zero-vector, zero-table}
use Rattle.readings.proofs.SheetSteps.{second_stepped}
use Rattle.readings.proofs.margins_table.Goals as goal

pub returns : goal.returns
returns c =
    second_stepped c.args.sheet.n c.args.sheet.numbers.now (zero-table 32 32 1024 zero_word) c.sizes.ensures (zero-vector 32 zero_word) c.margins.ensures c.solve_margins.ensures
