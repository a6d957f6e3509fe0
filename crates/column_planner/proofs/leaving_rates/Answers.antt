-- `column_planner::leaving_rates` meets its contract. Assumes nothing.
use Rattle.rounding.proofs.Words.{zero_word}
use Rattle.tables.proofs.Vectors.{zero-table}
use Rattle.column_planner.proofs.Endings.{column_stepped}
use Rattle.column_planner.proofs.leaving_rates.Goals as goal

pub returns : goal.returns
returns c =
    column_stepped c.args.sheet.n c.args.j c.args.sheet.numbers.now c.requires.0 c.requires.1 (zero-table 32 32 1024 zero_word) c.sizes.ensures c.rates.ensures c.solve.ensures
