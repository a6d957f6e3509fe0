-- `readings::every_stage` meets its contract. Assumes nothing.
use Rattle.rounding.proofs.Words.{zero_word}
use Rattle.tables.proofs.Vectors.{zero-table}
use Rattle.loading.proofs.LoadedSheet.{rates_are}
use Rattle.readings.proofs.every_stage.Goals as goal

pub returns : goal.returns
returns c =
    rw (rates_are c.args.sheet.n c.args.sheet.numbers.now (zero-table 32 32 1024 zero_word) c.sizes.ensures c.rates.ensures) at c.solve.ensures
