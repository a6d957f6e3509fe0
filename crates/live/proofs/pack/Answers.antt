-- `live::pack` meets its contract. Assumes nothing.
use Rattle.rounding.proofs.Words.{zero_word}
use Rattle.tables.proofs.Vectors.{zero-table}
use Rattle.live.proofs.LiveSteps.{live-packed}
use Rattle.live.proofs.pack.Goals as goal

pub returns : goal.returns
returns c =
    live-packed c.args.sheet.n c.args.sheet.numbers.now c.live_stages.ensures c.list.ensures (zero-table 32 32 1024 zero_word) c.sizes.ensures c.rates.ensures c.pack.ensures
