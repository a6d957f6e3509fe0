-- `records::put_header` meets its contract: two texts in a row. Assumes nothing.
use Rattle.definitions.specs.Saving.{little_bytes}
use Rattle.buffer.proofs.Pasting.{written_next}
use Rattle.records.proofs.put_header.Goals as goal

pub returns : goal.returns
returns c =
    written_next (little_bytes 4 c.args.length) (little_bytes 2 c.args.kind) c.requires c.put_number.ensures c.put_number-2.ensures
