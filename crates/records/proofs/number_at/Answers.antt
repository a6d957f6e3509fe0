-- `records::number_at` meets its contract: the number of eight bytes, with zeros above those of the width. Assumes nothing.
use Rattle.std.proofs.Common.{rules, ◌≡◌, ◌-◌, ◌++◌, drop}
use Rattle.std.proofs.lemmas.List.{drop-replicate}
use Rattle.std.specs.Int.{from_le_bytes, w64}
use lib.ListN.{replicate, take}
use Rattle.definitions.specs.File.{little}
use Rattle.records.proofs.Little.{eight_bytes, zeros_above}
use Rattle.records.proofs.number_at.Goals as goal

pub returns : goal.returns
returns c =
    let width = c.args.width in
    let read = drop c.args.at c.args.bytes.now in
    let word : from_le_bytes w64 (take width read ++ drop width (replicate 8 0)) ≡ little width read =
    rw (eight_bytes, drop-replicate) (zeros_above width 8 (8 - width) read c.requires.0) in
    rw (← word) (search rules)
