-- `saving::put_due` meets its contract: a row, or the weights, is the record that is due. Assumes nothing.
use Rattle.std.proofs.Common.{rules}
use Rattle.definitions.specs.Saving.{little_bytes, record_bytes, row_bytes, weight_bytes, bytes_due}
use Rattle.saving.proofs.FileBytes.{lengths}
use Rattle.saving.proofs.put_due.Goals as goal

pub put_record-requires : goal.put_record-requires
unfolding little_bytes record_bytes row_bytes weight_bytes bytes_due
put_record-requires g c = search (rules, lengths)

pub returns-then-n-due : goal.returns-then-n-due
unfolding little_bytes row_bytes weight_bytes bytes_due
returns-then-n-due g c = search rules

pub put_record-requires-2 : goal.put_record-requires-2
unfolding little_bytes record_bytes row_bytes weight_bytes bytes_due
put_record-requires-2 g c = search (rules, lengths)

pub returns : goal.returns
unfolding little_bytes row_bytes weight_bytes bytes_due
returns g c = search rules
