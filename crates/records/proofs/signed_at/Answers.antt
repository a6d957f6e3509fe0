-- `records::signed_at` meets its contract. Assumes nothing.
use Rattle.std.proofs.Common.{rules}
use Rattle.records.proofs.Little.{two_bytes}
use Rattle.records.proofs.Signed.{two_complement}
use Rattle.records.proofs.signed_at.Goals as goal

pub returns : goal.returns
returns c = rw (two_bytes, ← two_complement) (search rules)
