-- `buffer::Writer::put_byte` meets its contract: one store pastes one byte. Assumes nothing.
use borrow.Author.Rules.{rules}
use Rattle.buffer.proofs.Pasting.{pasted_byte}
use Rattle.buffer.proofs.Writer.put_byte.Goals as goal

pub returns : goal.returns
returns c = record { same_buffer = search rules; same_length = search rules; bytes = pasted_byte _ _ _ (search rules); place = search rules }
