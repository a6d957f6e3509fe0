-- `buffer::Writer::put_bytes` meets its contract: one copy pastes the whole text. Assumes nothing.
use borrow.Author.Rules.{rules}
use Rattle.buffer.proofs.Pasting.{pasted_part}
use Rattle.buffer.proofs.Writer.put_bytes.Goals as goal

pub returns : goal.returns
returns c = record { same_buffer = search rules; same_length = search rules; bytes = pasted_part _ _ _ _ _ (search rules) c.copy_from_slice.ensures.after; place = search rules }
