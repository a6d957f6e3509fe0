-- What a report promises of the buffer: the text of document 01 at its start, and all else as it was.
use Rattle.std.specs.Prelude.{◌≡◌, ℕ, ◌≤◌, List, length, take}
use Rattle.buffer.specs.Pasted.{AtStart}

-- The last two follow from the first; with them a caller lends the text alone.
pub record Reported (text before after : List ℕ) (count : ℕ) : Type 0 where
  pub written : AtStart text before after count
  pub within : count ≤ length after
  pub front : count ≡ length (take count after)
