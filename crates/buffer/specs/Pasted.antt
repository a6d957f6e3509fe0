-- Text written into a lent buffer. A text is the list of its bytes.
use Rattle.std.specs.Prelude.{◌≡◌, ℕ, ◌+◌, ◌≤◌, List, ◌++◌, length, take, drop}
use Rattle.buffer.specs.declared.Writer.{Writer}

-- The bytes with the text at a place, and every other byte as it was.
unfoldable pub pasted : List ℕ → ℕ → List ℕ → List ℕ
pasted text at bytes = take at bytes ++ text ++ drop (at + length text) bytes

-- The text fits the buffer at the writer's place.
pub record Room (text : List ℕ) (writer : Writer) : Type 0 where
  pub within : writer.at + length text ≤ length writer.out.now

-- What every writing promises: in the same buffer, which stays as long, the text at the writer's place, all else as it was, and the place after the text.
pub record Written (text : List ℕ) (before after : Writer) : Type 0 where
  pub same_buffer : after.out.ghost_name ≡ before.out.ghost_name
  pub same_length : length after.out.now ≡ length before.out.now
  pub bytes : after.out.now ≡ pasted text before.at before.out.now
  pub place : after.at ≡ before.at + length text

-- The same for a whole text, at the start of the buffer, with its length.
pub record AtStart (text before after : List ℕ) (count : ℕ) : Type 0 where
  pub bytes : after ≡ text ++ drop (length text) before
  pub counted : count ≡ length text
