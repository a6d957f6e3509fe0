-- Laws of texts pasted into a buffer: one after another, one byte, and the promise of a writer, text after text.
use mathlib.Core.Path.{◌≡◌, refl, sym, ap, ap₂, ◌∙◌}
use Prim.Native.Nat.{ℕ, ◌+◌, ◌≤◌, ◌<◌}
use native.Mathlib.Nat.{add_assoc, add-zero, zero-add}
use native.Mathlib.Numerals.{add-one}
use native.Mathlib.Omega.{arith}
use mathlib.Core.List.{List, [], ◌∷◌, ◌++◌, append_assoc, append-nil}
use lib.ListN.{length, take, drop, set, length-append, length-take, length-drop, take-append-drop}
use lib.Seq.{take_at, drop_at, drop-drop, set_split, take-append-le, take-take, length-take-le}
use Rattle.buffer.specs.declared.Writer.{Writer}
use Rattle.buffer.specs.Pasted.{pasted, Room, Written, AtStart}

module _ (text : List ℕ) (at : ℕ) (bytes : List ℕ) (room : at + length text ≤ length bytes) where
  length_head : length (take at bytes ++ text) ≡ at + length text
  length_head = simp (length-append, length-take) (omega arith)

  pub length-pasted : length (pasted text at bytes) ≡ length bytes
  unfolding pasted
  length-pasted = simp (length-append, length-take, length-drop) (omega arith)

  take-pasted : take (at + length text) (pasted text at bytes) ≡ take at bytes ++ text
  unfolding pasted
  take-pasted = take_at (take at bytes ++ text) _ _ length_head

  drop-pasted : drop (at + length text) (pasted text at bytes) ≡ drop (at + length text) bytes
  unfolding pasted
  drop-pasted = drop_at (take at bytes ++ text) _ _ length_head

-- No text changes nothing; one byte is a store; at the start nothing stands before the text.
pub pasted_nothing : (at : ℕ) (bytes : List ℕ) → pasted [] at bytes ≡ bytes
unfolding pasted
pasted_nothing at bytes = rw (append-nil, add-zero) (take-append-drop at bytes)

pub pasted_byte : (byte at : ℕ) (bytes : List ℕ) → at < length bytes → set bytes at byte ≡ pasted (byte ∷ []) at bytes
unfolding pasted
pasted_byte byte at bytes h = rw (append_assoc, add-one) (set_split bytes at byte h)

pub pasted-at-start : (text bytes : List ℕ) → pasted text 0 bytes ≡ text ++ drop (length text) bytes
unfolding pasted
pasted-at-start text bytes = rw zero-add

-- A text copied into a part of the buffer that is as long as the text.
pub pasted_part : (text at_part : List ℕ) (at size : ℕ) (bytes : List ℕ) → size ≡ length text → at_part ≡ text → take at bytes ++ (at_part ++ drop size (drop at bytes)) ≡ pasted text at bytes
unfolding pasted
pasted_part text at_part at size bytes e c = rw (e, c, drop-drop, append_assoc)

-- Two texts in a row, the first written first, or the second.
row : (a b : List ℕ) (at : ℕ) (bytes : List ℕ) → take at bytes ++ a ++ b ++ drop (at + length a + length b) bytes ≡ pasted (a ++ b) at bytes
unfolding pasted
row a b at bytes = simp (length-append, append_assoc, add_assoc)

module _ (a b : List ℕ) (at : ℕ) (bytes : List ℕ) (room : at + length a ≤ length bytes) where
  drop-after : drop (at + length a + length b) (pasted a at bytes) ≡ drop (at + length a + length b) bytes
  drop-after = rw (← drop-drop (length b) (at + length a) (pasted a at bytes), drop-pasted a at bytes room) (drop-drop (length b) (at + length a) bytes)

  pub pasted-after : pasted b (at + length a) (pasted a at bytes) ≡ pasted (a ++ b) at bytes
  unfolding pasted
  pasted-after = ap₂ (λ (front back : List ℕ). front ++ b ++ back) (take-pasted a at bytes room) drop-after ∙ row a b at bytes

  length_front : length (take (at + length a) bytes) ≡ at + length a
  length_front = length-take-le (at + length a) bytes room

  take_before : take at (pasted b (at + length a) bytes) ≡ take at bytes
  unfolding pasted
  take_before =
      let inside : at ≤ length (take (at + length a) bytes) = omega (arith, length_front) in
      let below : at ≤ at + length a = omega arith in
      rw (append_assoc, take-append-le, take-take)

  drop_before : drop (at + length a) (pasted b (at + length a) bytes) ≡ b ++ drop (at + length a + length b) bytes
  unfolding pasted
  drop_before = rw append_assoc (drop_at (take (at + length a) bytes) _ _ length_front)

  pub pasted_before : pasted a at (pasted b (at + length a) bytes) ≡ pasted (a ++ b) at bytes
  unfolding pasted
  pasted_before =
      ap₂ (λ (front back : List ℕ). front ++ a ++ back) take_before drop_before
      ∙ sym (append_assoc (take at bytes ++ a) b _)
      ∙ row a b at bytes

-- The last byte of a text may be stored first.
pub pasted-last : (front text : List ℕ) (byte at place : ℕ) (bytes : List ℕ) → text ≡ front ++ (byte ∷ []) → place ≡ at + length front → place < length bytes
    → pasted front at (set bytes place byte) ≡ pasted text at bytes
pasted-last front text byte at place bytes whole here inside =
    let inside' : at + length front < length bytes = rw here at inside in
    rw (here, pasted_byte byte (at + length front) bytes inside', whole) (pasted_before front (byte ∷ []) at bytes (omega arith))

-- Texts in a row: each has room once those before it are written, and together they are one text.
module _ (a b : List ℕ) {w : Writer} (room : Room (a ++ b) w) where
  room_sum : w.at + length a + length b ≤ length w.out.now
  room_sum = omega (arith, room.within, length-append a b)

  pub room_first : Room a w
  room_first = record { within = omega (arith, room_sum) }

  module _ {w₁ : Writer} (first : Written a w w₁) where
    pub room_next : Room b w₁
    room_next = record { within = rw (first.same_length, first.place) room_sum }

    pub written_next : {w₂ : Writer} → Written b w₁ w₂ → Written (a ++ b) w w₂
    written_next next = record {
      same_buffer = next.same_buffer ∙ first.same_buffer;
      same_length = next.same_length ∙ first.same_length;
      bytes = next.bytes ∙ ap₂ (λ (k : ℕ) (l : List ℕ). pasted b k l) first.place first.bytes ∙ pasted-after a b w.at w.out.now room_first.within;
      place = omega (arith, next.place, first.place, length-append a b);
    }

-- Three texts in a row.
module _ (a b c : List ℕ) {w : Writer} (room : Room (a ++ b ++ c) w) where
  room_ab : Room (a ++ b) w
  room_ab = room_first (a ++ b) c room

  pub room3_1 : Room a w
  room3_1 = room_first a b room_ab

  module _ {w₁ : Writer} (first : Written a w w₁) where
    pub room3_2 : Room b w₁
    room3_2 = room_next a b room_ab first

    module _ {w₂ : Writer} (second : Written b w₁ w₂) where
      written_ab : Written (a ++ b) w w₂
      written_ab = written_next a b room_ab first second

      pub room3_3 : Room c w₂
      room3_3 = room_next (a ++ b) c room written_ab

      pub written_3 : {w₃ : Writer} → Written c w₂ w₃ → Written (a ++ b ++ c) w w₃
      written_3 third = written_next (a ++ b) c room written_ab third

-- Four texts in a row.
module _ (a b c d : List ℕ) {w : Writer} (room : Room (a ++ b ++ c ++ d) w) where
  room_abc : Room (a ++ b ++ c) w
  room_abc = room_first (a ++ b ++ c) d room

  pub room_1 : Room a w
  room_1 = room3_1 a b c room_abc

  module _ {w₁ : Writer} (first : Written a w w₁) where
    pub room_2 : Room b w₁
    room_2 = room3_2 a b c room_abc first

    module _ {w₂ : Writer} (second : Written b w₁ w₂) where
      pub room_3 : Room c w₂
      room_3 = room3_3 a b c room_abc first second

      module _ {w₃ : Writer} (third : Written c w₂ w₃) where
        written_abc : Written (a ++ b ++ c) w w₃
        written_abc = written_3 a b c room_abc first second third

        pub room_4 : Room d w₃
        room_4 = room_next (a ++ b ++ c) d room written_abc

        pub written_4 : {w₄ : Writer} → Written d w₃ w₄ → Written (a ++ b ++ c ++ d) w w₄
        written_4 fourth = written_next (a ++ b ++ c) d room written_abc fourth

-- Nothing written, and a text written at the start of the buffer.
pub written_at_start : {text last : List ℕ} {before after : Writer} → Written text before after → before.at ≡ 0 → last ≡ after.out.now → AtStart text before.out.now last after.at
written_at_start {text} {before = before} w start lent =
    record { bytes = lent ∙ w.bytes ∙ rw (start, pasted-at-start text before.out.now); counted = omega (arith, w.place, start) }

pub written_nothing : (w : Writer) → Written [] w w
written_nothing w = record { same_buffer = refl; same_length = refl; bytes = sym (pasted_nothing w.at w.out.now); place = omega arith }

-- A caller may lend the text alone: it ends within the buffer.
pub count_within : {text before after : List ℕ} {count : ℕ} → AtStart text before after count → length after ≡ length before → count ≤ length before
count_within {text} {before} a same =
    omega (arith, a.counted, ap length a.bytes, length-append text (drop (length text) before), length-drop (length text) before)
