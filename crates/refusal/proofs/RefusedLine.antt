-- The line of a refusal as the pieces that are written, for which a buffer of 32,768 bytes has room.
use mathlib.Core.Path.{◌≡◌}
use mathlib.Core.List.{◌++◌, append_assoc}
use Prim.Native.Nat.{ℕ, ◌^◌, ◌≤◌, ◌<◌}
use native.Mathlib.Omega.{arith}
use lib.ListN.{length, length-append}
use Rattle.definitions.specs.Dwell.{text, refused_line}
use Rattle.buffer.specs.declared.Writer.{Writer}
use Rattle.buffer.specs.Pasted.{Room, Written}
use Rattle.buffer.proofs.Pasting.{written_4}
use Rattle.digits.proofs.Digits.{field, decimal-at-most}

pub refused_pieces : (number row column : ℕ) → refused_line number row column ≡ text "refused " ++ field number 32 ++ field row 32 ++ field column 10
unfolding refused_line text
refused_pieces number row column = simp append_assoc

pub length_refused : (number row column : ℕ) → number < 10 ^ 20 → row < 10 ^ 20 → column < 10 ^ 20 → length (refused_line number row column) ≤ 71
unfolding text
length_refused number row column a b c =
    rw (refused_pieces number row column) (simp length-append
    (omega (arith, decimal-at-most 19 number a, decimal-at-most 19 row b, decimal-at-most 19 column c)))

-- Written from the start of such a buffer, they are the line.
pub refused_written : (number row column : ℕ) {line line₁ line₂ line₃ line₄ : Writer} → number < 10 ^ 20 → row < 10 ^ 20 → column < 10 ^ 20
    → Written (text "refused ") line line₁ → Written (field number 32) line₁ line₂ → Written (field row 32) line₂ line₃ → Written (field column 10) line₃ line₄
    → line.at ≡ 0 → 32768 ≤ length line.out.now → Written (refused_line number row column) line line₄
refused_written number row column {line} a b c word first second third start h =
    let pieces = refused_pieces number row column in
    let room : Room (refused_line number row column) line = record { within = omega (arith, start, length_refused number row column a b c) } in
    rw pieces (written_4 (text "refused ") (field number 32) (field row 32) (field column 10) (rw pieces at room) word first second third)
