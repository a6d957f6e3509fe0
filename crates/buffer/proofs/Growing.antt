-- A text written piece by piece: f j is the text before turn j, g j the piece that the turn writes, and there are n turns.
use mathlib.Core.Path.{◌≡◌}
use Prim.Native.Nat.{ℕ, zero, suc, ◌+◌, ◌-◌, ◌≤◌, ◌<◌}
use native.Mathlib.Nat.{add-zero, add-suc, add-sub_of_le}
use native.Mathlib.Numerals.{add-one}
use native.Mathlib.Omega.{arith}
use mathlib.Core.List.{List, ◌++◌}
use lib.ListN.{length, length-append}
use Rattle.buffer.specs.declared.Writer.{Writer}
use Rattle.buffer.specs.Pasted.{Room, Written}
use Rattle.buffer.proofs.Pasting.{room_next, written_next}

-- A turn: its piece has room at the place reached, and once it is written so is the text up to its end.
pub record Turn (piece text : List ℕ) (start here : Writer) : Type 0 where
  pub room : Room piece here
  pub written : {next : Writer} → Written piece here next → Written text start next

module _ (f g : ℕ → List ℕ) (n : ℕ) (grows : (j : ℕ) → j < n → f (suc j) ≡ f j ++ g j) where
  longer : (m j : ℕ) → j + m ≤ n → length (f j) ≤ length (f (j + m))
  longer zero j h = rw add-zero (omega arith)
  longer (suc m) j h = rw (add-suc, grows (j + m) (omega arith), length-append) (omega (arith, longer m j (omega arith)))

  module _ {start : Writer} (room : Room (f n) start) {j : ℕ} (due : j < n) where
    room_so_far : Room (f j ++ g j) start
    room_so_far = rw (← grows j due) (record { within = omega (arith, room.within, rw (add-sub_of_le due) at (longer (n - suc j) (suc j) (omega arith))) })

    pub turn : {here : Writer} → Written (f j) start here → Turn (g j) (f (j + 1)) start here
    turn so_far = record {
      room = room_next (f j) (g j) room_so_far so_far;
      written = λ w. rw (add-one, grows j due) (written_next (f j) (g j) room_so_far so_far w);
    }
