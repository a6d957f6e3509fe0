-- `records::put_number` meets its contract. The loop's invariant: so many bytes are written, and the rest is the number without them. Assumes nothing.
use Prim.Native.Nat.{ℕ, ◌+◌, ◌/◌, ◌%◌, ◌<◌}
use mathlib.Core.List.{[], ◌∷◌}
use mathlib.Core.Path.{◌≡◌, ap, ◌∙◌}
use native.Mathlib.Omega.{arith}
use Rattle.std.proofs.Common.{rules}
use Rattle.definitions.specs.Saving.{little_bytes}
use Rattle.buffer.specs.declared.Writer.{Writer}
use Rattle.buffer.specs.Pasted.{Room, Written}
use Rattle.buffer.proofs.Growing.{Turn, turn}
use Rattle.records.proofs.LittleBytes.{after, after_none, after-one_more, little-begun, little_grows}
use Rattle.records.proofs.put_number.Goals as goal

-- A turn writes one byte more of the number.
byte_turn : (number width : ℕ) {rest k : ℕ} {start here : Writer} → Room (little_bytes width number) start → k < width → rest ≡ after k number → Written (little_bytes k number) start here
    → Turn (rest % 256 ∷ []) (little_bytes (k + 1) number) start here
byte_turn number width room due left so_far =
    rw left (turn (λ k. little_bytes k number) (λ k. after k number % 256 ∷ []) width (λ k h. little_grows number k) room due so_far)

pub loop-init : goal.loop-init
loop-init c = (after_none _, little-begun _ _)

pub put_byte-requires : goal.put_byte-requires
put_byte-requires c =
    let inv = c.loop.invariant in
    record { within = omega (arith, (byte_turn c.args.number c.args.width c.requires (omega arith) inv.0 inv.1).room.within) }

pub loop-preserved : goal.loop-preserved
loop-preserved c =
    let inv = c.loop.invariant in (
      ap (λ m. m / 256) inv.0 ∙ after-one_more c.loop.counter c.args.number,
      (byte_turn c.args.number c.args.width c.requires (omega arith) inv.0 inv.1).written (search rules),
    )
