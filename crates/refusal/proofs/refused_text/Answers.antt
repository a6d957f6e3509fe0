-- `refusal::refused_text` meets its contract: four texts in a row are the line, for which the buffer has room. Assumes nothing.
use Prim.Native.Nat.{ℕ}
use mathlib.Core.Path.{refl}
use lib.ListN.{length-append}
use native.Mathlib.Omega.{arith}
use Rattle.std.proofs.Common.{rules}
use Rattle.definitions.specs.Dwell.{text}
use Rattle.buffer.proofs.Pasting.{written_at_start}
use Rattle.digits.proofs.Digits.{decimal_short}
use Rattle.refusal.proofs.RefusedLine.{refused_written}
use Rattle.refusal.proofs.refused_text.Goals as goal

-- A number of 64 bits has at most 20 digits.
pub put_field-requires : goal.put_field-requires
put_field-requires c = record { within = omega (arith, length-append {A = ℕ}, decimal_short) }

pub put_field-requires-2 : goal.put_field-requires-2
put_field-requires-2 c = record { within = omega (arith, length-append {A = ℕ}, decimal_short) }

pub put_field-requires-3 : goal.put_field-requires-3
put_field-requires-3 c = record { within = omega (arith, length-append {A = ℕ}, decimal_short) }

pub returns : goal.returns
unfolding text
returns c =
    written_at_start (refused_written c.args.number c.args.row c.args.column (omega arith) (omega arith) (omega arith) c.put_bytes.ensures c.put_field.ensures c.put_field-2.ensures c.put_field-3.ensures refl c.requires) refl (search rules)
