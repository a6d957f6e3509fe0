-- `hexadecimal::put_hexadecimal` meets its contract. The loop's invariant: pasting the digits that are left gives all of them.
use mathlib.Core.Path.{◌≡◌}
use lib.ListN.{length}
use Rattle.definitions.specs.Dwell.{hexadecimal}
use Rattle.buffer.specs.Pasted.{pasted}
use Rattle.hexadecimal.proofs.put_hexadecimal.Given as goal

abbrev pub invariant-loop-k : goal.invariant-loop-k
invariant-loop-k l = (length l.digits ≡ 16) × (pasted (hexadecimal l.k l.rest) 0 l.digits ≡ hexadecimal 16 l.word)
