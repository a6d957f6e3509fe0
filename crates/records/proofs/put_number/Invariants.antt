-- `records::put_number` meets its contract. The loop's invariant: so many bytes are written, and the rest is the number without them. Assumes nothing.
use mathlib.Core.Path.{◌≡◌}
use Rattle.definitions.specs.Saving.{little_bytes}
use Rattle.buffer.specs.Pasted.{Written}
use Rattle.records.proofs.LittleBytes.{after}
use Rattle.records.proofs.put_number.Given as goal

abbrev pub invariant-loop : goal.invariant-loop
invariant-loop l = (l.rest ≡ after l.counter l.number) × Written (little_bytes l.counter l.number) l.initial.out l.out
