-- `moving::times_power` meets its contract. The loop's invariant: the first products are written. Assumes nothing.
use mathlib.Core.List.{map}
use lib.ListN.{length}
use Rattle.definitions.specs.Numbers.{◌⊗◌}
use Rattle.steps.proofs.Filling.{Filling}
use Rattle.moving.proofs.times_power.Given as goal

abbrev pub invariant-loop-i : goal.invariant-loop-i
invariant-loop-i l = Filling (map (λ number. number ⊗ l.power) l.numbers) l.initial.area l.area (length l.numbers) l.i
