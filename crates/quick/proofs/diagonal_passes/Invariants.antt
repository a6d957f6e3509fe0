-- `quick::diagonal_passes` meets its contract. Assumes nothing.
use Prim.Native.Nat.{ℕ, ◌<◌}
use lib.Dec.{T}
use Rattle.definitions.specs.Sheet.{place}
use Rattle.quick.specs.QuickPass.{PassesOn}
use Rattle.quick.proofs.diagonal_passes.Given as goal

abbrev pub invariant-loop-i : goal.invariant-loop-i
invariant-loop-i l = T l.good → (k : ℕ) → k < l.i → PassesOn l.reading (place l.sheet.n l.sheet.numbers.now k k)
