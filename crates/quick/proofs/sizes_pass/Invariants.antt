-- `quick::sizes_pass` meets its contract. Assumes nothing.
use Prim.Native.Nat.{ℕ, ◌<◌}
use Rattle.quick.proofs.QuickSheets.{PassesBefore}
use Rattle.quick.proofs.sizes_pass.Given as goal

abbrev pub invariant-loop-i : goal.invariant-loop-i
invariant-loop-i l = (k : ℕ) → k < l.i → PassesBefore l.sheet.n l.sheet.numbers.now k
