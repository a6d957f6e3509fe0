-- `quick::part_within` meets its contract. Assumes nothing.
use Prim.Native.Nat.{ℕ, ◌<◌}
use lib.Dec.{T}
use lib.ListN.{get_or}
use lib.Ieee.{nan}
use Rattle.quick.specs.QuickPass.{within}
use Rattle.quick.proofs.part_within.Given as goal

abbrev pub invariant-loop-x : goal.invariant-loop-x
invariant-loop-x l = T l.good → (k : ℕ) → k < l.x-index → T (within l.zeros l.low l.high (get_or l.part k nan))
