-- `trapped::next_stage` meets its contract. Assumes nothing.
use mathlib.Core.Path.{◌≡◌}
use mathlib.Core.Bool.{true}
use Prim.Native.Nat.{ℕ, ◌<◌}
use Rattle.marks.specs.Marks.{is_marked}
use Rattle.trapped.proofs.Reaching.{is_done}
use Rattle.trapped.proofs.next_stage.Given as goal

abbrev pub invariant-loop-i : goal.invariant-loop-i
invariant-loop-i l = (k : ℕ) → k < l.i → is_marked l.marks k ≡ true → is_done l.done k ≡ true
