-- `compact::find` meets its contract: stage i is at no place before q. Assumes nothing.
use mathlib.Core.Path.{◌≡◌}
use Prim.Native.Nat.{ℕ, ◌≤◌, ◌<◌, ◌-◌}
use Rattle.compact.specs.Listing.{stage_at}
use Rattle.compact.proofs.find.Given as goal

abbrev pub invariant-loop-q : goal.invariant-loop-q
invariant-loop-q l = (l.q ≤ l.r) × ((p : ℕ) → p < l.q → stage_at l.places p ≡ l.i → ⊥)

abbrev pub decreases-loop-q : goal.decreases-loop-q
decreases-loop-q l = l.r - l.q
