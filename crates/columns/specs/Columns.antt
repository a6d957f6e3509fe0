-- What a whole pass over the rows of b does.
use Rattle.std.specs.Prelude.{◌≡◌, ℕ, ◌<◌, Bool, false, List, Float}
use Rattle.tables.specs.RowMajor.{IsTable, table}
use Rattle.bounds.specs.Bounds.{Covering}
use Rattle.passes.specs.Told.{Told, FiniteRow, FiniteTable}
use Rattle.passes.specs.RowPass.{turn, reach, staged, staged_in_range, passed, pass_in_range, IsIdentity, FiniteBelow}

-- lo bounds the rows of the turns before s, as far as they are added.
abbrev pub CoversDone : ℕ → Bool → ℕ → Float → (ℕ → ℕ → Float) → Type 0
CoversDone r falling s lo f = (q : ℕ) → q < s → Covering lo (f (turn r falling q)) 0 (reach r falling q)

-- What is told of turn s: the steps of its row are in range. It is open where a number of the row is not finite.
abbrev pub TurnTold : ℕ → Bool → ℕ → (ℕ → ℕ → Float) → (ℕ → ℕ → Float) → Bool → Type 0
TurnTold r falling s g f ok =
    let κ = turn r falling in
    Told ok (staged_in_range κ (reach r falling) g f (κ s) s) (FiniteRow r (staged κ g f (κ s) s))

-- What a pass starts from: downward, the identity and finite multipliers.
pub record PassStarts (r : ℕ) (falling : Bool) (g f : ℕ → ℕ → Float) : Type 0 where
  pub identity : falling ≡ false → IsIdentity r f
  pub multipliers : falling ≡ false → FiniteBelow r g

-- A pass over the rows of f with the multipliers g: what it tells, and the r × r places afterwards. The other places are open.
pub record PassDone (r : ℕ) (falling : Bool) (g f : ℕ → ℕ → Float) (ok : Bool) (xs : List Float) : Type 0 where
  pub told : Told ok (pass_in_range (turn r falling) (reach r falling) g f r) (FiniteTable r (passed (turn r falling) g f r))
  pub long : IsTable xs
  pub inside : (i c : ℕ) → i < r → c < r → table xs i c ≡ passed (turn r falling) g f r i c
