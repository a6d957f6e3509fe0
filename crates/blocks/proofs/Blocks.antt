-- The loop that adds rows to eight numbers.
use mathlib.Core.Path.{◌≡◌, refl}
use Prim.Native.Nat.{ℕ, ◌+◌, ◌≤◌, ◌<◌}
use native.Mathlib.Nat.{le_antisymm}
use native.Mathlib.Numerals.{add-one}
use native.Mathlib.Omega.{arith}
use mathlib.Core.Bool.{Bool, true, false}
use lib.Ieee.{Float}
use Rattle.tables.specs.Rows.{plus_multiple}
use Rattle.passes.specs.RowPass.{staged}
use Rattle.blocks.specs.declared.Eight.{Eight}
use Rattle.blocks.specs.Blocks.{Carries, nth, Reaches}

-- The numbers of row i from column j on, after q rows are added.
pub record Adding (κ : ℕ → ℕ) (g f : ℕ → ℕ → Float) (i j q : ℕ) (x : Eight) : Type 0 where
  pub carries : Carries x (staged κ g f i q) j

pub adding_begins : {κ : ℕ → ℕ} {g f : ℕ → ℕ → Float} {i j : ℕ} {x : Eight} → Carries x (f i) j → Adding κ g f i j 0 x
unfolding staged
adding_begins h = record { carries = h }

module _ {κ : ℕ → ℕ} {g f : ℕ → ℕ → Float} {i j q : ℕ} {x : Eight} (h : Adding κ g f i j q x) where
  pub adding_turns : {y : Eight} {m : Float} (k : ℕ) → k ≡ κ q → m ≡ g i k → ((own : ℕ → Float) → Carries x own j → Carries y (plus_multiple m own (f k)) j) → Adding κ g f i j (q + 1) y
  unfolding staged
  adding_turns k e d step = record { carries = rw (add-one q) (rw (d, e) at (step (staged κ g f i q) h.carries)) }

  pub adding_ends : {n : ℕ} → q ≤ n → n ≤ q → Carries x (staged κ g f i n) j
  adding_ends l m = rw (le_antisymm l m) at h.carries

-- The rows that are added are rows of a working table.
pub nth-below : (first count : ℕ) (falling : Bool) → first < 32 → Reaches first count falling → (q : ℕ) → q < count → nth first falling q < 32
unfolding nth
nth-below first count true l h q m = omega arith
nth-below first count false l h q m = let n = h.rises refl in omega arith
