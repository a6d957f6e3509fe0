-- Cases: two numbers are equal or not, one is at most the other or above it, a test holds or not.
use mathlib.Core.Path.{◌≡◌, refl}
use mathlib.Core.Bool.{Bool, true, false}
use Prim.Native.Nat.{ℕ, ◌≤◌, ◌<◌}
use native.Mathlib.Decide.{dec_le, ℕ_discrete}
use native.Mathlib.Nat.{lt_of_not-le}

module _ {P : Type 0} where
  pub by_equal : (a b : ℕ) → (a ≡ b → P) → ((a ≡ b → ⊥) → P) → P
  by_equal a b same other = go (ℕ_discrete a b)
    where
      go : Dec (a ≡ b) → P
      go (yes e) = same e
      go (no n) = other n

  pub by_order : (a b : ℕ) → (a ≤ b → P) → (b < a → P) → P
  by_order a b low high = go (dec_le a b)
    where
      go : Dec (a ≤ b) → P
      go (yes h) = low h
      go (no n) = high (lt_of_not-le n)

  pub by_bool : (b : Bool) → (b ≡ true → P) → (b ≡ false → P) → P
  by_bool true holds fails = holds refl
  by_bool false holds fails = fails refl
