-- The sizes and diagonals of a sheet, by place: nothing else opens `size` and `diagonal`.
use mathlib.Core.Path.{◌≡◌, refl}
use mathlib.Core.List.{List}
use Prim.Native.Nat.{ℕ, ◌≤◌, ◌<◌}
use lib.Ieee.{Float}
use borrow.Author.Tests.{lt-ltb, le-ltb, eq-eqb, ne_eqb}
use mathlib.Core.Bool.{and-false}
use Rattle.definitions.specs.Numbers.{◌⊕◌, ◌⊖◌, 0·0}
use Rattle.definitions.specs.Sheet.{place, size, diagonal}

module _ (n : ℕ) (sheet : List Float) where
  pub size-at : (i j : ℕ) → i < n → j < n → (i ≡ j → ⊥) → size n sheet i j ≡ 0·0 ⊖ place n sheet i j
  unfolding size
  size-at i j l m d = rw (lt-ltb i n l, lt-ltb j n m, ne_eqb i j d)

  pub size-own : (i : ℕ) → size n sheet i i ≡ 0·0
  unfolding size
  size-own i = rw (eq-eqb i i refl, and-false)

  pub size_below : (i j : ℕ) → n ≤ i → size n sheet i j ≡ 0·0
  unfolding size
  size_below i j l = rw (le-ltb i n l)

  pub size_right : (i j : ℕ) → n ≤ j → size n sheet i j ≡ 0·0
  unfolding size
  size_right i j l = rw (le-ltb j n l, and-false)

  pub diagonal-at : (i : ℕ) → i < n → diagonal n sheet i ≡ place n sheet i i ⊕ 0·0
  unfolding diagonal
  diagonal-at i l = rw (lt-ltb i n l)

  pub diagonal-below : (i : ℕ) → n ≤ i → diagonal n sheet i ≡ 0·0
  unfolding diagonal
  diagonal-below i l = rw (le-ltb i n l)
