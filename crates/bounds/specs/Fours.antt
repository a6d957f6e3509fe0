-- Four bounds side by side, of the numbers of a row in columns j, j + 1, j + 2 and j + 3.
use Rattle.std.specs.Prelude.{ℕ, ◌+◌, Float}
use Rattle.bounds.specs.Bounds.{Bound, Lowered}

pub record FourBound (a b c d : Float) : Type 0 where
  pub first : Bound a
  pub second : Bound b
  pub third : Bound c
  pub fourth : Bound d

pub record LoweredFour (a b c d : Float) (f : ℕ → Float) (j : ℕ) (a' b' c' d' : Float) : Type 0 where
  pub first : Lowered a (f j) a'
  pub second : Lowered b (f (j + 1)) b'
  pub third : Lowered c (f (j + 2)) c'
  pub fourth : Lowered d (f (j + 3)) d'
