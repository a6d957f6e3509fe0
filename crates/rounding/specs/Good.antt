-- The numbers of the laws: finite, not negative, not minus zero, and held by the format.
use Rattle.std.specs.Prelude.{ℕ, ◌^◌, Bool, false, not, T, Float}
use Rattle.std.specs.Float.{nan, inf, fin, Format, binary64}
use Rattle.std.specs.Float.Ieee.{fits}

-- Finite, with the sign plus.
abbrev pub is_plus : Float → Bool
is_plus nan = false
is_plus (inf s) = false
is_plus (fin s m e) = not s

pub record GoodIn (f : Format) (x : Float) : Type 0 where
  pub plus : T (is_plus x)
  pub held : T (fits f x)

abbrev pub Good : Float → Type 0
Good x = GoodIn binary64 x

-- The number 1.0 in units of 2^-1074; shut, so that nothing computes it.
unfoldable pub one·units : ℕ
one·units = 2 ^ 1074
