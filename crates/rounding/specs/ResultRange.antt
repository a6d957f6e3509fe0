-- What the functions of `src/lib.rt` test.
use Rattle.std.specs.Prelude.{Bool, ◌&&◌, ◌||◌, Float}
use Rattle.std.specs.Float.Ieee.{lt, le, neg}
use Rattle.definitions.specs.Numbers.{finite, is_zero, smallest}

-- The range test of a product or quotient r of x and y (question 10): finite, and above 2^-1022 unless x or y is zero.
unfoldable pub result_in_range : Float → Float → Float → Bool
unfolding finite is_zero lt
result_in_range x y r = finite r && (is_zero x || is_zero y || lt smallest r)

-- Zero, or of a size from `least` to `most` (question 16, with limits).
unfoldable pub size_within : Float → Float → Float → Bool
size_within least most x = (is_zero x || le least x || le x (neg least)) && (le x most && le (neg most) x)
