-- Question 16 by moved limits.
use mathlib.Core.Path.{◌≡◌, sym}
use Prim.Native.Nat.{ℕ, suc-le-suc}
use mathlib.Core.Bool.{Bool, true, false, true≢false}
use mathlib.Core.List.{List, map}
use native.Mathlib.Omega.{arith}
use lib.Dec.{T, leb, leb→le, ltb→lt}
use lib.IntN.{ℤ, pos, negsuc}
use lib.Signed.{lt_z}
use lib.ListN.{length, get_or, get_or-map}
use lib.Ieee.{Float, nan, binary64, fits, of_bits}
use lib.Ieee.Fits.{and_l}
use Rattle.exact.proofs.Bools.{holds}
use Rattle.definitions.specs.Numbers.{◌⊗◌, ◌⊘◌, all}
use Rattle.definitions.specs.Questions.{exponent_in_range}
use Rattle.rounding.specs.ResultRange.{size_within}
use Rattle.rounding.proofs.Words.{zero_word, smallest-word, largest-word}
use Rattle.rounding.proofs.SizeWithin.{room_down, room_up, least_limit, most_limit}
use Rattle.steps.proofs.All.{all-below}
use Rattle.moving.specs.Promises.{have_room, Movable}

pub product_at : (power : Float) (numbers : List Float) (at : ℕ) (other : Float) → get_or numbers at other ⊗ power ≡ get_or (map (λ number. number ⊗ power) numbers) at (other ⊗ power)
product_at power numbers at other = sym (get_or-map (λ number. number ⊗ power) numbers at other)

-- ---- the test with moved limits is question 16
-- The literals of the limits, as the program has them.
abbrev none·word : Float
none·word = of_bits binary64 0

abbrev least·word : Float
least·word = of_bits binary64 4503599627370496

abbrev most·word : Float
most·word = of_bits binary64 9218868437227405311

module _ (numbers : List Float) where
  abbrev tests : Float → Float → Bool
  tests least most = all (λ at. size_within least most (get_or numbers at nan)) 0 (length numbers)

  -- where k is below zero, and where it is not
  pub by_least : (k : ℤ) {factor : Float} → Movable k factor numbers → ((at : ℕ) → T (fits binary64 (get_or numbers at nan))) → lt_z k (pos 0) ≡ true
      → tests (least·word ⊘ factor) most·word ≡ have_room k numbers
  unfolding exponent_in_range have_room
  by_least (pos n) known held t = absurd (let l = ltb→lt n 0 (holds t) in omega arith)
  by_least (negsuc j) known held t =
      let small = suc-le-suc (leb→le j 511 (and_l (leb j 511) true known.in_range)) in
      rw (known.is, smallest-word, least_limit j small, largest-word) (all-below _ _ (λ at l. room_down j (get_or numbers at nan) (known.finites at l) (held at)))

  pub by_most : (k : ℤ) {factor : Float} → Movable k factor numbers → lt_z k (pos 0) ≡ false → tests none·word (most·word ⊘ factor) ≡ have_room k numbers
  unfolding exponent_in_range have_room
  by_most (negsuc j) known t = absurd (true≢false t)
  by_most (pos j) known t =
      rw (known.is, largest-word, most_limit j (leb→le j 512 known.in_range), zero_word)
      (all-below _ _ (λ at l. room_up j (get_or numbers at nan) (known.finites at l) (known.larges at l)))
