-- What moving a sheet promises (document 02, U4 and U5), and what its numbers are known to be before question 16.
use Rattle.std.specs.Prelude.{Bool, List, Result, ◌≡◌, ℕ, ◌<◌, T, ℤ, length, get_or, Float}
use Rattle.std.specs.Float.{nan}
use Rattle.definitions.specs.Numbers.{finite, all}
use Rattle.definitions.specs.Questions.{exponent_in_range, large_enough}
use Rattle.definitions.specs.Moving.{times_power, has_room, move_answer, moved_area}
use Rattle.rounding.specs.Scaling.{power}
use Rattle.answers.specs.declared.Refusal.{Refusal}
use Rattle.answers.specs.Answers.{told}

-- The answer r, and each place of the second area before and after.
pub record MoveDone (reading n : ℕ) (e : ℤ) (sheet : List Float) (k : ℤ) (before after : List Float) (r : Result ℤ Refusal) : Type 0 where
  pub answered : told r ≡ move_answer reading n e sheet k (length before)
  pub area : after ≡ moved_area reading n e sheet k before

-- Question 16 of some numbers.
unfoldable pub have_room : ℤ → List Float → Bool
have_room k numbers = all (λ at. has_room (times_power k (get_or numbers at nan))) 0 (length numbers)

-- k is in range and `factor` is 2^k; the numbers passed questions 6 and 8.
pub record Movable (k : ℤ) (factor : Float) (numbers : List Float) : Type 0 where
  pub in_range : T (exponent_in_range k)
  pub is : factor ≡ power k
  pub finites : (at : ℕ) → at < length numbers → T (finite (get_or numbers at nan))
  pub larges : (at : ℕ) → at < length numbers → T (large_enough (get_or numbers at nan))
