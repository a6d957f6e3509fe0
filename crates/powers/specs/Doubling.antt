-- A table of powers of two (document 02, U6): its doubling rule, which is a test of the whole table, and what that says of each place.
use Rattle.std.specs.Prelude.{◌≡◌, ℕ, Bool, true, false, ◌&&◌, List, [], ◌∷◌, T, eqb, ℤ, pos, negsuc, ◌+ℤ◌, length, get_or, Float}
use Rattle.std.specs.Bool.{beq}
use Rattle.std.specs.Float.{nan, inf, fin}
use Rattle.definitions.specs.Questions.{exponent_in_range}
use Rattle.definitions.specs.Moving.{times_power}
use Rattle.rounding.specs.Scaling.{power}

-- Whether two whole numbers are equal, and whether two numbers are the same finite one: the same sign, digits and exponent.
abbrev pub same_integer : ℤ → ℤ → Bool
same_integer (pos a) (pos b) = eqb a b
same_integer (pos a) (negsuc b) = false
same_integer (negsuc a) (pos b) = false
same_integer (negsuc a) (negsuc b) = eqb a b

unfoldable pub same_number : Float → Float → Bool
same_number nan y = false
same_number (inf sign) y = false
same_number (fin sign m e) nan = false
same_number (fin sign m e) (inf sign') = false
same_number (fin sign m e) (fin sign' m' e') = beq sign sign' && eqb m m' && same_integer e e'

-- The first number is `first`, and each later one is twice the one before it.
unfoldable pub doubles : Float → List Float → Bool
doubles first [] = true
doubles first (x ∷ xs) = same_number x first && doubles (times_power (pos 1) x) xs

-- "A table of the 1,025 powers from 2^-512 to 2^512": so many numbers, 2^-512 first, and each later one twice the one before it.
unfoldable pub doubling_rule : List Float → Bool
doubling_rule table = eqb (length table) 1025 && doubles (power (negsuc 511)) table

-- "Proved to hold exactly 2^k at the place for each k": place k + 512.
abbrev pub RuleGivesPowers : Type 0
RuleGivesPowers =
    (table : List Float) → T (doubling_rule table)
    → (k : ℤ) → T (exponent_in_range k) → (at : ℕ) → pos at ≡ k +ℤ pos 512 → get_or table at nan ≡ power k
