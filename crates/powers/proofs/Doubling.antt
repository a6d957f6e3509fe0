-- The doubling rule, tested once over a whole table, gives the power at each place.
use mathlib.Core.Path.{◌≡◌, refl, sym, ap, ◌∙◌}
use Prim.Native.Nat.{ℕ, zero, suc, ◌+◌, ◌<◌}
use native.Mathlib.Nat.{le_of_suc-le-suc, not-suc-le-zero}
use native.Mathlib.Omega.{arith}
use mathlib.Core.Bool.{Bool, true, false, ◌&&◌, beq}
use mathlib.Core.List.{List, [], ◌∷◌}
use lib.Dec.{T, eqb, eqb→eq}
use lib.IntN.{ℤ, pos, negsuc, ◌+ℤ◌, ◌-ℤ◌, +ℤ_assoc, +ℤ_idr, +ℤ_comm, +ℤ-neg_ℤ_cancel}
use lib.ListN.{length, get_or}
use lib.Ieee.{Float, nan, inf, fin}
use lib.Ieee.Fits.{and_l, and_r}
use Rattle.std.proofs.lemmas.Int.{ints}
use Rattle.definitions.specs.Questions.{exponent_in_range}
use Rattle.definitions.specs.Moving.{times_power}
use Rattle.rounding.specs.Scaling.{power}
use Rattle.powers.specs.Doubling.{same_integer, same_number, doubles, doubling_rule, RuleGivesPowers}

-- ---- the same number is an equal one
same_sign : (s t : Bool) → T (beq s t) → s ≡ t
same_sign true true h = refl
same_sign true false h = absurd h
same_sign false true h = absurd h
same_sign false false h = refl

same_integer_lem : (d e : ℤ) → T (same_integer d e) → d ≡ e
same_integer_lem (pos a) (pos b) h = ap pos (eqb→eq a b h)
same_integer_lem (pos a) (negsuc b) h = absurd h
same_integer_lem (negsuc a) (pos b) h = absurd h
same_integer_lem (negsuc a) (negsuc b) h = ap negsuc (eqb→eq a b h)

same_number_lem : (x y : Float) → T (same_number x y) → x ≡ y
unfolding same_number
same_number_lem nan y h = absurd h
same_number_lem (inf s) y h = absurd h
same_number_lem (fin s m d) nan h = absurd h
same_number_lem (fin s m d) (inf t) h = absurd h
same_number_lem (fin s m d) (fin t n e) h =
    let both = and_l (beq s t && eqb m n) (same_integer d e) h in
    rw (same_sign s t (and_l (beq s t) (eqb m n) both), eqb→eq m n (and_r (beq s t) (eqb m n) both), same_integer_lem d e (and_r (beq s t && eqb m n) (same_integer d e) h))

-- ---- from 2^k on, the number at place i is 2^(k + i)
first_is : (k : ℤ) (x : Float) (xs : List Float) → T (doubles (power k) (x ∷ xs)) → x ≡ power k
unfolding doubles
first_is k x xs t = same_number_lem x (power k) (and_l (same_number x (power k)) _ t)

others_double : (k : ℤ) (x : Float) (xs : List Float) → T (doubles (power k) (x ∷ xs)) → T (doubles (power (k +ℤ pos 1)) xs)
unfolding doubles times_power
others_double k x xs t = rw (first_is k x xs t) at (and_r (same_number x (power k)) (doubles (times_power (pos 1) x) xs) t)

each : (k : ℤ) (table : List Float) → T (doubles (power k) table) → (i : ℕ) → i < length table → get_or table i nan ≡ power (k +ℤ pos i)
each k [] t i h = absurd (not-suc-le-zero h)
each k (x ∷ xs) t zero h = first_is k x xs t ∙ ap power (sym (+ℤ_idr k))
each k (x ∷ xs) t (suc i) h =
    let next : 1 + i ≡ suc i = omega arith in
    each (k +ℤ pos 1) xs (others_double k x xs t) i (le_of_suc-le-suc h) ∙ ap power (+ℤ_assoc k (pos 1) (pos i) ∙ ap (λ (j : ℕ). k +ℤ pos j) next)

-- ---- the place of each k
pub place-below : (k : ℤ) → T (exponent_in_range k) → (at : ℕ) → pos at ≡ k +ℤ pos 512 → at < 1025
unfolding exponent_in_range
place-below k t at is = grind (arith, ints)

pub in_table : (table : List Float) → T (doubling_rule table) → (k : ℤ) → T (exponent_in_range k) → (at : ℕ) → pos at ≡ k +ℤ pos 512 → at < length table
unfolding doubling_rule
in_table table t k inside at is = rw (eqb→eq (length table) 1025 (and_l (eqb (length table) 1025) _ t)) (place-below k inside at is)

pub rule_gives_powers : RuleGivesPowers
unfolding doubling_rule
rule_gives_powers table t k inside at is =
    each (negsuc 511) table (and_r (eqb (length table) 1025) _ t) at (in_table table t k inside at is)
    ∙ ap power (+ℤ_comm (negsuc 511) (pos at) ∙ ap (λ (z : ℤ). z -ℤ pos 512) is ∙ +ℤ-neg_ℤ_cancel k (pos 512))
