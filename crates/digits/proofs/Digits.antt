-- Laws of decimal and hexadecimal digits: the last digit and the digits before it, and how many there are.
use mathlib.Core.Path.{◌≡◌, refl, sym, ap, ◌∙◌}
use mathlib.Core.Bool.{cond}
use mathlib.Core.List.{List, [], ◌∷◌, ◌++◌}
use Prim.Native.Nat.{ℕ, zero, suc, ◌+◌, ◌-◌, ◌/◌, ◌%◌, ◌^◌, ◌≤◌, ◌<◌}
use native.Mathlib.Nat.{pow-suc, mod-eq_of_lt}
use native.Mathlib.Numerals.{sub-one}
use native.Mathlib.Decide.{dec_lt}
use native.Mathlib.Omega.{arith}
use borrow.Author.Tests.{lt-ltb, le-ltb}
use lib.Dec.{ltb}
use lib.ListN.{length, length-append}
use Rattle.std.proofs.lemmas.Fmt.{decimal_by_steps_wide}
use Rattle.std.specs.Fmt as library
use Rattle.definitions.specs.Dwell.{digits, decimal, hexadecimal}

-- A decimal number and the byte that ends its field.
abbrev pub field : ℕ → ℕ → List ℕ
field a end = decimal a ++ (end ∷ [])

-- One digit where a < 10; elsewhere the digits of a / 10 and the last digit.
digits-one : (m a : ℕ) → a < 10 → digits (suc m) a ≡ (48 + a % 10) ∷ []
unfolding digits
digits-one m a h = rw (lt-ltb a 10 h)

digits_more : (m a : ℕ) → 10 ≤ a → digits (suc m) a ≡ digits m (a / 10) ++ ((48 + a % 10) ∷ [])
unfolding digits
digits_more m a h = rw (le-ltb a 10 h)

-- Room for one digit more changes nothing where the number has no more than suc m digits.
digits_same : (m a : ℕ) → digits (suc m) (a / 10) ≡ digits m (a / 10) → Dec (a < 10) → digits (suc (suc m)) a ≡ digits (suc m) a
digits_same m a e (yes small) = digits-one (suc m) a small ∙ sym (digits-one m a small)
digits_same m a e (no large) = digits_more (suc m) a (omega arith) ∙ ap (λ (front : List ℕ). front ++ ((48 + a % 10) ∷ [])) e ∙ sym (digits_more m a (omega arith))

digits_enough : (m a : ℕ) → a < 10 ^ suc m → digits (suc (suc m)) a ≡ digits (suc m) a
digits_enough zero a h = digits-one 1 a h ∙ sym (digits-one 0 a h)
digits_enough (suc m) a h = digits_same (suc m) a (digits_enough m (a / 10) (omega (arith, pow-suc 10 (suc m)))) (dec_lt a 10)

-- What a number below 10^20 looks like in decimal.
pub decimal-one : (a : ℕ) → a < 10 → decimal a ≡ (48 + a) ∷ []
unfolding decimal
decimal-one a h = rw (digits-one 19 a h, mod-eq_of_lt h)

pub decimal_more : (a : ℕ) → 10 ≤ a → a < 10 ^ 20 → decimal a ≡ decimal (a / 10) ++ ((48 + a % 10) ∷ [])
unfolding decimal
decimal_more a large h = digits_more 19 a large ∙ ap (λ (front : List ℕ). front ++ ((48 + a % 10) ∷ [])) (sym (digits_enough 18 (a / 10) (omega arith)))

-- The library's decimal digits are the same.
pub decimal_is : (a : ℕ) → a < 10 ^ 20 → library.decimal a ≡ decimal a
decimal_is a h =
    decimal_by_steps_wide (λ n text. n < 10 ^ 20 → text ≡ decimal n)
    (λ n small h. sym (decimal-one n small))
    (λ n text large front h. rw (front (omega arith)) (sym (decimal_more n large h)))
    a (omega arith) h

-- A number below 10^(k + 1) has at most k + 1 digits.
at-most_more : (k m a : ℕ) → length (digits m (a / 10)) ≤ k → Dec (a < 10) → length (digits (suc m) a) ≤ suc k
at-most_more k m a h (yes small) = rw (digits-one m a small) (omega arith)
at-most_more k m a h (no large) = rw (digits_more m a (omega arith), length-append) (omega arith)

digits-at-most : (k m a : ℕ) → a < 10 ^ suc k → length (digits m a) ≤ suc k
digits-at-most k zero a h = unfold digits in omega arith
digits-at-most zero (suc m) a h = rw (digits-one m a h) (omega arith)
digits-at-most (suc k) (suc m) a h = at-most_more (suc k) m a (digits-at-most k m (a / 10) (omega (arith, pow-suc 10 (suc k)))) (dec_lt a 10)

pub decimal-at-most : (k a : ℕ) → a < 10 ^ suc k → length (decimal a) ≤ suc k
unfolding decimal
decimal-at-most k a h = digits-at-most k 20 a h

-- One of 64 bits has at most 20.
pub decimal_short : (a : ℕ) → a < 2 ^ 64 → length (decimal a) ≤ 20
decimal_short a h = decimal-at-most 19 a (omega arith)

-- No hexadecimal digits; the last of m and those before it; there are as many as asked for.
pub hexadecimal-none : (a : ℕ) → hexadecimal 0 a ≡ []
unfolding hexadecimal
hexadecimal-none a = refl

pub hexadecimal_more : (m a : ℕ) → 0 < m → hexadecimal m a ≡ hexadecimal (m - 1) (a / 16) ++ ((cond (ltb (a % 16) 10) 48 87 + a % 16) ∷ [])
unfolding hexadecimal
hexadecimal_more zero a h = absurd (omega arith)
hexadecimal_more (suc m) a h = rw (sub-one (suc m))

pub length-hexadecimal : (m a : ℕ) → length (hexadecimal m a) ≡ m
unfolding hexadecimal
length-hexadecimal zero a = refl
length-hexadecimal (suc m) a = rw length-append (omega (arith, length-hexadecimal m (a / 16)))
