-- A good number as a whole number of the format's smallest values (`amount`), in every format. For binary64 that is `units`.
use mathlib.Core.Path.{◌≡◌, refl, sym, ap, ◌∙◌}
use Prim.Native.Nat.{ℕ, zero, suc, ◌+◌, ◌-◌, ◌*◌, ◌/◌, ◌%◌, ◌^◌, ◌≤◌, ◌<◌}
use native.Mathlib.Nat.{sub-add_cancel, mul_left_comm, mul-pos, mul-le-mul_right, le_trans, le_of_eq, le_of_suc-le-suc, lt_of_not-le, lt_irrefl, lt_of_lt_of_le, mul_assoc, mul_comm, mul-one, one-mul, mul-div_cancel, mul-lt-mul_of_pos_right, lt_of_mul-lt-mul_right, zero-mul}
use mathlib.Core.Bool.{Bool, true, false, ◌&&◌, cond, true≢false}
use lib.IntN.{ℤ, pos, negsuc}
use lib.Dec.{T, leb, ltb, eqb, leb→le, le→leb, ltb→lt, lt→ltb, eqb→eq}
use lib.Pow.{pow-add, pow_pos, pow-lt}
use lib.Ieee.{Float, nan, inf, fin, Format, prec, emax, low, up, down, size, fits, hid, top, to_bits, of_bits}
use lib.Ieee.Fits.{and_i, and_l, and_r, eq→eqb, up_pos, down_pos}
use lib.Ieee.Exact.{HasValue}
use lib.Ieee.Bits.{of_bits-to_bits}
use Rattle.rounding.specs.Good.{GoodIn}

unfoldable pub amount : Format → Float → ℕ
amount f nan = 0
amount f (inf s) = 0
amount f (fin s m e) = m * up e * 2 ^ low f / down e

-- A good number is `fin false m e`: what holds of all those holds of it.
pub by_parts : (f : Format) (P : Float → Type 0) → ((m : ℕ) (e : ℤ) → GoodIn f (fin false m e) → P (fin false m e)) → (x : Float) → GoodIn f x → P x
by_parts f P h nan g = absurd g.plus
by_parts f P h (inf s) g = absurd g.plus
by_parts f P h (fin true m e) g = absurd g.plus
by_parts f P h (fin false m e) g = h m e g

-- ---- what it takes to fit

one-le : (a b : ℕ) → 0 < a → a * b ≡ 1 → b ≤ 1
one-le a b h e = le_trans (le_of_eq (sym (one-mul b))) (le_trans (mul-le-mul_right b h) (le_of_eq e))

-- The tests of `fits` that hold of a zero too.
pub record Fit (f : Format) (m : ℕ) (e : ℤ) : Type 0 where
  pub few : m < 2 ^ prec f
  pub deep : down e ≤ 2 ^ low f
  pub under : m * up e < 2 ^ suc (emax f) * down e

-- And all that they say of a number that is not zero.
pub record Tests (f : Format) (m : ℕ) (e : ℤ) : Type 0 where
  pub odd : suc m % 2 ≡ 1
  pub fit : Fit f (suc m) e

pub tests : (f : Format) (s : Bool) (m : ℕ) (e : ℤ) → T (fits f (fin s (suc m) e)) → Tests f m e
unfolding fits
tests f s m e t =
    let A = eqb (suc m % 2) 1 in
    let B = ltb (suc m) (2 ^ prec f) in
    let C = leb (down e) (2 ^ low f) in
    let D = ltb (suc m * up e) (2 ^ suc (emax f) * down e) in
    let AB = and_l (A && B) C (and_l (A && B && C) D t) in
    record {
      odd = eqb→eq (suc m % 2) 1 (and_l A B AB);
      fit =
          record {
            few = ltb→lt (suc m) (2 ^ prec f) (and_r A B AB);
            deep = leb→le (down e) (2 ^ low f) (and_r (A && B) C (and_l (A && B && C) D t));
            under = ltb→lt (suc m * up e) (2 ^ suc (emax f) * down e) (and_r (A && B && C) D t);
          };
    }

pub fit : (f : Format) (s : Bool) (m : ℕ) (e : ℤ) → T (fits f (fin s m e)) → Fit f m e
unfolding fits
fit f s zero e t =
    record {
      few = pow_pos (prec f);
      deep = le_trans (one-le (up e) (down e) (up_pos e) (eqb→eq (up e * down e) 1 t)) (pow_pos (low f));
      under = rw zero-mul (mul-pos (pow_pos (suc (emax f))) (down_pos e));
    }
fit f s (suc m) e t = (tests f s m e t).fit

-- The same digits under another exponent.
pub refit : (f : Format) (s : Bool) (m : ℕ) (e e' : ℤ) → T (fits f (fin s (suc m) e)) → down e' ≤ 2 ^ low f → suc m * up e' < 2 ^ suc (emax f) * down e'
    → T (fits f (fin s (suc m) e'))
unfolding fits
refit f s m e e' t deep under =
    let known = tests f s m e t in
    let A = eqb (suc m % 2) 1 in
    let B = ltb (suc m) (2 ^ prec f) in
    let C = leb (down e') (2 ^ low f) in
    and_i (A && B && C) (ltb (suc m * up e') (2 ^ suc (emax f) * down e'))
    (and_i (A && B) C (and_i A B (eq→eqb known.odd) (lt→ltb (suc m) (2 ^ prec f) known.fit.few)) (le→leb (down e') (2 ^ low f) deep))
    (lt→ltb (suc m * up e') (2 ^ suc (emax f) * down e') under)

-- ---- a number that fits is q * 2 ^ j smallest values

pow_le_back : (a l : ℕ) → 2 ^ a ≤ 2 ^ l → a ≤ l
pow_le_back a l h = le_of_suc-le-suc (lt_of_not-le (λ (g : suc l ≤ a). lt_irrefl (2 ^ l) (lt_of_lt_of_le (pow-lt g) h)))

-- 2 ^ e is 2 ^ j over 2 ^ l.
place : (l : ℕ) (e : ℤ) → down e ≤ 2 ^ l → (j : ℕ) × (up e * 2 ^ l ≡ 2 ^ j * down e)
place l (pos a) h = (a + l, sym (pow-add 2 a l) ∙ sym (mul-one (2 ^ (a + l))))
place l (negsuc a) h =
    let le : suc a ≤ l = pow_le_back (suc a) l h in
    (l - suc a, one-mul (2 ^ l) ∙ ap (λ (x : ℕ). 2 ^ x) (sym (sub-add_cancel le)) ∙ pow-add 2 (l - suc a) (suc a))

pub record Digits (f : Format) (a : ℕ) : Type 0 where
  pub q : ℕ
  pub j : ℕ
  pub few : q < 2 ^ prec f
  pub is : a ≡ q * 2 ^ j

amount_is : (f : Format) (s : Bool) (m : ℕ) (e : ℤ) → amount f (fin s m e) ≡ m * up e * 2 ^ low f / down e
unfolding amount
amount_is f s m e = refl

pub amount_of_value : (f : Format) (x : Float) (s : Bool) (a : ℕ) → HasValue x s a (2 ^ low f) → amount f x ≡ a
amount_of_value f nan s a h = absurd h
amount_of_value f (inf t) s a h = absurd h
amount_of_value f (fin t m e) s a h = amount_is f t m e ∙ ap (λ (x : ℕ). x / down e) h.1 ∙ mul-div_cancel a (down_pos e)

module _ (f : Format) (s : Bool) (m : ℕ) (e : ℤ) (k : Fit f m e) where
  exact : m * up e * 2 ^ low f ≡ m * 2 ^ (place (low f) e k.deep).0 * down e
  exact = mul_assoc m (up e) (2 ^ low f) ∙ ap (λ (x : ℕ). m * x) (place (low f) e k.deep).1 ∙ sym (mul_assoc m (2 ^ (place (low f) e k.deep).0) (down e))

  amount-power : amount f (fin s m e) ≡ m * 2 ^ (place (low f) e k.deep).0
  amount-power = amount_of_value f (fin s m e) s (m * 2 ^ (place (low f) e k.deep).0) (refl, exact)

  fin-value : HasValue (fin s m e) s (amount f (fin s m e)) (2 ^ low f)
  fin-value = (refl, exact ∙ ap (λ (x : ℕ). x * down e) (sym amount-power))

  fin-digits : Digits f (amount f (fin s m e))
  fin-digits = record { q = m; j = (place (low f) e k.deep).0; few = k.few; is = amount-power }

  fin_under : amount f (fin s m e) < 2 ^ (low f + suc (emax f))
  fin_under = lt_of_mul-lt-mul_right (down e)
      (rw (← fin-value.1) (rw pow-add (lt_of_lt_of_le (mul-lt-mul_of_pos_right k.under (pow_pos (low f))) (le_of_eq (simp (mul_assoc, mul_comm, mul_left_comm))))))

-- Of a number of either sign that the format holds: "m·up e·2^low = amount·down e", the amount is exactly its size.
module _ (f : Format) (s : Bool) (m : ℕ) (e : ℤ) (t : T (fits f (fin s m e))) where
  pub held_value : HasValue (fin s m e) s (amount f (fin s m e)) (2 ^ low f)
  held_value = fin-value f s m e (fit f s m e t)

  pub held_digits : Digits f (amount f (fin s m e))
  held_digits = fin-digits f s m e (fit f s m e t)

  pub held_lt : amount f (fin s m e) < 2 ^ (low f + suc (emax f))
  held_lt = fin_under f s m e (fit f s m e t)

module _ {f : Format} {x : Float} (g : GoodIn f x) where
  pub value : HasValue x false (amount f x) (2 ^ low f)
  value = by_parts f (λ x. HasValue x false (amount f x) (2 ^ low f)) (λ m e g. held_value f false m e g.held) x g

  pub digits : Digits f (amount f x)
  digits = by_parts f (λ x. Digits f (amount f x)) (λ m e g. held_digits f false m e g.held) x g

-- ---- sign and amount tell the number: `to_bits` sees nothing else
bits : Format → Bool → ℕ → ℕ
bits f s n = cond s (top f) 0 + (size n - prec f) * hid f + n / 2 ^ (size n - prec f)

to_bits-bits : (f : Format) (s : Bool) (m : ℕ) (e : ℤ) → to_bits f (fin s m e) ≡ bits f s (amount f (fin s m e))
unfolding to_bits bits amount
to_bits-bits f s m e = refl

pub held_unique : (f : Format) (s : Bool) (m : ℕ) (e : ℤ) (n : ℕ) (d : ℤ) → T (fits f (fin s m e)) → T (fits f (fin s n d))
    → amount f (fin s m e) ≡ amount f (fin s n d) → fin s m e ≡ fin s n d
held_unique f s m e n d g h same =
    sym (of_bits-to_bits f (fin s m e) g)
    ∙ ap (of_bits f) (to_bits-bits f s m e ∙ ap (bits f s) same ∙ sym (to_bits-bits f s n d))
    ∙ of_bits-to_bits f (fin s n d) h

pub unique : {f : Format} {x y : Float} → GoodIn f x → GoodIn f y → amount f x ≡ amount f y → x ≡ y
unique {f} {x} {y} g h =
    by_parts f (λ x. amount f x ≡ amount f y → x ≡ y)
    (λ m e g. by_parts f (λ y. amount f (fin false m e) ≡ amount f y → fin false m e ≡ y) (λ n d h. held_unique f false m e n d g.held h.held) y h)
    x g

-- ---- a value that is not negative and fits is good
pub of_value : (f : Format) (x : Float) (a c : ℕ) → HasValue x false a c → T (fits f x) → GoodIn f x
of_value f nan a c h t = absurd h
of_value f (inf s) a c h t = absurd h
of_value f (fin true m e) a c h t = absurd (true≢false h.0)
of_value f (fin false m e) a c h t = record { plus = tt; held = t }
