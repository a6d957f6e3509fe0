-- How far `round` is from the fraction that it rounds, in whole numbers: n / c to p digits. Nothing here is about floats.
use mathlib.Core.Path.{◌≡◌, sym, ap, ◌∙◌, subst}
use mathlib.Core.Logic.{◌↔◌}
use Prim.Native.Nat.{ℕ, suc, ◌+◌, ◌-◌, ◌*◌, ◌/◌, ◌%◌, ◌^◌, ◌≤◌, ◌<◌, zero-le, compare, Ordering}
use native.Mathlib.Nat.{le_of_mul-le-mul_right, eq_of_mul-eq-mul_right, le_antisymm, le_of_suc-le-suc, lt_of_not-le, zero-mul, le_trans, le_of_eq, mul_assoc, mul_comm, mul-le-mul_right, mul-pos, mod-lt, div-add-mod', le-div_iff_mul-le, pow-succ'}
use native.Mathlib.Omega.{arith}
use mathlib.Core.Bool.{not}
use lib.Dec.{T, is_le, compare_is_eq, leb→le, nleb→lt, eqb→eq}
use lib.Pow.{pow-add, pow_pos}
use lib.Ieee.{size, nearest}
use lib.Ieee.Digits.{size_reaches}
use lib.Ieee.Nearest.{closest, nearest-ge}
use lib.Ieee.Order.{drop, kept}

-- ---- the nearest whole number is at most a half away
record Half (n c k : ℕ) : Type 0 where
  over : k * c * 2 ≤ n * 2 + c
  short : n * 2 ≤ k * c * 2 + c

stay : (q r c : ℕ) → r * 2 ≤ c → Half (q * c + r) c q
stay q r c h = record { over = omega arith; short = omega arith }

bit : (q c : ℕ) → q % 2 * c ≤ c
bit q c = le_trans (mul-le-mul_right c (one q)) (omega arith)
  where
    one : (q : ℕ) → q % 2 ≤ 1
    one q = omega arith

to_even : (q t r c : ℕ) → r * 2 ≡ c → t * c ≤ c → Half (q * c + r) c (q + t)
to_even q t r c h l = record { over = omega arith; short = omega arith }

move : (q r c : ℕ) → c < r * 2 → r < c → Half (q * c + r) c (suc q)
move q r c h l = record { over = omega arith; short = omega arith }

half : (n c : ℕ) → 0 < c → Half n c (closest n c)
half n c C = subst (λ (z : ℕ). Half z c (closest n c)) (div-add-mod' n c) (go (compare (n % c * 2) c) (leb→le (n % c * 2) c) (nleb→lt (n % c * 2) c) (eqb→eq (n % c * 2) c))
  where
    go : (o : Ordering) → (T (is_le o) → n % c * 2 ≤ c) → (T (not (is_le o)) → c < n % c * 2) → (T (compare_is_eq o) → n % c * 2 ≡ c) → Half (n / c * c + n % c) c (nearest (n / c) o)
    go Ordering.lt l g e = stay (n / c) (n % c) c (l tt)
    go Ordering.eq l g e = to_even (n / c) (n / c % 2) (n % c) c (e tt) (bit (n / c) c)
    go Ordering.gt l g e = move (n / c) (n % c) c (g tt) (mod-lt n C)

-- ---- a whole number is its own nearest
no_more : (a b u : ℕ) → 0 < u → a * u * 2 ≤ b * u * 2 + u → a ≤ b
no_more a b u U h = le_of_suc-le-suc (lt_of_not-le (λ (g : suc b ≤ a). clash (mul-le-mul_right u g)))
  where
    clash : suc b * u ≤ a * u → ⊥
    clash g = omega arith

pub closest-exact : (q u : ℕ) → 0 < u → closest (q * u) u ≡ q
closest-exact q u U = let h = half (q * u) u U in le_antisymm (no_more (closest (q * u) u) q u U h.over) (no_more q (closest (q * u) u) u U h.short)

-- ---- x and y within one part in B of each other
pub record OnePartIn (B x y : ℕ) : Type 0 where
  pub upper : x * B ≤ y * suc B
  pub lower : y * B ≤ x * suc B

pub within_same : (B x : ℕ) → OnePartIn B x x
within_same B x = record { upper = omega arith; lower = omega arith }

pub within_cancel : (B x y l : ℕ) → 0 < l → OnePartIn B (x * l) (y * l) → OnePartIn B x y
within_cancel B x y l L w =
    let a : x * B * l ≤ y * suc B * l = omega arith in
    let b : y * B * l ≤ x * suc B * l = omega arith in
    record { upper = le_of_mul-le-mul_right a L; lower = le_of_mul-le-mul_right b L }

-- So one is zero where the other is.
pub within-zero : (B x y : ℕ) → 0 < B → OnePartIn B x y → (x ≡ 0) ↔ (y ≡ 0)
within-zero B x y P w = (λ e. none y x w.lower e, λ e. none x y w.upper e)
  where
    none : (a b : ℕ) → a * B ≤ b * suc B → b ≡ 0 → a ≡ 0
    none a b h e = eq_of_mul-eq-mul_right B P a 0 (le_antisymm (le_trans h (le_of_eq (ap (λ (z : ℕ). z * suc B) e ∙ zero-mul (suc B) ∙ sym (zero-mul B)))) (rw zero-mul zero-le))

-- n / c in the normal range: its whole part has p digits at least. Then a half of the last digit is one part in 2 ^ p at most.
near : (H n k u : ℕ) → Half n u k → H * u ≤ n → H ≤ k → OnePartIn (2 * H) (k * u) n
near H n k u h w l =
    let a = mul-le-mul_right H h.over in
    let b = mul-le-mul_right H h.short in
    let d = mul-le-mul_right u l in
    record { upper = omega arith; lower = omega arith }

all_digits : (z p : ℕ) → 0 < p → p ≤ z → p - 1 + (z - p) < z
all_digits z p P h = omega arith

twice : (p : ℕ) → 0 < p → 2 ^ p ≡ 2 * 2 ^ (p - 1)
twice p h = ap (λ (x : ℕ). 2 ^ x) (one_more p h) ∙ pow-succ' 2 (p - 1)
  where
    one_more : (p : ℕ) → 0 < p → p ≡ suc (p - 1)
    one_more p h = omega arith

module _ (p n c : ℕ) (P : 0 < p) (C : 0 < c) (N : p ≤ size (n / c)) where
  unit-pos : 0 < c * 2 ^ drop p n c
  unit-pos = mul-pos C (pow_pos (drop p n c))

  fraction_ge : 2 ^ (p - 1) * (c * 2 ^ drop p n c) ≤ n
  fraction_ge =
      le_trans (le_of_eq (ap (λ (x : ℕ). 2 ^ (p - 1) * x) (mul_comm c (2 ^ drop p n c)) ∙ sym (mul_assoc (2 ^ (p - 1)) (2 ^ drop p n c) c) ∙ ap (λ (x : ℕ). x * c) (sym (pow-add 2 (p - 1) (drop p n c)))))
      ((le-div_iff_mul-le C).0 (size_reaches (n / c) (p - 1 + drop p n c) (all_digits (size (n / c)) p P N)))

  kept_ge : 2 ^ (p - 1) ≤ kept p n c
  kept_ge = le_trans ((le-div_iff_mul-le unit-pos).1 fraction_ge) (nearest-ge (n / (c * 2 ^ drop p n c)) (compare (n % (c * 2 ^ drop p n c) * 2) (c * 2 ^ drop p n c)))

  pub kept_near : OnePartIn (2 ^ p) (kept p n c * 2 ^ drop p n c * c) n
  kept_near =
      rw (twice p P)
      (subst (λ (x : ℕ). OnePartIn (2 * 2 ^ (p - 1)) x n) (ap (λ (x : ℕ). kept p n c * x) (mul_comm c (2 ^ drop p n c)) ∙ sym (mul_assoc (kept p n c) (2 ^ drop p n c) c))
      (near (2 ^ (p - 1)) n (kept p n c) (c * 2 ^ drop p n c) (half n (c * 2 ^ drop p n c) unit-pos) fraction_ge kept_ge))
