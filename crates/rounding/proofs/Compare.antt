-- Comparisons of good numbers are the comparisons of their amounts.
use mathlib.Core.Path.{◌≡◌, sym, ap, ap₂, ◌∙◌}
use mathlib.Core.Logic.{⊎_elim}
use Prim.Native.Nat.{ℕ, ◌*◌, ◌^◌, ◌<◌}
use native.Mathlib.Nat.{mul-lt-mul_of_pos_right, lt_of_mul-lt-mul_right, eq_of_mul-eq-mul_right, mul-pos, mul_assoc, mul_comm, mul_right_comm, eq-or-lt_of_le, le_of_lt, le_of_eq}
use mathlib.Core.Bool.{Bool, false, ◌||◌, and-true}
use lib.IntN.{ℤ}
use lib.Dec.{leb, ltb, eqb, leb→le, le→leb, ltb→lt, lt→ltb, eqb→eq}
use lib.Pow.{pow_pos}
use lib.Ieee.{Float, fin, Format, low, up, down, lt, eq, le}
use lib.Ieee.Fits.{down_pos, eq→eqb}
use Rattle.rounding.specs.Good.{GoodIn}
use Rattle.rounding.proofs.Value.{amount, by_parts, value}
use Rattle.exact.proofs.Bools.{same_truth, or_l, or_r, or_cases}

pub ltb_scale : (a b k : ℕ) → 0 < k → ltb (a * k) (b * k) ≡ ltb a b
ltb_scale a b k K =
    same_truth (ltb (a * k) (b * k)) (ltb a b)
    (λ t. lt→ltb a b (lt_of_mul-lt-mul_right k (ltb→lt (a * k) (b * k) t)))
    (λ t. lt→ltb (a * k) (b * k) (mul-lt-mul_of_pos_right (ltb→lt a b t) K))

pub eqb_scale : (a b k : ℕ) → 0 < k → eqb (a * k) (b * k) ≡ eqb a b
eqb_scale a b k K =
    same_truth (eqb (a * k) (b * k)) (eqb a b)
    (λ t. eq→eqb (eq_of_mul-eq-mul_right k K a b (eqb→eq (a * k) (b * k) t)))
    (λ t. eq→eqb (ap (λ (z : ℕ). z * k) (eqb→eq a b t)))

-- a / p and b / q against u / l and v / l, to which they are equal, for a test that a common factor does not change
transfer : (test : ℕ → ℕ → Bool) → ((a b k : ℕ) → 0 < k → test (a * k) (b * k) ≡ test a b)
    → (a p b q u v l : ℕ) → 0 < p → 0 < q → 0 < l → a * l ≡ u * p → b * l ≡ v * q → test (a * q) (b * p) ≡ test u v
transfer test scale a p b q u v l P Q L h k =
    sym (scale (a * q) (b * p) l L)
    ∙ ap₂ test (mul_right_comm a q l ∙ ap (λ (z : ℕ). z * q) h ∙ mul_assoc u p q) (mul_right_comm b p l ∙ ap (λ (z : ℕ). z * p) k ∙ mul_assoc v q p ∙ ap (λ (z : ℕ). v * z) (mul_comm q p))
    ∙ scale u v (p * q) (mul-pos P Q)

pub le_test : (a b : ℕ) → (ltb a b || eqb a b) ≡ leb a b
le_test a b =
    same_truth (ltb a b || eqb a b) (leb a b)
    (λ t. le→leb a b (⊎_elim (λ l. le_of_lt (ltb→lt a b l)) (λ e. le_of_eq (eqb→eq a b e)) (or_cases (ltb a b) (eqb a b) t)))
    (λ t. ⊎_elim (λ e. or_r (ltb a b) (eqb a b) (eq→eqb e)) (λ l. or_l (ltb a b) (eqb a b) (lt→ltb a b l)) (eq-or-lt_of_le (leb→le a b t)))

parts_lt : (f : Format) (m : ℕ) (e : ℤ) (n : ℕ) (d : ℤ) → GoodIn f (fin false m e) → GoodIn f (fin false n d)
    → lt (fin false m e) (fin false n d) ≡ ltb (amount f (fin false m e)) (amount f (fin false n d))
unfolding lt
parts_lt f m e n d g h =
    transfer ltb ltb_scale (m * up e) (down e) (n * up d) (down d) (amount f (fin false m e)) (amount f (fin false n d)) (2 ^ low f)
    (down_pos e) (down_pos d) (pow_pos (low f)) (value g).1 (value h).1

parts_eq : (f : Format) (m : ℕ) (e : ℤ) (n : ℕ) (d : ℤ) → GoodIn f (fin false m e) → GoodIn f (fin false n d)
    → eq (fin false m e) (fin false n d) ≡ eqb (amount f (fin false m e)) (amount f (fin false n d))
unfolding eq
parts_eq f m e n d g h =
    and-true (eqb (m * up e * down d) (n * up d * down e))
    ∙ transfer eqb eqb_scale (m * up e) (down e) (n * up d) (down d) (amount f (fin false m e)) (amount f (fin false n d)) (2 ^ low f)
    (down_pos e) (down_pos d) (pow_pos (low f)) (value g).1 (value h).1

-- two good numbers by their parts
pub by_both : (f : Format) (P : Float → Float → Type 0)
    → ((m : ℕ) (e : ℤ) (n : ℕ) (d : ℤ) → GoodIn f (fin false m e) → GoodIn f (fin false n d) → P (fin false m e) (fin false n d))
    → {x y : Float} → GoodIn f x → GoodIn f y → P x y
by_both f P h {x} {y} g k = by_parts f (λ x. P x y) (λ m e g'. by_parts f (λ y. P (fin false m e) y) (λ n d k'. h m e n d g' k') y k) x g

module _ {f : Format} {x y : Float} (g : GoodIn f x) (h : GoodIn f y) where
  pub lt_amounts : lt x y ≡ ltb (amount f x) (amount f y)
  lt_amounts = by_both f (λ x y. lt x y ≡ ltb (amount f x) (amount f y)) (parts_lt f) g h

  pub eq_amounts : eq x y ≡ eqb (amount f x) (amount f y)
  eq_amounts = by_both f (λ x y. eq x y ≡ eqb (amount f x) (amount f y)) (parts_eq f) g h

  pub le_amounts : le x y ≡ leb (amount f x) (amount f y)
  unfolding le
  le_amounts = ap₂ ◌||◌ lt_amounts eq_amounts ∙ le_test (amount f x) (amount f y)
