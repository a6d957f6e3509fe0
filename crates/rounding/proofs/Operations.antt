-- On good numbers add, multiply and divide are `round` of a fraction of whole numbers; the laws follow from that.
use mathlib.Core.Path.{◌≡◌, sym, ap, ap₂, ◌∙◌}
use mathlib.Core.Logic.{inl, inr}
use Prim.Native.Nat.{ℕ, ◌+◌, ◌-◌, ◌*◌, ◌^◌, ◌≤◌, ◌<◌}
use native.Mathlib.Nat.{mul-pos, mul_assoc, mul-mul-mul_comm, eq_of_mul-eq-mul_right, lt_irrefl, add-zero, zero-add, eq-zero-or-pos, mul-le-mul_right, mul-le-mul}
use native.Mathlib.Omega.{arith}
use mathlib.Core.Bool.{Bool, true, false, not, cond}
use lib.IntN.{ℤ, pos}
use lib.Dec.{T, eqb, eqb→eq, not_T}
use lib.Pow.{pow_pos}
use lib.Ieee.{Float, nan, inf, fin, Format, prec, low, up, down, round, add, mul, div}
use lib.Ieee.Fits.{down_pos}
use lib.Ieee.Bits.{cond_no}
use lib.Ieee.Scale.{round_same, finite}
use lib.Ieee.Positive.{first_pos}
use Rattle.rounding.specs.Good.{GoodIn}
use Rattle.rounding.proofs.Value.{amount, value, unique, by_parts}
use Rattle.rounding.proofs.Compare.{by_both}
use Rattle.rounding.proofs.Grid.{OnePartIn, within_cancel}
use Rattle.rounding.proofs.Round.{round-good, round_above, round_back, round-zero, whole_near, zero-good, zero-amount, Below, round-below}

-- ---- the fractions: a / p is u / l and b / q is v / l
sum_cross : (a p b q u v l : ℕ) → a * l ≡ u * p → b * l ≡ v * q → (a * q + b * p) * l ≡ (u + v) * (p * q)
sum_cross a p b q u v l h k =
    let x = ap (λ (z : ℕ). z * q) h in
    let y = ap (λ (z : ℕ). z * p) k in
    omega arith

mul_cross : (a p b q u v l : ℕ) → a * l ≡ u * p → b * l ≡ v * q → a * b * (l * l) ≡ u * v * (p * q)
mul_cross a p b q u v l h k = mul-mul-mul_comm a b l l ∙ ap₂ (λ (x y : ℕ). x * y) h k ∙ mul-mul-mul_comm u p v q

div_cross : (a p b q u v l : ℕ) → 0 < l → a * l ≡ u * p → b * l ≡ v * q → a * q * v ≡ u * (b * p)
div_cross a p b q u v l L h k =
    eq_of_mul-eq-mul_right l L (a * q * v) (u * (b * p))
    (let x = ap (λ (z : ℕ). z * (q * v)) h in
    let y = ap (λ (z : ℕ). u * p * z) k in
    omega arith)

above : (b q v l : ℕ) → 0 < v → 0 < q → b * l ≡ v * q → 0 < b
above b q v l p r h = first_pos b l (rw h (mul-pos p r))

not-zero : (n : ℕ) → 0 < n → T (not (eqb n 0))
not-zero n h = not_T (eqb n 0) (λ t. lt_irrefl 0 (rw (eqb→eq n 0 t) at h))

parts_add : (f : Format) (m : ℕ) (e : ℤ) (n : ℕ) (d : ℤ) → GoodIn f (fin false m e) → GoodIn f (fin false n d)
    → add f (fin false m e) (fin false n d) ≡ round f false (amount f (fin false m e) + amount f (fin false n d)) (2 ^ low f)
unfolding add
parts_add f m e n d g h =
    round_same f false (m * up e * down d + n * up d * down e) (down e * down d) (amount f (fin false m e) + amount f (fin false n d)) (2 ^ low f)
    (mul-pos (down_pos e) (down_pos d)) (pow_pos (low f))
    (sum_cross (m * up e) (down e) (n * up d) (down d) (amount f (fin false m e)) (amount f (fin false n d)) (2 ^ low f) (value g).1 (value h).1)

parts_mul : (f : Format) (m : ℕ) (e : ℤ) (n : ℕ) (d : ℤ) → GoodIn f (fin false m e) → GoodIn f (fin false n d)
    → mul f (fin false m e) (fin false n d) ≡ round f false (amount f (fin false m e) * amount f (fin false n d)) (2 ^ low f * 2 ^ low f)
unfolding mul
parts_mul f m e n d g h =
    round_same f false (m * up e * (n * up d)) (down e * down d) (amount f (fin false m e) * amount f (fin false n d)) (2 ^ low f * 2 ^ low f)
    (mul-pos (down_pos e) (down_pos d)) (mul-pos (pow_pos (low f)) (pow_pos (low f)))
    (mul_cross (m * up e) (down e) (n * up d) (down d) (amount f (fin false m e)) (amount f (fin false n d)) (2 ^ low f) (value g).1 (value h).1)

parts_div : (f : Format) (m : ℕ) (e : ℤ) (n : ℕ) (d : ℤ) → GoodIn f (fin false m e) → GoodIn f (fin false n d) → 0 < amount f (fin false n d)
    → div f (fin false m e) (fin false n d) ≡ round f false (amount f (fin false m e)) (amount f (fin false n d))
unfolding div
parts_div f m e n d g h N =
    let b : 0 < n * up d = above (n * up d) (down d) (amount f (fin false n d)) (2 ^ low f) N (down_pos d) (value h).1 in
    cond_no (eqb n 0) (cond (eqb m 0) nan (inf false)) (round f false (m * up e * down d) (n * up d * down e)) (not-zero n (first_pos n (up d) b))
    ∙ round_same f false (m * up e * down d) (n * up d * down e) (amount f (fin false m e)) (amount f (fin false n d))
    (mul-pos b (down_pos e)) N
    (div_cross (m * up e) (down e) (n * up d) (down d) (amount f (fin false m e)) (amount f (fin false n d)) (2 ^ low f) (pow_pos (low f)) (value g).1 (value h).1)

module _ {f : Format} {x y : Float} (g : GoodIn f x) (h : GoodIn f y) where
  pub add_is : add f x y ≡ round f false (amount f x + amount f y) (2 ^ low f)
  add_is = by_both f (λ x y. add f x y ≡ round f false (amount f x + amount f y) (2 ^ low f)) (parts_add f) g h

  pub mul_is : mul f x y ≡ round f false (amount f x * amount f y) (2 ^ low f * 2 ^ low f)
  mul_is = by_both f (λ x y. mul f x y ≡ round f false (amount f x * amount f y) (2 ^ low f * 2 ^ low f)) (parts_mul f) g h

  pub div_is : 0 < amount f y → div f x y ≡ round f false (amount f x) (amount f y)
  div_is = by_both f (λ x y. 0 < amount f y → div f x y ≡ round f false (amount f x) (amount f y)) (parts_div f) g h

by_zero : (f : Format) (x : Float) → GoodIn f x → T (finite (div f x (fin false 0 (pos 0)))) → ⊥
unfolding div
by_zero f = by_parts f (λ x. T (finite (div f x (fin false 0 (pos 0)))) → ⊥) (λ m e g. none (eqb m 0))
  where
    none : (b : Bool) → T (finite (cond b nan (inf false))) → ⊥
    none true t = t
    none false t = t

-- ---- the laws, in every format
module _ {f : Format} {x y : Float} (g : GoodIn f x) (h : GoodIn f y) where
  pub add-good : T (finite (add f x y)) → GoodIn f (add f x y)
  add-good = rw (add_is g h) (round-good f (amount f x + amount f y) (2 ^ low f))

  pub add_near : T (finite (add f x y)) → OnePartIn (2 ^ prec f) (amount f (add f x y)) (amount f x + amount f y)
  add_near = rw (add_is g h) (whole_near f (amount f x + amount f y))

  pub mul-good : T (finite (mul f x y)) → GoodIn f (mul f x y)
  mul-good = rw (mul_is g h) (round-good f (amount f x * amount f y) (2 ^ low f * 2 ^ low f))

  -- Above 2 ^ (prec - 1) smallest values the result has all the digits that the format keeps.
  pub mul_near : T (finite (mul f x y)) → 2 ^ (prec f - 1) < amount f (mul f x y) → OnePartIn (2 ^ prec f) (amount f (mul f x y) * 2 ^ low f) (amount f x * amount f y)
  mul_near =
      rw (mul_is g h) (λ t n.
      within_cancel (2 ^ prec f) (amount f (round f false (amount f x * amount f y) (2 ^ low f * 2 ^ low f)) * 2 ^ low f) (amount f x * amount f y) (2 ^ low f) (pow_pos (low f))
      (rw (mul_assoc (amount f (round f false (amount f x * amount f y) (2 ^ low f * 2 ^ low f))) (2 ^ low f) (2 ^ low f)) (round_above f (amount f x * amount f y) (2 ^ low f * 2 ^ low f) t (mul-pos (pow_pos (low f)) (pow_pos (low f))) n)))

  pub div-good : 0 < amount f y → T (finite (div f x y)) → GoodIn f (div f x y)
  div-good N = rw (div_is g h N) (round-good f (amount f x) (amount f y))

  pub div_near : 0 < amount f y → T (finite (div f x y)) → 2 ^ (prec f - 1) < amount f (div f x y) → OnePartIn (2 ^ prec f) (amount f (div f x y) * amount f y) (amount f x * 2 ^ low f)
  div_near N = rw (div_is g h N) (λ t n. round_above f (amount f x) (amount f y) t N n)

  -- ---- a zero operand
  pub add-zero_right : amount f y ≡ 0 → add f x y ≡ x
  add-zero_right z = add_is g h ∙ ap (λ (a : ℕ). round f false a (2 ^ low f)) (ap (λ (b : ℕ). amount f x + b) z ∙ add-zero (amount f x)) ∙ round_back g

  pub add-zero-left : amount f x ≡ 0 → add f x y ≡ y
  add-zero-left z = add_is g h ∙ ap (λ (a : ℕ). round f false a (2 ^ low f)) (ap (λ (b : ℕ). b + amount f y) z ∙ zero-add (amount f y)) ∙ round_back h

  pub mul_of_zero : amount f x * amount f y ≡ 0 → mul f x y ≡ fin false 0 (pos 0)
  mul_of_zero z = mul_is g h ∙ ap (λ (a : ℕ). round f false a (2 ^ low f * 2 ^ low f)) z ∙ round-zero f (2 ^ low f * 2 ^ low f) (mul-pos (pow_pos (low f)) (pow_pos (low f)))

  pub div_of_zero : 0 < amount f y → amount f x ≡ 0 → div f x y ≡ fin false 0 (pos 0)
  div_of_zero N z = div_is g h N ∙ ap (λ (a : ℕ). round f false a (amount f y)) z ∙ round-zero f (amount f y) N

  -- ---- y is one
  pub mul_of_one : amount f y ≡ 2 ^ low f → mul f x y ≡ x
  mul_of_one e =
      let l = 2 ^ low f in
      mul_is g h
      ∙ ap (λ (a : ℕ). round f false (amount f x * a) (l * l)) e
      ∙ round_same f false (amount f x * l) (l * l) (amount f x) l (mul-pos (pow_pos (low f)) (pow_pos (low f))) (pow_pos (low f)) (mul_assoc (amount f x) l l)
      ∙ round_back g

  -- a finite quotient has a divisor that is not zero
  pub divisor-pos : T (finite (div f x y)) → 0 < amount f y
  divisor-pos t = elim (eq-zero-or-pos (amount f y)) [
    | inl z ↦ absurd (by_zero f x g (rw (unique h (zero-good f) (z ∙ sym (zero-amount f))) at t))
    | inr p ↦ p
  ]

-- ---- larger factors give no smaller product, and if that is finite, so is the smaller
module _ {f : Format} {x x' y y' : Float} (g : GoodIn f x) (g' : GoodIn f x') (h : GoodIn f y) (h' : GoodIn f y') (p : amount f x ≤ amount f x') where
  pub mul-below : amount f y ≤ amount f y' → T (finite (mul f x' y')) → Below f (mul f x y) (mul f x' y')
  mul-below q =
      let l = 2 ^ low f * 2 ^ low f in
      let L : 0 < l = mul-pos (pow_pos (low f)) (pow_pos (low f)) in
      rw (mul_is g h, mul_is g' h') (round-below f (amount f x * amount f y) l (amount f x' * amount f y') l L L (mul-le-mul_right l (mul-le-mul p q)))
