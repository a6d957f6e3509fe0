-- Integers by their two parts: equations and inequalities of integers are those of whole numbers.
use mathlib.Core.Path.{◌≡◌, refl, ap, subst}
use mathlib.Core.Bool.{Bool, true, false, not, cond}
use Prim.Native.Nat.{ℕ, zero, suc, ◌+◌, ◌*◌, ◌-◌, ◌≤◌, ◌<◌}
use native.Mathlib.Omega.{arith}
use lib.Dec.{T, ltb, ltb→lt, nltb→le, le→leb}
use lib.IntN.{ℤ, pos, negsuc, neg_ℤ, sub_ℕ, ◌+ℤ◌, ◌*ℤ◌}
use lib.Signed.{◌≤ℤ◌, le_z_yes}
use Rattle.inverse.specs.Reduction.{plus_part, minus_part}

-- Two integers are equal, or in order, as the sums of their parts are.
pub of_parts : (z w : ℤ) → plus_part z + minus_part w ≡ plus_part w + minus_part z → z ≡ w
of_parts (pos a) (pos b) h = ap pos (omega arith)
of_parts (pos a) (negsuc b) h = absurd (omega arith)
of_parts (negsuc a) (pos b) h = absurd (omega arith)
of_parts (negsuc a) (negsuc b) h = ap negsuc (omega arith)

pub to_parts : {z w : ℤ} → z ≡ w → plus_part z + minus_part w ≡ plus_part w + minus_part z
to_parts {z} e = subst (λ w. plus_part z + minus_part w ≡ plus_part w + minus_part z) e refl

pub le_of_parts : (z w : ℤ) → plus_part z + minus_part w ≤ plus_part w + minus_part z → z ≤ℤ w
le_of_parts (pos a) (pos b) h = le_z_yes (le→leb a b (omega arith))
le_of_parts (pos a) (negsuc b) h = absurd (omega arith)
le_of_parts (negsuc a) (pos b) h = le_z_yes tt
le_of_parts (negsuc a) (negsuc b) h = le_z_yes (le→leb b a (omega arith))

-- The parts of −z, of −a for a whole number a, and of a − b.
pub neg_plus : (z : ℤ) → plus_part (neg_ℤ z) ≡ minus_part z
neg_plus (pos zero) = refl
neg_plus (pos (suc n)) = refl
neg_plus (negsuc n) = refl

pub neg-minus : (z : ℤ) → minus_part (neg_ℤ z) ≡ plus_part z
neg-minus (pos zero) = refl
neg-minus (pos (suc n)) = refl
neg-minus (negsuc n) = refl

pub difference_parts : (a b : ℕ) → plus_part (sub_ℕ a b) + b ≡ a + minus_part (sub_ℕ a b)
difference_parts a b = go (ltb a b) (λ t. ltb→lt a b t) (λ t. nltb→le a b t)
  where
    go : (c : Bool) → (T c → a < b) → (T (not c) → b ≤ a) → plus_part (cond c (negsuc (b - suc a)) (pos (a - b))) + b ≡ a + minus_part (cond c (negsuc (b - suc a)) (pos (a - b)))
    go true h g = let l : a < b = h tt in omega arith
    go false h g = let l : b ≤ a = g tt in omega arith

-- The parts of a sum and of a product.
pub sum_parts :
    (z w : ℤ)
    → plus_part (z +ℤ w) + (minus_part z + minus_part w) ≡ plus_part z + plus_part w + minus_part (z +ℤ w)
sum_parts (pos a) (pos b) = omega arith
sum_parts (pos a) (negsuc b) = omega (arith, difference_parts a (suc b))
sum_parts (negsuc a) (pos b) = omega (arith, difference_parts b (suc a))
sum_parts (negsuc a) (negsuc b) = omega arith

pub product_parts :
    (z w : ℤ)
    → plus_part (z *ℤ w) + (plus_part z * minus_part w + minus_part z * plus_part w)
    ≡ plus_part z * plus_part w + minus_part z * minus_part w + minus_part (z *ℤ w)
product_parts (pos a) (pos b) = omega arith
product_parts (pos a) (negsuc b) = omega (arith, neg_plus (pos (a * suc b)), neg-minus (pos (a * suc b)))
product_parts (negsuc a) (pos b) = omega (arith, neg_plus (pos (suc a * b)), neg-minus (pos (suc a * b)))
product_parts (negsuc a) (negsuc b) = omega arith
