-- Sums of numbers look at their own terms alone.
use Prim.Native.Nat.{ℕ, zero, suc, ◌+◌, ◌≤◌, ◌<◌}
use mathlib.Core.Bool.{Bool, true, false, not, ◌&&◌, ◌||◌}
use mathlib.Core.Path.{◌≡◌, refl, ap₂}
use native.Mathlib.Omega.{arith}
use lib.Dec.{T}
use lib.Ieee.{Float}
use lib.Ieee.Fits.{and_l, and_r}
use Rattle.exact.proofs.Cases.{by_bool}
use Rattle.exact.proofs.Bools.{if_same}
use Rattle.definitions.specs.Numbers.{◌⊕◌, 0·0, add_in_range, sum, sum_in_range}
use Rattle.definitions.specs.Margins.{sum_with, sum_with_in_range}

pub sum_same : (x y : Float) (f g : ℕ → Float) (lo m : ℕ) → x ≡ y → ((i : ℕ) → lo ≤ i → i < lo + m → f i ≡ g i) → sum x f lo m ≡ sum y g lo m
unfolding sum
sum_same x y f g lo zero e h = e
sum_same x y f g lo (suc m) e h = ap₂ (λ a b. a ⊕ b) (sum_same x y f g lo m e (λ i l k. h i l (omega arith))) (h (lo + m) (omega arith) (omega arith))

pub sum_in_range_same : (x y : Float) (f g : ℕ → Float) (lo m : ℕ) → x ≡ y → ((i : ℕ) → lo ≤ i → i < lo + m → f i ≡ g i) → sum_in_range x f lo m ≡ sum_in_range y g lo m
unfolding sum_in_range
sum_in_range_same x y f g lo zero e h = refl
sum_in_range_same x y f g lo (suc m) e h =
    ap₂ (λ a b. a && b) (sum_in_range_same x y f g lo m e (λ i l k. h i l (omega arith)))
    (ap₂ add_in_range (sum_same x y f g lo m e (λ i l k. h i l (omega arith))) (h (lo + m) (omega arith) (omega arith)))

-- ---- over the stages that pass a test
pub sum_with-none : (test : ℕ → Bool) (f : ℕ → Float) → sum_with test f 0 ≡ 0·0
unfolding sum_with
sum_with-none test f = refl

pub sum_with-add : (test : ℕ → Bool) (f : ℕ → Float) (n : ℕ) → test n ≡ true → sum_with test f (suc n) ≡ sum_with test f n ⊕ f n
unfolding sum_with
sum_with-add test f n e = rw (e, sum_with)

pub sum_with_pass : (test : ℕ → Bool) (f : ℕ → Float) (n : ℕ) → test n ≡ false → sum_with test f (suc n) ≡ sum_with test f n
unfolding sum_with
sum_with_pass test f n e = rw (e, sum_with)

module _ (test : ℕ → Bool) (f : ℕ → Float) where
  -- Its additions, one after another.
  addition : ℕ → Bool
  addition n = not (test n) || add_in_range (sum_with test f n) (f n)

  pub with_range_before : (n : ℕ) → T (sum_with_in_range test f (suc n)) → T (sum_with_in_range test f n)
  unfolding sum_with_in_range addition
  with_range_before n t = and_l (sum_with_in_range test f n) (addition n) t

  pub with_range_last : (n : ℕ) → test n ≡ true → T (sum_with_in_range test f (suc n)) → T (add_in_range (sum_with test f n) (f n))
  unfolding sum_with_in_range addition
  with_range_last n e t = rw e at (and_r (sum_with_in_range test f n) (addition n) t)

-- They look at those stages alone.
module _ {test other : ℕ → Bool} {f g : ℕ → Float} where
  pub sum_with_same : (n : ℕ) → ((l : ℕ) → l < n → test l ≡ other l) → ((l : ℕ) → l < n → other l ≡ true → f l ≡ g l) → sum_with test f n ≡ sum_with other g n
  unfolding sum_with
  sum_with_same zero e h = refl
  sum_with_same (suc n) e h =
      let before = sum_with_same n (λ l m. e l (omega arith)) (λ l m. h l (omega arith)) in
      rw (e n (omega arith), before) (by_bool (other n) (λ t. rw (t, h n (omega arith) t)) (λ t. rw t))

  pub sum_with_in_range_same : (n : ℕ) → ((l : ℕ) → l < n → test l ≡ other l) → ((l : ℕ) → l < n → other l ≡ true → f l ≡ g l) → sum_with_in_range test f n ≡ sum_with_in_range other g n
  unfolding sum_with_in_range
  sum_with_in_range_same zero e h = refl
  sum_with_in_range_same (suc n) e h =
      ap₂ ◌&&◌
      (sum_with_in_range_same n (λ l m. e l (omega arith)) (λ l m. h l (omega arith)))
      (if_same (e n (omega arith)) (λ t. ap₂ add_in_range (sum_with_same n (λ l m. e l (omega arith)) (λ l m. h l (omega arith))) (h n (omega arith) t)))
