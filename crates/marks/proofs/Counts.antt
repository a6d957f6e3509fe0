-- Counting the stages that have a property.
use mathlib.Core.Path.{◌≡◌, refl, sym, ap, ◌∙◌}
use mathlib.Core.Bool.{Bool, true, false}
use Prim.Native.Nat.{ℕ, ◌+◌, ◌≤◌, ◌<◌, zero-le}
use native.Mathlib.Omega.{arith}
use lib.Dec.{eqb}
use borrow.Author.Tests.{eq-eqb, ne_eqb}
use Rattle.exact.specs.Sums.{sum, bit}
use Rattle.exact.proofs.Sums.{sum_mono, sum_cong, sum-add, sum_tight, zero-sum, sum_ones, sum-single, bit≤1}
use Rattle.exact.proofs.Cases.{by_equal}
use Rattle.marks.specs.Marks.{count_of}

bit-one : (a : Bool) → bit a ≡ 1 → a ≡ true
bit-one true e = refl
bit-one false e = absurd (omega arith)

pub count_none : (m : ℕ) → count_of (λ i. false) m ≡ 0
unfolding count_of
count_none m = zero-sum (λ i. 0) 0 m (λ i l. refl)

pub count_few : (p : ℕ → Bool) (m : ℕ) → count_of p m ≤ m
unfolding count_of
count_few p m = let h = sum_mono (λ i. bit (p i)) (λ i. 1) 0 m (λ i l. bit≤1 (p i)) in omega (arith, sum_ones 0 m)

pub count_same : (p q : ℕ → Bool) (m : ℕ) → ((i : ℕ) → i < m → p i ≡ q i) → count_of p m ≡ count_of q m
unfolding count_of
count_same p q m e = sum_cong (λ i. bit (p i)) (λ i. bit (q i)) 0 m (λ i l. ap bit (e i (omega arith)))

-- All are counted.
pub count_full : (p : ℕ → Bool) (m : ℕ) → count_of p m ≡ m → (i : ℕ) → i < m → p i ≡ true
unfolding count_of
count_full p m e i l =
    bit-one (p i) (sum_tight (λ i. bit (p i)) (λ i. 1) 0 m (λ i l. bit≤1 (p i)) (omega (arith, sum_ones 0 m)) i (record { low = zero-le; high = omega arith }))

-- One stage more is counted.
module _ (p q : ℕ → Bool) (i m : ℕ) (l : i < m) (f : p i ≡ false) (t : q i ≡ true) (same : (k : ℕ) → (k ≡ i → ⊥) → p k ≡ q k) where
  one_more : (k : ℕ) → bit (q k) ≡ bit (p k) + bit (eqb k i)
  one_more k =
      by_equal k i
      (λ e. rw (e, f, t, eq-eqb i i refl))
      (λ d. rw (same k d, ne_eqb k i d) (omega arith))

  the_one : sum (λ k. bit (eqb k i)) 0 m ≡ 1
  the_one =
      sum-single (λ k. bit (eqb k i)) 0 m i (record { low = zero-le; high = omega arith }) (λ k h d. ap bit (ne_eqb k i (λ e. d (sym e))))
      ∙ ap bit (eq-eqb i i refl)

  pub count_more : count_of q m ≡ count_of p m + 1
  unfolding count_of
  count_more =
      sum_cong (λ k. bit (q k)) (λ k. bit (p k) + bit (eqb k i)) 0 m (λ k h. one_more k)
      ∙ sum-add (λ k. bit (p k)) (λ k. bit (eqb k i)) 0 m
      ∙ ap (λ c. sum (λ k. bit (p k)) 0 m + c) the_one
