-- The laws of `all`: what holds of all holds of each; tests that agree; tests gathered in another order.
use mathlib.Core.Path.{◌≡◌, refl, sym, ap, ap₂, ◌∙◌}
use Prim.Native.Nat.{ℕ, zero, suc, ◌+◌, ◌-◌, ◌≤◌, ◌<◌}
use native.Mathlib.Nat.{zero-add}
use native.Mathlib.Numerals.{add-one}
use native.Mathlib.Omega.{arith}
use mathlib.Core.Bool.{Bool, ◌&&◌}
use lib.Dec.{T}
use lib.Ieee.Fits.{and_i, and_l, and_r}
use Rattle.exact.proofs.Cases.{by_equal}
use Rattle.exact.proofs.Bools.{same_truth}
use Rattle.definitions.specs.Numbers.{all}

module _ (p : ℕ → Bool) (lo : ℕ) where
  -- What holds of all holds of each, and the other way round.
  pub each : (m i : ℕ) → T (all p lo m) → lo ≤ i → i < lo + m → T (p i)
  unfolding all
  each zero i t l h = let z : ⊥ = omega arith in absurd z
  each (suc m) i t l h =
      by_equal i (lo + m)
      (λ e. rw e (and_r (all p lo m) (p (lo + m)) t))
      (λ n. each m i (and_l (all p lo m) (p (lo + m)) t) l (omega arith))

  pub every : (m : ℕ) → ((i : ℕ) → lo ≤ i → i < lo + m → T (p i)) → T (all p lo m)
  unfolding all
  every zero f = tt
  every (suc m) f = and_i (all p lo m) (p (lo + m)) (every m (λ i l h. f i l (omega arith))) (f (lo + m) (omega arith) (omega arith))

pub all_same : (p q : ℕ → Bool) (lo m : ℕ) → ((i : ℕ) → lo ≤ i → i < lo + m → p i ≡ q i) → all p lo m ≡ all q lo m
unfolding all
all_same p q lo zero f = refl
all_same p q lo (suc m) f = ap₂ (λ a b. a && b) (all_same p q lo m (λ i l h. f i l (omega arith))) (f (lo + m) (omega arith) (omega arith))

-- A loop's flag: the tests so far, and one more.
pub all_more : (p : ℕ → Bool) (at : ℕ) {good next : Bool} → good ≡ all p 0 at → next ≡ p at → (good && next) ≡ all p 0 (at + 1)
unfolding all
all_more p at e f = ap₂ (λ a b. a && b) e (f ∙ ap p (sym (zero-add at))) ∙ ap (all p 0) (sym (add-one at))

-- From 0 up to n.
pub each_below : (n : ℕ) (p : ℕ → Bool) → T (all p 0 n) → (i : ℕ) → i < n → T (p i)
each_below n p t i l = each p 0 n i t (omega arith) (omega arith)

pub every_below : (n : ℕ) (p : ℕ → Bool) → ((i : ℕ) → i < n → T (p i)) → T (all p 0 n)
every_below n p h = every p 0 n (λ i l m. h i (omega arith))

pub all-below : {n : ℕ} (p q : ℕ → Bool) → ((i : ℕ) → i < n → p i ≡ q i) → all p 0 n ≡ all q 0 n
all-below {n} p q h = all_same p q 0 n (λ i l m. h i (omega arith))

-- ---- the same tests in another order
-- Every i from lo with every j.
pub exchange : (q : ℕ → ℕ → Bool) (lo n m : ℕ) → all (λ i. all (q i) 0 m) lo n ≡ all (λ j. all (λ i. q i j) lo n) 0 m
exchange q lo n m =
    same_truth (all (λ i. all (q i) 0 m) lo n) (all (λ j. all (λ i. q i j) lo n) 0 m)
    (λ t. every (λ j. all (λ i. q i j) lo n) 0 m (λ j a b. every (λ i. q i j) lo n (λ i c d. each (q i) 0 m j (each (λ i. all (q i) 0 m) lo n i t c d) a b)))
    (λ t. every (λ i. all (q i) 0 m) lo n (λ i c d. every (q i) 0 m (λ j a b. each (λ i. q i j) lo n i (each (λ j. all (λ i. q i j) lo n) 0 m j t a b) c d)))

-- From the last number below r back to k + 1.
pub all-falling : (p : ℕ → Bool) (r k : ℕ) → all (λ q. p (r - suc q)) 0 (r - suc k) ≡ all p (suc k) (r - suc k)
all-falling p r k =
    same_truth (all (λ q. p (r - suc q)) 0 (r - suc k)) (all p (suc k) (r - suc k))
    (λ t. every p (suc k) (r - suc k) (λ j a b. let back : r - suc (r - suc j) ≡ j = omega arith in rw back at (each (λ q. p (r - suc q)) 0 (r - suc k) (r - suc j) t (omega arith) (omega arith))))
    (λ t. every (λ q. p (r - suc q)) 0 (r - suc k) (λ q a b. each p (suc k) (r - suc k) (r - suc q) t (omega arith) (omega arith)))

-- Two tests at each number.
pub all_both : (p q : ℕ → Bool) (lo n : ℕ) → (all p lo n && all q lo n) ≡ all (λ i. p i && q i) lo n
all_both p q lo n =
    same_truth (all p lo n && all q lo n) (all (λ i. p i && q i) lo n)
    (λ t. every (λ i. p i && q i) lo n (λ i a b. and_i (p i) (q i) (each p lo n i (and_l (all p lo n) (all q lo n) t) a b) (each q lo n i (and_r (all p lo n) (all q lo n) t) a b)))
    (λ t. and_i (all p lo n) (all q lo n)
    (every p lo n (λ i a b. and_l (p i) (q i) (each (λ i. p i && q i) lo n i t a b)))
    (every q lo n (λ i a b. and_r (p i) (q i) (each (λ i. p i && q i) lo n i t a b))))
