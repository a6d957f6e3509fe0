-- Sums over the stages with one of them apart, or some of them left out.
use mathlib.Core.Path.{◌≡◌, refl, ap, ◌∙◌, subst}
use mathlib.Core.Logic.{◌≢◌}
use mathlib.Core.Bool.{Bool, true, false, not, cond}
use Prim.Native.Nat.{ℕ, zero, suc, ◌+◌, ◌*◌, ◌-◌, ◌<◌}
use native.Mathlib.Nat.{zero-add}
use native.Mathlib.Omega.{arith}
use lib.Dec.{T, T_not, eqb, ltb, eqb_refl}
use borrow.Author.Tests.{lt-ltb, le-ltb, eq-eqb, ne_eqb}
use Rattle.exact.specs.Sums.{sum}
use Rattle.exact.proofs.Sums.{sum_cong, zero-sum, sum-single, sum_split}
use Rattle.inverse.specs.Reduction.{delta}

-- A choice where its test passes; the kit has the other way.
pub cond_yes : {X : Type 0} (b : Bool) (x y : X) → T b → cond b x y ≡ x
cond_yes true x y t = refl
cond_yes false x y t = absurd t

pub not_equal : (i j : ℕ) → T (not (eqb i j)) → i ≢ j
not_equal i j t e = T_not (eqb i j) t (subst (λ k. T (eqb i k)) e (eqb_refl i))

-- ---- delta
pub delta_same : (i c : ℕ) → delta i i c ≡ c
delta_same i c = rw (eq-eqb i i refl)

pub delta_other : (i j c : ℕ) → i ≢ j → delta i j c ≡ 0
delta_other i j c h = rw (ne_eqb i j h)

pub delta-times : (i j c d : ℕ) → delta i j 1 * (c * d) ≡ delta i j c * d
delta-times i j c d = go (eqb i j)
  where
    go : (b : Bool) → cond b 1 0 * (c * d) ≡ cond b c 0 * d
    go true = omega arith
    go false = omega arith

-- A sum with a delta has one term.
pub sum-delta : (i c n : ℕ) (f : ℕ → ℕ) → i < n → sum (λ k. delta i k c * f k) 0 n ≡ c * f i
sum-delta i c n f l =
    sum-single (λ k. delta i k c * f k) 0 n i (omega arith) (λ k h o. ap (λ x. x * f k) (delta_other i k c o) ∙ omega arith)
    ∙ ap (λ x. x * f i) (delta_same i c)

-- Σ t (f a + g b), with a and b before the sums.
pub sum-mix :
    (t f g : ℕ → ℕ) (a b k m : ℕ)
    → sum (λ j. t j * (f j * a + g j * b)) k m ≡ sum (λ j. t j * f j) k m * a + sum (λ j. t j * g j) k m * b
unfolding sum
sum-mix t f g a b k zero = omega arith
sum-mix t f g a b k (suc m) = let h = sum-mix t f g a b (suc k) m in omega arith

-- ---- a term apart
-- The terms before i, at i, and after it.
pub sum-at : (f : ℕ → ℕ) (i n : ℕ) → i < n → sum f 0 n ≡ sum f 0 i + f i + sum f (suc i) (n - suc i)
unfolding sum
sum-at f i n l =
    let q = n - suc i in
    let m : n ≡ i + suc q = omega arith in
    let e : sum f 0 n ≡ sum f 0 (i + suc q) = ap (sum f 0) m in
    let a = sum_split f 0 i (suc q) in
    let b : sum f (0 + i) (suc q) ≡ sum f i (suc q) = ap (λ k. sum f k (suc q)) (zero-add i) in
    omega arith

-- ---- terms left out: at i, from i on, and up to i
pub sum_except : (f : ℕ → ℕ) (i n : ℕ) → i < n → sum (λ j. cond (not (eqb i j)) (f j) 0) 0 n + f i ≡ sum f 0 n
sum_except f i n l =
    let m : ℕ → ℕ = λ j. cond (not (eqb i j)) (f j) 0 in
    let a = sum_cong m f 0 i (λ j h. rw (ne_eqb i j (omega arith))) in
    let b : m i ≡ 0 = rw (eq-eqb i i refl) in
    let c = sum_cong m f (suc i) (n - suc i) (λ j h. rw (ne_eqb i j (omega arith))) in
    omega (arith, sum-at m i n l, sum-at f i n l)

pub sum_below : (f : ℕ → ℕ) (i n : ℕ) → i < n → sum (λ j. cond (ltb j i) (f j) 0) 0 n ≡ sum f 0 i
sum_below f i n l =
    let m : ℕ → ℕ = λ j. cond (ltb j i) (f j) 0 in
    let a = sum_cong m f 0 i (λ j h. rw (lt-ltb j i (omega arith))) in
    let b : m i ≡ 0 = rw (le-ltb i i (omega arith)) in
    let c = zero-sum m (suc i) (n - suc i) (λ j h. rw (le-ltb j i (omega arith))) in
    omega (arith, sum-at m i n l)

pub sum_above : (f : ℕ → ℕ) (i n : ℕ) → i < n → sum (λ j. cond (ltb i j) (f j) 0) 0 n ≡ sum f (suc i) (n - suc i)
sum_above f i n l =
    let m : ℕ → ℕ = λ j. cond (ltb i j) (f j) 0 in
    let a = zero-sum m 0 i (λ j h. rw (le-ltb i j (omega arith))) in
    let b : m i ≡ 0 = rw (le-ltb i i (omega arith)) in
    let c = sum_cong m f (suc i) (n - suc i) (λ j h. rw (lt-ltb i j (omega arith))) in
    omega (arith, sum-at m i n l)
