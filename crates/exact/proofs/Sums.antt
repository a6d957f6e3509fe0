-- Laws of ranges and of sums over a range.
use mathlib.Core.Bool.{Bool, true, false}
use mathlib.Core.Path.{◌≡◌, refl, sym, ap, subst, ◌∙◌}
use mathlib.Core.Logic.{◌≢◌, ◌⊎◌, inl, inr}
use Prim.Native.Nat.{ℕ, zero, suc, ◌+◌, ◌-◌, ◌*◌, ◌≤◌}
use native.Mathlib.Nat.{add-zero, zero-add, suc-add, eq-or-lt_of_le}
use native.Mathlib.Omega.{arith}
use Rattle.exact.specs.Chains.{In}
use Rattle.exact.specs.Sums.{sum, bit}

-- A range has its first number and the rest.
pub first : {k m : ℕ} → In k (suc m) k
first = omega arith

pub later : {k m i : ℕ} → In (suc k) m i → In k (suc m) i
later h = omega arith

pub none_in : {k i : ℕ} → In k zero i → ⊥
none_in h = omega arith

pub first_or_later : {k m i : ℕ} → In k (suc m) i → (k ≡ i) ⊎ In (suc k) m i
first_or_later h = elim (eq-or-lt_of_le h.low) [ inl e ↦ inl e | inr l ↦ inr (omega arith) ]

-- What holds at the first number and at the rest holds on the range.
pub on_range : (P : ℕ → Type 0) {k m : ℕ} → P k → ((i : ℕ) → In (suc k) m i → P i) → (i : ℕ) → In k (suc m) i → P i
on_range P head tail i h = elim (first_or_later h) [ inl e ↦ subst P e head | inr l ↦ tail i l ]

module _ (f g : ℕ → ℕ) where
  pub sum_mono : (k m : ℕ) → ((i : ℕ) → In k m i → f i ≤ g i) → sum f k m ≤ sum g k m
  unfolding sum
  sum_mono k zero h = omega arith
  sum_mono k (suc m) h =
      let a : f k ≤ g k = h k first in
      let b : sum f (suc k) m ≤ sum g (suc k) m = sum_mono (suc k) m (λ i l. h i (later l)) in
      omega arith

  pub sum_cong : (k m : ℕ) → ((i : ℕ) → In k m i → f i ≡ g i) → sum f k m ≡ sum g k m
  unfolding sum
  sum_cong k zero h = refl
  sum_cong k (suc m) h =
      let a : f k ≡ g k = h k first in
      let b : sum f (suc k) m ≡ sum g (suc k) m = sum_cong (suc k) m (λ i l. h i (later l)) in
      omega arith

  pub sum-add : (k m : ℕ) → sum (λ i. f i + g i) k m ≡ sum f k m + sum g k m
  unfolding sum
  sum-add k zero = refl
  sum-add k (suc m) = let b = sum-add (suc k) m in omega arith

  pub sum_combine : (a b k m : ℕ) → sum (λ i. f i * a + b * g i) k m ≡ sum f k m * a + b * sum g k m
  unfolding sum
  sum_combine a b k zero = omega arith
  sum_combine a b k (suc m) = let h = sum_combine a b (suc k) m in omega arith

  -- Terms that are no larger, and a sum that is no smaller: the terms are equal.
  pub sum_tight : (k m : ℕ) → ((i : ℕ) → In k m i → f i ≤ g i) → sum g k m ≤ sum f k m → (i : ℕ) → In k m i → f i ≡ g i
  unfolding sum
  sum_tight k zero h s = λ i l. absurd (none_in l)
  sum_tight k (suc m) h s =
      let a : f k ≤ g k = h k first in
      let b : sum f (suc k) m ≤ sum g (suc k) m = sum_mono (suc k) m (λ i l. h i (later l)) in
      on_range (λ i. f i ≡ g i) (omega arith) (sum_tight (suc k) m (λ i l. h i (later l)) (omega arith))

-- A sum of zeros; the other way round is zero-term, below.
pub zero-sum : (f : ℕ → ℕ) (k m : ℕ) → ((i : ℕ) → In k m i → f i ≡ zero) → sum f k m ≡ zero
unfolding sum
zero-sum f k zero h = refl
zero-sum f k (suc m) h =
    let a : f k ≡ zero = h k first in
    let b = zero-sum f (suc k) m (λ i l. h i (later l)) in
    omega arith

-- A common factor, of each term and of one of its factors.
pub sum_scale : (f : ℕ → ℕ) (c k m : ℕ) → sum (λ i. f i * c) k m ≡ sum f k m * c
unfolding sum
sum_scale f c k zero = omega arith
sum_scale f c k (suc m) = let b = sum_scale f c (suc k) m in omega arith

pub sum_factor : (t f : ℕ → ℕ) (c k m : ℕ) → sum (λ j. t j * (f j * c)) k m ≡ sum (λ j. t j * f j) k m * c
sum_factor t f c k m =
    sum_cong (λ j. t j * (f j * c)) (λ j. t j * f j * c) k m (λ j l. omega arith) ∙ sum_scale (λ j. t j * f j) c k m

pub sum_ones : (k m : ℕ) → sum (λ i. 1) k m ≡ m
unfolding sum
sum_ones k zero = refl
sum_ones k (suc m) = let b = sum_ones (suc k) m in omega arith

-- The order of two sums.
pub sum_swap :
    (f : ℕ → ℕ → ℕ) (k m l n : ℕ) → sum (λ i. sum (f i) l n) k m ≡ sum (λ j. sum (λ i. f i j) k m) l n
unfolding sum
sum_swap f k zero l n = sym (zero-sum (λ j. zero) l n (λ j h. refl))
sum_swap f k (suc m) l n =
    let h = sum_swap f (suc k) m l n in
    let a = sum-add (f k) (λ j. sum (λ i. f i j) (suc k) m) l n in
    omega arith

-- The last term apart, a range in two parts, and a range moved by one.
pub sum-last : (f : ℕ → ℕ) (k m : ℕ) → sum f k (suc m) ≡ sum f k m + f (k + m)
unfolding sum
sum-last f k zero = rw (add-zero k) (omega arith)
sum-last f k (suc m) =
    let h = sum-last f (suc k) m in
    let e : f (suc k + m) ≡ f (k + suc m) = ap f (omega arith) in
    omega arith

pub sum_end : (f : ℕ → ℕ) (m : ℕ) → sum f 0 (suc m) ≡ sum f 0 m + f m
sum_end f m = rw (zero-add m) at (sum-last f 0 m)

-- From the last of r terms back.
pub sum-falling : (f : ℕ → ℕ) (r m : ℕ) → m ≤ r → sum (λ q. f (r - suc q)) 0 m ≡ sum f (r - m) m
unfolding sum
sum-falling f r zero h = refl
sum-falling f r (suc m) h =
    let e : suc (r - suc m) ≡ r - m = omega arith in
    rw (e, sum_end (λ q. f (r - suc q)) m, sum-falling f r m (omega arith)) (omega arith)

pub sum_split : (f : ℕ → ℕ) (k m q : ℕ) → sum f k (m + q) ≡ sum f k m + sum f (k + m) q
unfolding sum
sum_split f k zero q = rw (zero-add q, add-zero k) (omega arith)
sum_split f k (suc m) q =
    let h = sum_split f (suc k) m q in
    let e : sum f (suc k + m) q ≡ sum f (k + suc m) q = ap (λ x. sum f x q) (omega arith) in
    rw (suc-add m q) (omega arith)

-- A term is within its sum, and is the sum where every other term is zero.
pub term≤sum : (f : ℕ → ℕ) (k m i : ℕ) → In k m i → f i ≤ sum f k m
unfolding sum
term≤sum f k zero i h = absurd (none_in h)
term≤sum f k (suc m) i h =
    elim (first_or_later h) [
      | inl e ↦ let b : f k ≡ f i = ap f e in omega arith
      | inr l ↦ let b = term≤sum f (suc k) m i l in omega arith
    ]

pub zero-term : (f : ℕ → ℕ) (k m i : ℕ) → sum f k m ≡ zero → In k m i → f i ≡ zero
zero-term f k m i e l = let b = term≤sum f k m i l in omega arith

pub sum-single :
    (f : ℕ → ℕ) (k m j : ℕ) → In k m j → ((i : ℕ) → In k m i → j ≢ i → f i ≡ zero) → sum f k m ≡ f j
unfolding sum
sum-single f k zero j h o = absurd (none_in h)
sum-single f k (suc m) j h o =
    elim (first_or_later h) [
      | inl e ↦
          let a : f k ≡ f j = ap f e in
          let b = zero-sum f (suc k) m (λ i l. o i (later l) (omega arith)) in
          omega arith
      | inr n ↦
          let a : f k ≡ zero = o k first (omega arith) in
          let b = sum-single f (suc k) m j n (λ i l. o i (later l)) in
          omega arith
    ]

pub bit≤1 : (a : Bool) → bit a ≤ 1
bit≤1 true = omega arith
bit≤1 false = omega arith
