-- What "in range" says of the steps for margins, test by test.
use Prim.Native.Nat.{ℕ, suc, ◌-◌, ◌<◌}
use mathlib.Core.Bool.{Bool, true, false, not, ◌&&◌, ◌||◌}
use mathlib.Core.Path.{◌≡◌}
use mathlib.Core.Logic.{◌≢◌}
use native.Mathlib.Omega.{arith}
use lib.Dec.{T, eqb}
use lib.Ieee.{Float}
use lib.Ieee.Fits.{and_l, and_r}
use borrow.Author.Tests.{ne_eqb}
use Rattle.definitions.specs.Numbers.{◌⊗◌, ◌⊘◌, 0·0, 1·0, add_in_range, mul_in_range, div_in_range, sum, sum_in_range, all}
use Rattle.definitions.specs.LeavingRates.{downward, in_range}
use Rattle.definitions.specs.Compact.{rank}
use Rattle.definitions.specs.Margins.{sum_with_in_range, k_before, h, a, kept, kept_system, y, known, x_after, ratio_in_range, scaled_in_range, back_in_range, join_in_range, every_step, margins_in_range}
use Rattle.exact.proofs.Bools.{if_out}
use Rattle.steps.proofs.All.{each}

-- A test asked of the stages below n that pass another.
all_passing :
    (pass test : ℕ → Bool) (n : ℕ) → T (all (λ i. not (pass i) || test i) 0 n) → (i : ℕ) → i < n → pass i ≡ true → T (test i)
all_passing pass test n t i b e =
    if_out (pass i) (test i) (each (λ i. not (pass i) || test i) 0 n i t (omega arith) (omega arith)) e

module _ (n : ℕ) (t : ℕ → ℕ → Float) (d : ℕ → Float) (k : ℕ → Float) where
  -- h, a and k of stage i.
  pub record RatioRange (i : ℕ) : Type 0 where
    pub product : (j : ℕ) → j < i → T (mul_in_range (t i j) (k j))
    pub earlier : T (sum_in_range 0·0 (λ j. t i j ⊗ k j) 0 i)
    pub later : T (sum_in_range (sum 0·0 (λ j. t i j ⊗ k j) 0 i) (t i) (suc i) (n - suc i))
    pub addition : T (add_in_range (d i) (h n t d k i))
    pub division : T (div_in_range (h n t d k i) (a n t d k i))

  -- The new sizes and the new leaving rate of a kept stage i.
  pub record ScaledRange (i : ℕ) : Type 0 where
    pub size : (j : ℕ) → j < n → kept n t d k j ≡ true → i ≢ j → T (mul_in_range (t i j) (k j))
    pub division : (j : ℕ) → i < j → j < n → T (div_in_range (d j) (a n t d k j))
    pub product : (j : ℕ) → i < j → j < n → T (mul_in_range (t i j) (d j ⊘ a n t d k j))
    pub exit : T (sum_in_range 0·0 (λ j. t i j ⊗ (d j ⊘ a n t d k j)) (suc i) (n - suc i))

  -- The steps of a known stage i as stage c joins.
  pub record KnownRange (q c : ℕ) (x : ℕ → ℕ → Float) (i : ℕ) : Type 0 where
    pub division : (l : ℕ) → l < n → known n t d k q l ≡ true → T (div_in_range (t l c) (a n t d k c))
    pub product : (l : ℕ) → l < n → known n t d k q l ≡ true → T (mul_in_range (x i l) (t l c ⊘ a n t d k c))
    pub sum : T (sum_with_in_range (known n t d k q) (λ l. x i l ⊗ (t l c ⊘ a n t d k c)) n)

  pub record JoinRange (q c : ℕ) (x : ℕ → ℕ → Float) : Type 0 where
    pub corner : T (div_in_range 1·0 (a n t d k c))
    pub row : (i : ℕ) → i < n → known n t d k q i ≡ true → KnownRange q c x i

  ratio_range : (i : ℕ) → T (ratio_in_range n t d k i) → RatioRange i
  unfolding ratio_in_range
  ratio_range i r =
      let products = all (λ j. mul_in_range (t i j) (k j)) 0 i in
      let earlier = sum_in_range 0·0 (λ j. t i j ⊗ k j) 0 i in
      let later = sum_in_range (sum 0·0 (λ j. t i j ⊗ k j) 0 i) (t i) (suc i) (n - suc i) in
      let addition = add_in_range (d i) (h n t d k i) in
      let division = div_in_range (h n t d k i) (a n t d k i) in
      let r₄ = and_l (products && earlier && later && addition) division r in
      let r₃ = and_l (products && earlier && later) addition r₄ in
      let r₂ = and_l (products && earlier) later r₃ in
      record {
        product = λ j l. each (λ j. mul_in_range (t i j) (k j)) 0 i j (and_l products earlier r₂) (omega arith) (omega arith);
        earlier = and_r products earlier r₂;
        later = and_r (products && earlier) later r₃;
        addition = and_r (products && earlier && later) addition r₄;
        division = and_r (products && earlier && later && addition) division r;
      }

  scaled_range : (i : ℕ) → T (scaled_in_range n t d k i) → ScaledRange i
  unfolding scaled_in_range
  scaled_range i r =
      let size : ℕ → Bool = λ j. not (kept n t d k j) || eqb i j || mul_in_range (t i j) (k j) in
      let quotient : ℕ → Bool = λ j. div_in_range (d j) (a n t d k j) in
      let product : ℕ → Bool = λ j. mul_in_range (t i j) (d j ⊘ a n t d k j) in
      let sizes = all size 0 n in
      let parts = all (λ j. quotient j && product j) (suc i) (n - suc i) in
      let exit = sum_in_range 0·0 (λ j. t i j ⊗ (d j ⊘ a n t d k j)) (suc i) (n - suc i) in
      let r₂ = and_l (sizes && parts) exit r in
      let part : (j : ℕ) → i < j → j < n → T (quotient j && product j) = λ j l m. each (λ j. quotient j && product j) (suc i) (n - suc i) j (and_r sizes parts r₂) l (omega arith) in
      record {
        size =
            λ j l e f. rw (e, ne_eqb i j f) at (each size 0 n j (and_l sizes parts r₂) (omega arith) (omega arith));
        division = λ j l m. and_l (quotient j) (product j) (part j l m);
        product = λ j l m. and_r (quotient j) (product j) (part j l m);
        exit = and_r (sizes && parts) exit r;
      }

  -- The tests of a known stage i as c joins: each term, and their sum.
  module _ (q c : ℕ) (x : ℕ → ℕ → Float) (i : ℕ) where
    abbrev term_test : ℕ → Bool
    term_test l = div_in_range (t l c) (a n t d k c) && mul_in_range (x i l) (t l c ⊘ a n t d k c)

    abbrev terms_test : Bool
    terms_test = all (λ l. not (known n t d k q l) || term_test l) 0 n

    abbrev sum_test : Bool
    sum_test = sum_with_in_range (known n t d k q) (λ l. x i l ⊗ (t l c ⊘ a n t d k c)) n

    known_range : T (terms_test && sum_test) → KnownRange q c x i
    known_range r =
        let term = all_passing (known n t d k q) term_test n (and_l terms_test sum_test r) in
        record {
          division = λ l b e. and_l (div_in_range (t l c) (a n t d k c)) (mul_in_range (x i l) (t l c ⊘ a n t d k c)) (term l b e);
          product = λ l b e. and_r (div_in_range (t l c) (a n t d k c)) (mul_in_range (x i l) (t l c ⊘ a n t d k c)) (term l b e);
          sum = and_r terms_test sum_test r;
        }

  join_range : (q : ℕ) (x : ℕ → ℕ → Float) → T (join_in_range n t d k q x) → JoinRange q (n - suc q) x
  unfolding join_in_range
  join_range q x r =
      let c = n - suc q in
      let corner = div_in_range 1·0 (a n t d k c) in
      let row : ℕ → Bool = λ i. terms_test q c x i && sum_test q c x i in
      let rows = all (λ i. not (known n t d k q i) || row i) 0 n in
      record {
        corner = and_l corner rows r;
        row = λ i b e. known_range q c x i (all_passing (known n t d k q) row n (and_r corner rows r) i b e);
      }

  -- Every step.
  pub record EveryStep : Type 0 where
    pub ratio : (i : ℕ) → i < n → RatioRange i
    pub scaled : (i : ℕ) → i < n → kept n t d k i ≡ true → ScaledRange i
    pub engine : T (in_range (rank (kept n t d k) n) (downward (rank (kept n t d k) n) (kept_system n t d k)))
    pub back :
        (i j : ℕ) → i < n → j < n → kept n t d k i ≡ true → kept n t d k j ≡ true
        → T (mul_in_range (k i) (y n t d k i j))
    pub join : (q : ℕ) → q < n → kept n t d k (n - suc q) ≡ false → JoinRange q (n - suc q) (x_after n t d k q)

  every_step_lem : T (every_step n t d k) → EveryStep
  unfolding every_step back_in_range
  every_step_lem r =
      let test = kept n t d k in
      let ratios = all (ratio_in_range n t d k) 0 n in
      let scaled = all (λ i. not (test i) || scaled_in_range n t d k i) 0 n in
      let engine = in_range (rank test n) (downward (rank test n) (kept_system n t d k)) in
      let entry : ℕ → ℕ → Bool = λ i j. mul_in_range (k i) (y n t d k i j) in
      let entries : ℕ → Bool = λ i. all (λ j. not (test j) || entry i j) 0 n in
      let back = all (λ i. not (test i) || entries i) 0 n in
      let joins : ℕ → Bool = λ q. join_in_range n t d k q (x_after n t d k q) in
      let join = all (λ q. test (n - suc q) || joins q) 0 n in
      let r₄ = and_l (ratios && scaled && engine && back) join r in
      let r₃ = and_l (ratios && scaled && engine) back r₄ in
      let r₂ = and_l (ratios && scaled) engine r₃ in
      let Scaled-at = all_passing test (scaled_in_range n t d k) n (and_r ratios scaled r₂) in
      let back_at = all_passing test entries n (and_r (ratios && scaled && engine) back r₄) in
      record {
        ratio = λ i l. ratio_range i (each (ratio_in_range n t d k) 0 n i (and_l ratios scaled r₂) (omega arith) (omega arith));
        scaled = λ i l e. scaled_range i (Scaled-at i l e);
        engine = and_r (ratios && scaled) engine r₃;
        back = λ i j l m e f. all_passing test (entry i) n (back_at i l e) j m f;
        join =
            λ q l e.
            join_range q (x_after n t d k q) (rw e at (each (λ q. test (n - suc q) || joins q) 0 n q (and_r (ratios && scaled && engine && back) join r) (omega arith) (omega arith)));
      }

pub margins_range : (n : ℕ) (t : ℕ → ℕ → Float) (d : ℕ → Float) → T (margins_in_range n t d) → EveryStep n t d (k_before n t d n)
unfolding margins_in_range
margins_range n t d r = every_step_lem n t d (k_before n t d n) r
