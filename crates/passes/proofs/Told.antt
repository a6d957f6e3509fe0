-- Tests that tell the document's: how a loop gathers them, and what they come to where the results are known.
use mathlib.Core.Path.{◌≡◌}
use Prim.Native.Nat.{ℕ, suc, ◌+◌, ◌-◌, ◌≤◌, ◌<◌}
use native.Mathlib.Nat.{le_refl, le_antisymm}
use native.Mathlib.Omega.{arith}
use mathlib.Core.Bool.{Bool, true, ◌&&◌}
use lib.Dec.{T}
use Rattle.definitions.specs.Numbers.{all}
use Rattle.passes.specs.Told.{Told}
use Rattle.exact.proofs.Cases.{by_equal}
use Rattle.exact.proofs.Bools.{same_truth}
use lib.Ieee.Fits.{and_i, and_l, and_r}
use Rattle.steps.proofs.All.{each, every}

pub told_same : {ok test : Bool} {F : Type 0} → Told ok test F → (T test → F) → (T ok → F) → ok ≡ test
told_same {ok} {test} h f g = same_truth ok test (λ t. h.tells (g t) t) h.passes

-- Where the results differ in name alone.
pub told_from : {ok test : Bool} {F G : Type 0} → Told ok test F → (G → F) → Told ok test G
told_from h f = record { passes = h.passes; tells = λ g t. h.tells (f g) t }

pub told_both : {a b p q : Bool} {F G : Type 0} → Told a p F → Told b q G → Told (a && b) (p && q) (F × G)
told_both {a} {b} {p} {q} h k =
    record {
      passes = λ t. and_i a b (h.passes (and_l p q t)) (k.passes (and_r p q t));
      tells = λ f t. and_i p q (h.tells f.0 (and_l a b t)) (k.tells f.1 (and_r a b t));
    }

pub told_exactly : {ok test : Bool} {F : Type 0} → ok ≡ test → Told ok test F
told_exactly e = record { passes = λ t. rw e t; tells = λ f t. rw e at t }

-- A loop from lo that gathers such tests: the turns before j are done.
pub record ToldEach (test : ℕ → Bool) (F : ℕ → Type 0) (lo j : ℕ) (ok : Bool) : Type 0 where
  pub from : lo ≤ j
  pub passes : ((i : ℕ) → lo ≤ i → i < j → T (test i)) → T ok
  pub tells : ((i : ℕ) → lo ≤ i → i < j → F i) → T ok → (i : ℕ) → lo ≤ i → i < j → T (test i)

pub told_begins : {test : ℕ → Bool} {F : ℕ → Type 0} {lo j : ℕ} → j ≡ lo → ToldEach test F lo j true
told_begins {test} {F} {lo} {j} e =
    rw e (record { from = le_refl lo; passes = λ f. tt; tells = λ f t i l h. let z : ⊥ = omega arith in absurd z })

module _ {test : ℕ → Bool} {F : ℕ → Type 0} {lo j : ℕ} {ok : Bool} (h : ToldEach test F lo j ok) where
  pub told_turns : {now : Bool} → Told now (test j) (F j) → ToldEach test F lo (j + 1) (ok && now)
  told_turns {now} k =
      record {
        from = omega (arith, h.from);
        passes = λ f. and_i ok now (h.passes (λ i l m. f i l (omega arith))) (k.passes (f j h.from (omega arith)));
        tells = λ f t i l m. by_equal i j
            (λ e. rw e (k.tells (f j h.from (omega arith)) (and_r ok now t)))
            (λ n. h.tells (λ i' l' m'. f i' l' (omega arith)) (and_l ok now t) i l (omega arith));
      }

  -- Two turns at once.
  pub told_turns_twice : {now : Bool} → Told now (test j && test (suc j)) (F j × F (suc j)) → ToldEach test F lo (j + 2) (ok && now)
  told_turns_twice {now} k =
      record {
        from = omega (arith, h.from);
        passes = λ f. and_i ok now (h.passes (λ i l m. f i l (omega arith))) (k.passes (and_i (test j) (test (suc j)) (f j h.from (omega arith)) (f (suc j) (omega (arith, h.from)) (omega arith))));
        tells = λ f t i l m.
            let both = k.tells (f j h.from (omega arith), f (suc j) (omega (arith, h.from)) (omega arith)) (and_r ok now t) in
            by_equal i j
            (λ e. rw e (and_l (test j) (test (suc j)) both))
            (λ n. by_equal i (suc j)
            (λ e. rw e (and_r (test j) (test (suc j)) both))
            (λ o. h.tells (λ i' l' m'. f i' l' (omega arith)) (and_l ok now t) i l (omega arith)));
      }

  pub told_ends : {hi : ℕ} → j ≤ hi → hi ≤ j → Told ok (all test lo (hi - lo)) ((i : ℕ) → lo ≤ i → i < hi → F i)
  told_ends {hi} l m =
      let e : j ≡ hi = le_antisymm l m in
      let k : lo ≤ hi = rw e at h.from in
      record {
        passes = λ t. h.passes (λ i a b. each test lo (hi - lo) i t a (omega arith));
        tells = λ f t. every test lo (hi - lo) (λ i a b. h.tells (λ i' a' b'. f i' a' (omega arith)) t i a (omega arith));
      }
