-- Laws of tests. The kit has more: `lib.Ieee.Fits` and-i, and-l and and-r (a conjunction from its parts, and each part from it),
-- `lib.Ieee.Bits` is-true and is-false, `mathlib.Core.Bool` the equations with true and false.
use mathlib.Core.Path.{◌≡◌, refl, sym, ◌∙◌}
use mathlib.Core.Logic.{◌⊎◌, inl, inr}
use mathlib.Core.Bool.{Bool, true, false, not, ◌&&◌, ◌||◌, false≢true}
use Prim.Native.Nat.{ℕ}
use native.Mathlib.Omega.{arith}
use lib.Dec.{T}
use borrow.Author.Tests.{not-true, not-false}
use Rattle.exact.proofs.Cases.{by_bool}

-- ---- truth and value
pub holds : {a : Bool} → a ≡ true → T a
holds e = rw e tt

pub contrary : (a : Bool) → a ≡ true → a ≡ false → ⊥
contrary true t f = let z : ◌≡◌ {A = ℕ} 0 1 = cc in omega arith
contrary false t f = let z : ◌≡◌ {A = ℕ} 0 1 = cc in omega arith

-- Two tests with the same truth are equal.
pub same_truth : (a b : Bool) → (T a → T b) → (T b → T a) → a ≡ b
same_truth true true f g = refl
same_truth true false f g = absurd (f tt)
same_truth false true f g = absurd (g tt)
same_truth false false f g = refl

-- What a test `if !t` says of the question that t answers.
pub denied : (t u : Bool) → t ≡ u → not t ≡ true → u ≡ false
denied t u e h = sym e ∙ not-true t h

pub granted : (t u : Bool) → t ≡ u → not t ≡ false → u ≡ true
granted t u e h = sym e ∙ not-false t h

-- ---- a and b
pub and_first : (a b : Bool) → a && b ≡ true → a ≡ true
and_first true b e = refl
and_first false b e = e

pub and_second : (a b : Bool) → a && b ≡ true → b ≡ true
and_second true b e = e
and_second false b e = absurd (false≢true e)

-- ---- a or b
pub or_l : (a b : Bool) → T a → T (a || b)
or_l true b t = tt
or_l false b t = absurd t

pub or_r : (a b : Bool) → T b → T (a || b)
or_r true b t = tt
or_r false b t = t

pub or_cases : (a b : Bool) → T (a || b) → T a ⊎ T b
or_cases true b t = inl tt
or_cases false b t = inr t

pub or_not : (a b : Bool) → (T a → ⊥) → T (a || b) → T b
or_not true b n t = absurd (n tt)
or_not false b n t = t

-- ---- x where a holds: not a or x
pub if_in : (a x : Bool) → (a ≡ true → T x) → T (not a || x)
if_in true x h = h refl
if_in false x h = tt

pub if_out : (a x : Bool) → T (not a || x) → a ≡ true → T x
if_out a x t e = rw e at t

pub if_same : {a b x y : Bool} → a ≡ b → (b ≡ true → x ≡ y) → (not a || x) ≡ (not b || y)
if_same {a} {b} {x} {y} e h = rw e (by_bool b (λ t. rw t (h t)) (λ t. rw t))

-- ---- equations
pub and_assoc : (a b c : Bool) → (a && (b && c)) ≡ (a && b && c)
and_assoc true b c = refl
and_assoc false b c = refl

pub or_assoc : (a b c : Bool) → (a || (b || c)) ≡ (a || b || c)
or_assoc true b c = refl
or_assoc false b c = refl
