-- The laws of the operators on sequences and tables: none, step, past.
use mathlib.Core.Path.{◌≡◌, refl, sym, ap, ◌∙◌, fun_ext}
use Prim.Native.Nat.{ℕ, ◌+◌, ◌≤◌, ◌<◌}
use native.Mathlib.Omega.{arith}
use lib.Ieee.{Float}
use borrow.Author.Tests.{lt-ltb, le-ltb, le-leb, lt-leb, eq-eqb, ne_eqb}
use Rattle.tables.specs.Operators.{replace, between, put, span}
use Rattle.exact.proofs.Cases.{by_equal, by_order}
use mathlib.Core.Bool.{and-false, Bool, cond}

module _ {A : Type 0} where
  pub replace_same : (i : ℕ) (x : A) (f : ℕ → A) → replace i x f i ≡ x
  unfolding replace
  replace_same i x f = ap (λ (b : Bool). cond b x (f i)) (eq-eqb i i refl)

  pub replace_other : (i : ℕ) (x : A) (f : ℕ → A) (a : ℕ) → (a ≡ i → ⊥) → replace i x f a ≡ f a
  unfolding replace
  replace_other i x f a n = ap (λ (b : Bool). cond b x (f a)) (ne_eqb a i n)

  pub replace_twice : (i : ℕ) (x y : A) (f : ℕ → A) → replace i x (replace i y f) ≡ replace i x f
  replace_twice i x y f =
      fun_ext (λ a. by_equal a i
      (λ e. rw e (rw (replace_same i x (replace i y f), replace_same i x f)))
      (λ n. rw (replace_other i x (replace i y f) a n, replace_other i y f a n, replace_other i x f a n)))

  pub replace-own : (i : ℕ) (f : ℕ → A) → replace i (f i) f ≡ f
  replace-own i f = fun_ext (λ a. by_equal a i (λ e. rw e (replace_same i (f i) f)) (λ n. replace_other i (f i) f a n))

  module _ (lo hi : ℕ) (g f : ℕ → A) where
    pub between_in : (a : ℕ) → lo ≤ a → a < hi → between lo hi g f a ≡ g a
    unfolding between
    between_in a l h = rw (le-leb lo a l, lt-ltb a hi h)

    pub between-low : (a : ℕ) → a < lo → between lo hi g f a ≡ f a
    unfolding between
    between-low a l = rw (lt-leb lo a l)

    pub between_past : (a : ℕ) → hi ≤ a → between lo hi g f a ≡ f a
    unfolding between
    between_past a h = rw (le-ltb a hi h, and-false)

    pub between_out : (a : ℕ) → (lo ≤ a → a < hi → ⊥) → between lo hi g f a ≡ f a
    between_out a n = by_order lo a (λ l. by_order hi a (between_past a) (λ h. absurd (n l h))) (between-low a)

    pub between_none : hi ≤ lo → between lo hi g f ≡ f
    between_none h = fun_ext (λ a. by_order lo a (λ l. between_past a (omega arith)) (λ l. between-low a l))

  pub between_same : (lo hi : ℕ) (g h f : ℕ → A) → ((a : ℕ) → lo ≤ a → a < hi → g a ≡ h a) → between lo hi g f ≡ between lo hi h f
  between_same lo hi g h f e =
      fun_ext (λ a. by_order lo a
      (λ l. by_order hi a
      (λ m. between_past lo hi g f a m ∙ sym (between_past lo hi h f a m))
      (λ m. between_in lo hi g f a l m ∙ e a l m ∙ sym (between_in lo hi h f a l m)))
      (λ l. between-low lo hi g f a l ∙ sym (between-low lo hi h f a l)))

  pub between_step : (lo hi : ℕ) (g f : ℕ → A) → lo ≤ hi → replace hi (g hi) (between lo hi g f) ≡ between lo (hi + 1) g f
  between_step lo hi g f l =
      fun_ext (λ a. by_equal a hi
      (λ e. rw e (replace_same hi (g hi) (between lo hi g f) ∙ sym (between_in lo (hi + 1) g f hi l (omega arith))))
      (λ n. replace_other hi (g hi) (between lo hi g f) a n ∙ other a n))
    where
      other : (a : ℕ) → (a ≡ hi → ⊥) → between lo hi g f a ≡ between lo (hi + 1) g f a
      other a n =
          by_order lo a
          (λ h. by_order hi a
          (λ q. between_past lo hi g f a q ∙ sym (between_past lo (hi + 1) g f a (omega arith)))
          (λ q. between_in lo hi g f a h q ∙ sym (between_in lo (hi + 1) g f a h (omega arith))))
          (λ q. between-low lo hi g f a q ∙ sym (between-low lo (hi + 1) g f a q))

-- A place of a table that was put, and any other place.
pub put-at : (i j : ℕ) (x : Float) (f : ℕ → ℕ → Float) → put i j x f i j ≡ x
unfolding put
put-at i j x f = ap (λ (row : ℕ → Float). row j) (replace_same i (replace j x (f i)) f) ∙ replace_same j x (f i)

pub put_else : (i j : ℕ) (x : Float) (f : ℕ → ℕ → Float) (a b : ℕ) → (a ≡ i → b ≡ j → ⊥) → put i j x f a b ≡ f a b
unfolding put
put_else i j x f a b n =
    by_equal a i
    (λ e. rw e (ap (λ (row : ℕ → Float). row b) (replace_same i (replace j x (f i)) f) ∙ replace_other j x (f i) b (n e)))
    (λ e. ap (λ (row : ℕ → Float). row b) (replace_other i (replace j x (f i)) f a e))

-- A place of a row that was replaced.
pub put_replaced : (i j : ℕ) (x : Float) (row : ℕ → Float) (f : ℕ → ℕ → Float) → put i j x (replace i row f) ≡ replace i (replace j x row) f
unfolding put
put_replaced i j x row f = rw (replace_same i row f, replace_twice i (replace j x row) row f)

module _ (i : ℕ) (g : ℕ → Float) (f : ℕ → ℕ → Float) where
  pub span_none : (lo hi : ℕ) → hi ≤ lo → span i lo hi g f ≡ f
  unfolding span
  span_none lo hi h = rw (between_none lo hi g (f i) h) (replace-own i f)

  pub span_step : (lo j : ℕ) → lo ≤ j → put i j (g j) (span i lo j g f) ≡ span i lo (j + 1) g f
  unfolding span
  span_step lo j l = put_replaced i j (g j) (between lo j g (f i)) f ∙ rw (between_step lo j g (f i) l)

  pub span_past : (lo hi j : ℕ) → hi ≤ j → span i lo hi g f i j ≡ f i j
  unfolding span
  span_past lo hi j h = rw (replace_same i (between lo hi g (f i)) f) (between_past lo hi g (f i) j h)

  pub span-row : (lo hi a : ℕ) → (a ≡ i → ⊥) → span i lo hi g f a ≡ f a
  unfolding span
  span-row lo hi a n = replace_other i (between lo hi g (f i)) f a n
