-- The laws behind the rows of two stages: one row, and the loops over them.
use mathlib.Core.Path.{◌≡◌, refl, ap, ◌∙◌}
use Prim.Native.Nat.{ℕ, suc, ◌+◌, ◌≤◌}
use native.Mathlib.Nat.{le_refl}
use native.Mathlib.Numerals.{add-one}
use native.Mathlib.Omega.{arith}
use mathlib.Core.List.{List}
use lib.Ieee.{Float}
use Rattle.definitions.specs.Numbers.{◌⊕◌, ◌⊗◌}
use Rattle.tables.specs.RowMajor.{table, Holds}
use Rattle.tables.specs.Operators.{replace, between, put, span}
use Rattle.tables.specs.Rows.{plus_multiple}
use Rattle.tables.proofs.Operators.{replace_other, between_same, put_replaced}
use Rattle.tables.proofs.Loops.{Down, down_due, down_else, down_turns, down_puts}
use Rattle.passes.specs.Stages.{eliminated_row, column_row, next_begun, plus_two, pair_row}

-- The sums along row i, then its leaving rate.
pub row_eliminated : (r k i : ℕ) (s : Float) (f : ℕ → ℕ → Float) {m e : Float} {xs ys : List Float}
    → Holds xs (span i (k + 1) r (plus_multiple m (f i) (f k)) f)
    → Holds ys (put i i e (table xs))
    → m ≡ f i k
    → e ≡ f i i ⊕ m ⊗ s
    → Holds ys (replace i (eliminated_row r k s f i) f)
unfolding span eliminated_row
row_eliminated r k i s f {m} {e} h₁ h₂ a b =
    record {
      long = h₂.long;
      is = h₂.is ∙ rw (h₁.is, put_replaced i i e (between (k + 1) r (plus_multiple m (f i) (f k)) (f i)) f, add-one k, b, a);
    }

-- A column of row i at two stages, from numbers that are known.
pub plus_two_lem : (a b : Float) (j : ℕ) (own first second : ℕ → Float) {x y z : Float} → x ≡ own j → y ≡ first j → z ≡ second j → x ⊕ a ⊗ y ⊕ b ⊗ z ≡ plus_two a b own first second j
unfolding plus_two
plus_two_lem a b j own first second e g h = rw (e, g, h)

-- Column k + 1 of the rows after it: a row that is due is as at the start.
pub column_turns : {k : ℕ} {f : ℕ → ℕ → Float} {xs ys : List Float} {i : ℕ} {x m y : Float}
    → Down (suc (suc k)) (column_row k f) f xs i
    → Holds ys (put i (k + 1) (x ⊕ m ⊗ y) (table xs))
    → x ≡ table xs i (k + 1)
    → m ≡ table xs i k
    → y ≡ f k (k + 1)
    → Down (suc (suc k)) (column_row k f) f ys (i + 1)
unfolding column_row
column_turns {k} {f} {i = i} h w a b c =
    down_puts h (suc k) (rw (add-one k) at w) (rw (a, b, c, down_due h i (le_refl i), add-one k)) refl

-- The row of stage k + 1, and then its column in the later rows, which look at rows that are as at the start.
pub next-begun : (r k : ℕ) (s : Float) (f : ℕ → ℕ → Float) {xs ys : List Float}
    → Holds xs (replace (k + 1) (eliminated_row r k s f (k + 1)) f)
    → Holds ys (between (suc (suc k)) r (column_row k (table xs)) (table xs))
    → Holds ys (next_begun r k s f)
unfolding next_begun column_row
next-begun r k s f {xs} h w =
    let first = eliminated_row r k s f (k + 1) in
    let kept : (a : ℕ) → (a ≡ k + 1 → ⊥) → table xs a ≡ f a = λ a n. ap (λ (g : ℕ → ℕ → Float). g a) h.is ∙ replace_other (k + 1) first f a n in
    record {
      long = w.long;
      is =
          w.is
          ∙ between_same (suc (suc k)) r (column_row k (table xs)) (column_row k f) (table xs) (λ a m b. rw (kept a (λ e. omega arith), kept k (λ e. omega arith)))
          ∙ rw (h.is, add-one k);
    }

-- The sums of both stages along row i, then its leaving rate.
pub row_eliminated_twice : (r k i : ℕ) (s s' : Float) (f : ℕ → ℕ → Float) {a b e : Float} {xs ys : List Float}
    → Holds xs (span i (k + 2) r (plus_two a b (f i) (f k) (f (suc k))) f)
    → Holds ys (put i i e (table xs))
    → a ≡ f i k
    → b ≡ f i (k + 1)
    → e ≡ f i i ⊕ a ⊗ s ⊕ b ⊗ s'
    → Holds ys (replace i (pair_row r k s s' f i) f)
unfolding span pair_row
row_eliminated_twice r k i s s' f {a} {b} {e} h₁ h₂ g₁ g₂ g₃ =
    let two : k + 2 ≡ suc (suc k) = omega arith in
    record {
      long = h₂.long;
      is = h₂.is ∙ rw (h₁.is, put_replaced i i e (between (k + 2) r (plus_two a b (f i) (f k) (f (suc k))) (f i)) f, two, g₃, g₁, g₂, add-one k);
    }

-- Down the rows after k + 1. Those of the two stages are as at the start.
pub pair_turns : {k : ℕ} {f : ℕ → ℕ → Float} {xs : List Float} {i : ℕ} (r : ℕ) (s s' : Float) → Down (suc (suc k)) (pair_row r k s s' f) f xs i → {ys : List Float} → Holds ys (replace i (pair_row r k s s' (table xs) i) (table xs)) → Down (suc (suc k)) (pair_row r k s s' f) f ys (i + 1)
unfolding pair_row
pair_turns {k} {f} {xs} {i} r s s' h w =
    let kept : (a : ℕ) → a ≤ suc k → table xs a ≡ f a = λ a l. down_else h a (λ m n. omega arith) in
    down_turns h {row = pair_row r k s s' (table xs) i} w (rw (down_due h i (le_refl i), kept k (omega arith), kept (suc k) (omega arith)))
