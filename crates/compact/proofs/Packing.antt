-- Rows, tables and vectors in compact order, as they are filled.
use mathlib.Core.Path.{◌≡◌, ap, ◌∙◌}
use Prim.Native.Nat.{ℕ, ◌+◌, ◌≤◌, ◌<◌, zero-le}
use native.Mathlib.Nat.{le_antisymm}
use native.Mathlib.Omega.{arith}
use mathlib.Core.List.{List}
use lib.Ieee.{Float}
use Rattle.exact.proofs.Cases.{by_equal}
use Rattle.tables.specs.RowMajor.{table, Holds}
use Rattle.tables.specs.Operators.{replace, between, put}
use Rattle.tables.specs.Vectors.{vector, VectorHolds}
use Rattle.tables.proofs.Operators.{replace_same, replace_other, between_in, put-at, put_else}
use Rattle.compact.specs.Compact.{Packed, UnpackedRow, Unpacked, UnpackedVector}

pub packed_all : {r : ℕ} {stage : ℕ → ℕ} (f g : ℕ → ℕ → Float) {xs : List Float} → Holds xs (between 0 r (λ p. between 0 r (λ q. f (stage p) (stage q)) (g p)) g) → Packed r stage f xs
packed_all {r} {stage} f g h =
    record {
      long = h.long;
      at = λ p q l m.
          ap (λ (x : ℕ → ℕ → Float). x p q) h.is
          ∙ ap (λ (row : ℕ → Float). row q) (between_in 0 r (λ p. between 0 r (λ q. f (stage p) (stage q)) (g p)) g p zero-le l)
          ∙ between_in 0 r (λ q. f (stage p) (stage q)) (g p) q zero-le m;
    }

-- ---- the way back
module _ {stage : ℕ → ℕ} {y : ℕ → ℕ → Float} {r : ℕ} (once : (p q : ℕ) → p < r → q < r → stage p ≡ stage q → p ≡ q) where
  pub row_turns : {p m i j : ℕ} {z : Float} {x : ℕ → ℕ → Float} {xs ys : List Float} → m < r → i ≡ stage p → j ≡ stage m → z ≡ y p m
      → UnpackedRow stage y p m x xs
      → Holds ys (put i j z (table xs))
      → UnpackedRow stage y p (m + 1) x ys
  row_turns {p} {m} {i} {j} {z} {x} {xs} l a b e h k =
      record {
        long = k.long;
        at = λ q g. ap (λ (f : ℕ → ℕ → Float). f (stage p) (stage q)) k.is ∙ by_equal q m
            (λ s. rw (s, a, b) (put-at (stage p) (stage m) z (table xs) ∙ e))
            (λ s. put_else i j z (table xs) (stage p) (stage q) (λ _ o. s (once q m (omega arith) l (o ∙ b))) ∙ h.at q (omega arith));
        rest = λ o q n.
            ap (λ (f : ℕ → ℕ → Float). f o q) k.is
            ∙ put_else i j z (table xs) o q (λ s t. n (s ∙ a) m (omega arith) (t ∙ b))
            ∙ h.rest o q (λ s u g t. n s u (omega arith) t);
      }

  pub row_ends : {p m : ℕ} {x : ℕ → ℕ → Float} {xs : List Float} → UnpackedRow stage y p m x xs → m ≤ r → r ≤ m → UnpackedRow stage y p r x xs
  row_ends h l m = rw (le_antisymm l m) at h

  pub rows-turn : {m : ℕ} {x : ℕ → ℕ → Float} {xs ys : List Float} → m < r → Unpacked stage y r m x xs → UnpackedRow stage y m r (table xs) ys → Unpacked stage y r (m + 1) x ys
  rows-turn {m} l h k =
      record {
        long = k.long;
        at = λ p q g o. by_equal p m
            (λ e. rw e (k.at q o))
            (λ e. k.rest (stage p) (stage q) (λ s _ _ _. e (once p m (omega arith) l s)) ∙ h.at p q (omega arith) o);
        rest = λ i j n. k.rest i j (λ s q g t. n m (omega arith) s q g t) ∙ h.rest i j (λ p g s q u t. n p (omega arith) s q u t);
      }

-- ---- a vector
module _ {stage : ℕ → ℕ} {y : ℕ → Float} {r : ℕ} (once : (p q : ℕ) → p < r → q < r → stage p ≡ stage q → p ≡ q) where
  pub vector_turns : {m i : ℕ} {z : Float} {x : ℕ → Float} {xs ys : List Float} → m < r → i ≡ stage m → z ≡ y m
      → UnpackedVector stage y m x xs
      → VectorHolds ys (replace i z (vector xs))
      → UnpackedVector stage y (m + 1) x ys
  vector_turns {m} {i} {z} {x} {xs} l a e h k =
      record {
        long = k.long;
        at = λ q g. ap (λ (f : ℕ → Float). f (stage q)) k.is ∙ by_equal q m
            (λ s. rw (s, a) (replace_same (stage m) z (vector xs) ∙ e))
            (λ s. replace_other i z (vector xs) (stage q) (λ o. s (once q m (omega arith) l (o ∙ a))) ∙ h.at q (omega arith));
        rest = λ o n.
            ap (λ (f : ℕ → Float). f o) k.is
            ∙ replace_other i z (vector xs) o (λ s. n m (omega arith) (s ∙ a))
            ∙ h.rest o (λ u g t. n u (omega arith) t);
      }
