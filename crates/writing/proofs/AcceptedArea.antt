-- The answer area of a call whose questions q passed, once a table or a vector is written there: what the definitions say of it, and
-- each number f at its place.
use mathlib.Core.Path.{◌≡◌, sym, ap, ◌∙◌}
use Prim.Native.Nat.{ℕ, ◌*◌, ◌<◌}
use mathlib.Core.List.{List, ◌++◌}
use lib.ListN.{length, get_or, drop}
use lib.Ieee.{Float, nan}
use Rattle.definitions.specs.Sheet.{place}
use Rattle.definitions.specs.Tables.{list, rows}
use Rattle.definitions.specs.Questions.{Asked, pass}
use Rattle.definitions.specs.Services.{filled}
use Rattle.steps.proofs.TableLaws.{length-list, length-rows, list_same, rows_same, place_of-list, place_of-rows}
use Rattle.tables.specs.RowMajor.{table}
use Rattle.tables.specs.Vectors.{vector}

pub record TableArea (q : Asked) (n : ℕ) (f : ℕ → ℕ → Float) (before after : List Float) : Type 0 where
  pub area : after ≡ filled q (rows f n n) before
  pub at : (i j : ℕ) → i < n → j < n → f i j ≡ place n after i j

pub record VectorArea (q : Asked) (n : ℕ) (f : ℕ → Float) (before after : List Float) : Type 0 where
  pub area : after ≡ filled q (list f n) before
  pub at : (i : ℕ) → i < n → f i ≡ get_or after i nan

-- New numbers, k of them, and then what was there.
accepted_area : {q : Asked} (new before : List Float) {k : ℕ} {after : List Float} → q ≡ pass → length new ≡ k → after ≡ new ++ drop k before
    → after ≡ filled q new before
accepted_area new before passed long is = is ∙ ap (λ (k : ℕ). new ++ drop k before) (sym long) ∙ ap (λ q. filled q new before) (sym passed)

module _ {q : Asked} (passed : q ≡ pass) (n : ℕ) (before : List Float) {after : List Float} where
  pub table_area_lem : (f : ℕ → ℕ → Float) (x : List Float) → ((i j : ℕ) → i < n → j < n → table x i j ≡ f i j)
      → after ≡ rows (table x) n n ++ drop (n * n) before → TableArea q n f before after
  table_area_lem f x same written =
      let is : after ≡ rows f n n ++ drop (n * n) before = written ∙ ap (λ (xs : List Float). xs ++ drop (n * n) before) (rows_same (table x) f n n same) in
      record {
        area = accepted_area (rows f n n) before passed (length-rows f n n) is;
        at = λ i j hi hj. sym (ap (λ (xs : List Float). place n xs i j) is ∙ place_of-rows f n (drop (n * n) before) i j hi hj);
      }

  pub vector_area : (f : ℕ → Float) (x : List Float) → ((i : ℕ) → i < n → vector x i ≡ f i)
      → after ≡ list (vector x) n ++ drop n before → VectorArea q n f before after
  vector_area f x same written =
      let is : after ≡ list f n ++ drop n before = written ∙ ap (λ (xs : List Float). xs ++ drop n before) (list_same (vector x) f n same) in
      record {
        area = accepted_area (list f n) before passed (length-list f n) is;
        at = λ i l. sym (ap (λ (xs : List Float). get_or xs i nan) is ∙ place_of-list f n (drop n before) i l);
      }
