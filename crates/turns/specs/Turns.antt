-- The row of one turn: which turns count, and what the row becomes.
use Rattle.std.specs.Prelude.{◌≡◌, ℕ, ◌-◌, ◌≤◌, ◌<◌, Bool, cond, List, Float}
use Rattle.tables.specs.RowMajor.{IsTable, table}
use Rattle.passes.specs.RowPass.{turn, staged}

-- The first turn that changes anything in the columns from j on; the first of the s rows that are done before turn s.
unfoldable pub skipped : Bool → ℕ → ℕ
skipped falling j = cond falling 0 j

unfoldable pub first_done : ℕ → Bool → ℕ → ℕ
first_done r falling s = cond falling (r - s) 0

-- The turns before that one change nothing in the row of turn s.
abbrev pub Skips : ℕ → Bool → ℕ → (ℕ → ℕ → Float) → (ℕ → ℕ → Float) → Type 0
Skips r falling s g f =
    (q c : ℕ) → q ≤ s → q ≤ skipped falling c → c < r → staged (turn r falling) g f (turn r falling s) q c ≡ f (turn r falling s) c

-- Row i has new numbers in its first r columns, and the other rows are as before; the rest of row i is open.
pub record RowBecomes (i r : ℕ) (row : ℕ → Float) (before after : List Float) : Type 0 where
  pub long : IsTable after
  pub inside : (c : ℕ) → c < r → table after i c ≡ row c
  pub others : (a : ℕ) → (a ≡ i → ⊥) → table after a ≡ table before a
