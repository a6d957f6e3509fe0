-- The invariants of the loops over a working table, along a row and down the rows, and what a turn does to each.
use mathlib.Core.Path.{◌≡◌, sym, ap, ◌∙◌}
use Prim.Native.Nat.{ℕ, suc, ◌+◌, ◌*◌, ◌≤◌, ◌<◌}
use native.Mathlib.Nat.{le_refl, le_antisymm}
use native.Mathlib.Omega.{arith}
use mathlib.Core.List.{List}
use lib.ListN.{length}
use lib.Ieee.{Float}
use Rattle.tables.specs.RowMajor.{table_of, HoldsIn}
use Rattle.tables.specs.Operators.{replace, between, put, span}
use Rattle.tables.proofs.Operators.{between_none, between_step, between_past, between_out, span_none, span_step, span_past, span-row}

-- Along row i from lo: the places before j are done. They become g, and f was the table at the start.
pub record AlongIn (limit width i lo : ℕ) (g : ℕ → Float) (f : ℕ → ℕ → Float) (xs : List Float) (j : ℕ) : Type 0 where
  pub from : lo ≤ j
  pub holds : HoldsIn limit width xs (span i lo j g f)

pub along_begins : {limit width i lo j : ℕ} {g : ℕ → Float} {xs : List Float} → j ≡ lo → length xs ≡ limit * width → AlongIn limit width i lo g (table_of limit width xs) xs j
along_begins {limit} {width} {i} {lo} {j} {g} {xs} q e =
    rw q (record { from = le_refl lo; holds = record { long = e; is = sym (span_none i g (table_of limit width xs) lo lo (le_refl lo)) } })

module _ {limit width i lo : ℕ} {g : ℕ → Float} {f : ℕ → ℕ → Float} {xs : List Float} {j : ℕ} (h : AlongIn limit width i lo g f xs j) where
  -- The places that are due, and the other rows, are as at the start.
  pub along_past : (a : ℕ) → j ≤ a → table_of limit width xs i a ≡ f i a
  along_past a l = rw h.holds.is (span_past i g f lo j a l)

  pub along_due : table_of limit width xs i j ≡ f i j
  along_due = along_past j (le_refl j)

  pub along_else : (a b : ℕ) → (a ≡ i → ⊥) → table_of limit width xs a b ≡ f a b
  along_else a b n = rw (h.holds.is, span-row i g f lo j a n)

  pub along_turns : {ys : List Float} {x : Float} → HoldsIn limit width ys (put i j x (table_of limit width xs)) → x ≡ g j → AlongIn limit width i lo g f ys (j + 1)
  along_turns k e =
      record { from = omega arith; holds = record { long = k.long; is = k.is ∙ rw (e, h.holds.is) (span_step i g f lo j h.from) } }

  pub along_ends : {hi : ℕ} → j ≤ hi → hi ≤ j → HoldsIn limit width xs (span i lo hi g f)
  along_ends l m = rw (le_antisymm l m) at h.holds

-- The place after c places.
pub along_next : {limit width i lo : ℕ} {g : ℕ → Float} {f : ℕ → ℕ → Float} {xs ys : List Float} {x : Float} (c : ℕ) → AlongIn limit width i lo g f xs (lo + c) → HoldsIn limit width ys (put i (lo + c) x (table_of limit width xs)) → x ≡ g (lo + c) → AlongIn limit width i lo g f ys (lo + suc c)
along_next {lo = lo} c h k e = let n : lo + c + 1 ≡ lo + suc c = omega arith in rw n at (along_turns h k e)

-- Down the rows from lo: those before i are done.
pub record DownIn (limit width lo : ℕ) (g f : ℕ → ℕ → Float) (xs : List Float) (i : ℕ) : Type 0 where
  pub from : lo ≤ i
  pub holds : HoldsIn limit width xs (between lo i g f)

pub down_begins : {limit width lo i : ℕ} {g : ℕ → ℕ → Float} {xs : List Float} → i ≡ lo → length xs ≡ limit * width → DownIn limit width lo g (table_of limit width xs) xs i
down_begins {limit} {width} {lo} {i} {g} {xs} q e =
    rw q (record { from = le_refl lo; holds = record { long = e; is = sym (between_none lo lo g (table_of limit width xs) (le_refl lo)) } })

module _ {limit width lo : ℕ} {g f : ℕ → ℕ → Float} {xs : List Float} {i : ℕ} (h : DownIn limit width lo g f xs i) where
  -- The row that is due and those below it, and any row that is not among those done, are as at the start.
  pub down_due : (a : ℕ) → i ≤ a → table_of limit width xs a ≡ f a
  down_due a l = rw h.holds.is (between_past lo i g f a l)

  pub down_else : (a : ℕ) → (lo ≤ a → a < i → ⊥) → table_of limit width xs a ≡ f a
  down_else a n = rw h.holds.is (between_out lo i g f a n)

  pub down_turns : {ys : List Float} {row : ℕ → Float} → HoldsIn limit width ys (replace i row (table_of limit width xs)) → row ≡ g i → DownIn limit width lo g f ys (i + 1)
  down_turns k e =
      record { from = omega arith; holds = record { long = k.long; is = k.is ∙ rw (e, h.holds.is) (between_step lo i g f h.from) } }

  -- A row of which one place changes.
  pub down_puts : (j : ℕ) {x y : Float} {ys : List Float} → HoldsIn limit width ys (put i j x (table_of limit width xs)) → x ≡ y → replace j y (f i) ≡ g i → DownIn limit width lo g f ys (i + 1)
  unfolding put
  down_puts j {x} k q e = down_turns {row = replace j x (table_of limit width xs i)} k (rw (q, down_due i (le_refl i)) e)

  pub down_ends : {hi : ℕ} → i ≤ hi → hi ≤ i → HoldsIn limit width xs (between lo hi g f)
  down_ends l m = rw (le_antisymm l m) at h.holds

-- Rows of which the places from c up to d become e.
pub down_spans : (c d : ℕ) (e f : ℕ → ℕ → Float) {limit width lo i : ℕ} {xs ys : List Float} → DownIn limit width lo (λ a. between c d (e a) (f a)) f xs i → HoldsIn limit width ys (span i c d (e i) (table_of limit width xs)) → DownIn limit width lo (λ a. between c d (e a) (f a)) f ys (i + 1)
unfolding span
down_spans c d e f {limit} {width} {lo} {i} {xs} h k = down_turns h {row = between c d (e i) (table_of limit width xs i)} k (ap (between c d (e i)) (down_due h i (le_refl i)))

-- In the working tables.
abbrev pub Along : ℕ → ℕ → (ℕ → Float) → (ℕ → ℕ → Float) → List Float → ℕ → Type 0
Along i lo g f xs j = AlongIn 32 32 i lo g f xs j

abbrev pub Down : ℕ → (ℕ → ℕ → Float) → (ℕ → ℕ → Float) → List Float → ℕ → Type 0
Down lo g f xs i = DownIn 32 32 lo g f xs i
