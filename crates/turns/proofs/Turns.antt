-- The row of one turn: which rows are added, their tests, and the blocks one after another.
use mathlib.Core.Path.{◌≡◌, refl, sym, ap, ◌∙◌}
use Prim.Native.Nat.{ℕ, zero, suc, ◌+◌, ◌-◌, ◌≤◌, ◌<◌}
use native.Mathlib.Nat.{le_refl}
use native.Mathlib.Omega.{arith}
use mathlib.Core.Bool.{Bool, true, false, not}
use mathlib.Core.List.{List}
use lib.Dec.{eqb}
use lib.Ieee.{Float}
use Rattle.exact.proofs.Cases.{by_order}
use Rattle.exact.proofs.Bools.{contrary}
use Rattle.steps.proofs.AddProduct.{step_same}
use Rattle.tables.specs.RowMajor.{IsTable, table, Holds}
use Rattle.tables.specs.Operators.{between, span}
use Rattle.tables.proofs.Operators.{replace_same, between_in, between-low, between_past, span-row}
use Rattle.passes.specs.RowPass.{turn, reach, staged}
use Rattle.passes.proofs.RowPass.{staged-next, staged_same, staged-from}
use Rattle.blocks.specs.Blocks.{nth, Reaches}
use Rattle.turns.specs.Turns.{skipped, first_done, Skips, RowBecomes}

-- What a const parameter of type bool stands for.
abbrev pub flag : ℕ → Bool
flag n = not (eqb n 0)

-- ---- the rows in their order
module _ (r : ℕ) (few : r ≤ 32) where
  pub turn_below : (falling : Bool) (q : ℕ) → q < r → turn r falling q < r
  unfolding turn
  turn_below true q l = omega arith
  turn_below false q l = l

  pub turn_apart : (falling : Bool) (p q : ℕ) → p < q → q < r → turn r falling p ≡ turn r falling q → ⊥
  unfolding turn
  turn_apart true p q l m e = omega arith
  turn_apart false p q l m e = omega arith

  pub reach-below : (falling : Bool) (q : ℕ) → q < r → reach r falling q ≤ r
  unfolding reach
  reach-below true q l = le_refl r
  reach-below false q l = l

  -- The rows that are done stand side by side.
  pub done_fits : (falling : Bool) (s : ℕ) → s ≤ r → first_done r falling s + s ≤ r
  unfolding first_done
  done_fits true s l = omega arith
  done_fits false s l = omega arith

  pub done_from : (falling : Bool) (s q : ℕ) → q < s → s ≤ r → first_done r falling s ≤ turn r falling q
  unfolding first_done turn
  done_from true s q l m = omega arith
  done_from false s q l m = omega arith

  pub done_to : (falling : Bool) (s q : ℕ) → q < s → s ≤ r → turn r falling q < first_done r falling s + s
  unfolding first_done turn
  done_to true s q l m = omega arith
  done_to false s q l m = omega arith

  -- From the first turn that counts in a block.
  pub skipped-below : (falling : Bool) (s j : ℕ) → s < r → j < reach r falling s → skipped falling j ≤ s
  unfolding skipped reach
  skipped-below true s j l m = omega arith
  skipped-below false s j l m = omega arith

  pub skipped_reaches : (falling : Bool) (s j : ℕ) → s < r → j < reach r falling s → Reaches (turn r falling (skipped falling j)) (s - skipped falling j) falling
  unfolding skipped reach turn
  skipped_reaches true s j l m = record { falls = λ _. omega arith; rises = λ e. absurd (contrary true refl e) }
  skipped_reaches false s j l m = record { falls = λ e. absurd (contrary false e refl); rises = λ _. omega arith }

  nth_is_turn : (falling : Bool) (j q : ℕ) → nth (turn r falling (skipped falling j)) falling q ≡ turn r falling (skipped falling j + q)
  unfolding nth turn skipped
  nth_is_turn true j q = omega arith
  nth_is_turn false j q = refl

pub skipped-early : (falling : Bool) {j c : ℕ} → j ≤ c → skipped falling j ≤ skipped falling c
unfolding skipped
skipped-early true l = omega arith
skipped-early false l = l

skipped_past : (r : ℕ) (falling : Bool) (s : ℕ) {j c : ℕ} → reach r falling s ≤ j → j ≤ c → c < r → s ≤ skipped falling c
unfolding skipped reach
skipped_past r true s l m n = omega arith
skipped_past r false s l m n = omega arith

-- A row's stages look at the rows that are added alone.
staged_order : (κ λ' : ℕ → ℕ) (g f : ℕ → ℕ → Float) (i c : ℕ) → ((q : ℕ) → κ q ≡ λ' q) → (n : ℕ) → staged κ g f i n c ≡ staged λ' g f i n c
unfolding staged
staged_order κ λ' g f i c e zero = refl
staged_order κ λ' g f i c e (suc n) =
    staged-next κ g f i n c
    ∙ step_same (staged_order κ λ' g f i c e n) (ap (g i) (e n)) (ap (λ (k : ℕ). f k c) (e n))
    ∙ sym (staged-next λ' g f i n c)

-- ---- the blocks of row i, the row of turn s, of a table f: those before column j are done
pub record Blocks (r : ℕ) (falling : Bool) (s : ℕ) (g f : ℕ → ℕ → Float) (xs : List Float) (j : ℕ) : Type 0 where
  pub long : IsTable xs
  pub others : (a : ℕ) → (a ≡ turn r falling s → ⊥) → table xs a ≡ f a
  pub done : (c : ℕ) → c < j → c < r → table xs (turn r falling s) c ≡ staged (turn r falling) g f (turn r falling s) s c
  pub due : (c : ℕ) → j ≤ c → table xs (turn r falling s) c ≡ f (turn r falling s) c

module _ {r : ℕ} {falling : Bool} {s : ℕ} {g f : ℕ → ℕ → Float} {xs : List Float} {j : ℕ} (h : Blocks r falling s g f xs j) (few : r ≤ 32) (l : s < r) (skips : Skips r falling s g f) where
  abbrev κ : ℕ → ℕ
  κ = turn r falling

  abbrev from : ℕ
  from = skipped falling j

  -- The block from column j on.
  block_sums : (c : ℕ) → j ≤ c → c < r → from ≤ s → staged (nth (κ from) falling) g (table xs) (κ s) (s - from) c ≡ staged κ g f (κ s) s c
  block_sums c m n o =
      let whole : from + (s - from) ≡ s = omega arith in
      staged_order (nth (κ from) falling) (λ q. κ (from + q)) g (table xs) (κ s) c (nth_is_turn r few falling j) (s - from)
      ∙ staged_same (λ q. κ (from + q)) g (table xs) f (κ s) c (s - from) (h.due c m) (λ q a. ap (λ (row : ℕ → Float). row c) (h.others (κ (from + q)) (turn_apart r few falling (from + q) s (omega arith) l))) (s - from) (le_refl (s - from))
      ∙ staged-from κ g f (κ s) from c (skips from c o (skipped-early falling m) n) (s - from)
      ∙ ap (λ (q : ℕ). staged κ g f (κ s) q c) whole

  pub blocks_turn : {ys : List Float} {next : ℕ} → from ≤ s → Holds ys (span (κ s) j (j + 8) (staged (nth (κ from) falling) g (table xs) (κ s) (s - from)) (table xs)) → next ≡ j + 8 → Blocks r falling s g f ys next
  unfolding span
  blocks_turn {ys} {next} o w e =
      let sums = staged (nth (κ from) falling) g (table xs) (κ s) (s - from) in
      let row : table ys (κ s) ≡ between j (j + 8) sums (table xs (κ s)) = ap (λ (t : ℕ → ℕ → Float). t (κ s)) w.is ∙ replace_same (κ s) (between j (j + 8) sums (table xs (κ s))) (table xs) in
      record {
        long = w.long;
        others = λ a n. ap (λ (t : ℕ → ℕ → Float). t a) w.is ∙ span-row (κ s) sums (table xs) j (j + 8) a n ∙ h.others a n;
        done = λ c m n. ap (λ (x : ℕ → Float). x c) row ∙ by_order j c
            (λ a. between_in j (j + 8) sums (table xs (κ s)) c a (omega arith) ∙ block_sums c a n o)
            (λ a. between-low j (j + 8) sums (table xs (κ s)) c a ∙ h.done c a n);
        due = λ c m. ap (λ (x : ℕ → Float). x c) row ∙ between_past j (j + 8) sums (table xs (κ s)) c (omega arith) ∙ h.due c (omega arith);
      }

  -- All columns that the pass reaches.
  pub blocks_end : reach r falling s ≤ j → (ys : List Float) → table ys ≡ f → RowBecomes (κ s) r (staged κ g f (κ s) s) ys xs
  blocks_end m ys e =
      record {
        long = h.long;
        inside = λ c n. by_order j c (λ a. h.due c a ∙ sym (skips s c (le_refl s) (skipped_past r falling s m a n) n)) (λ a. h.done c a n);
        others = λ a n. rw e (h.others a n);
      }
