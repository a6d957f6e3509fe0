-- The readings whose steps are those for leaving rates, 1 with its idle stages left out (document 02, U3) and 3 with its weights (U10):
-- the equations of their tables, one each, and what they come to where every stage takes part.
use Prim.Native.Nat.{ℕ, ◌<◌}
use mathlib.Core.Bool.{Bool, true, false, not, ◌&&◌, cond}
use mathlib.Core.List.{List}
use mathlib.Core.Path.{◌≡◌, refl, sym, ap, ap₂, ◌∙◌}
use native.Mathlib.Omega.{arith}
use lib.Dec.{eqb}
use lib.ListN.{get_or}
use lib.Ieee.{Float}
use lib.Ieee.Bits.{is_true}
use borrow.Author.Tests.{not-false}
use Rattle.exact.proofs.Bools.{holds}
use Rattle.definitions.specs.Numbers.{0·0, is_zero, all}
use Rattle.definitions.specs.LeavingRates.{none, System, downward, quotient, shared, column, in_range}
use Rattle.definitions.specs.Compact.{stages_with, rank, weights_of}
use Rattle.definitions.specs.Sheet.{place, size, diagonal, weights, system, idle, takes_part}
use Rattle.definitions.specs.Table.{live_count, live_system, live_begun, live_entry, entry, every_step_in_range}
use Rattle.definitions.specs.Column.{column_of, column_in_range}
use Rattle.steps.proofs.All.{each_below}
use Rattle.steps.proofs.CompactOrder.{rank_every, stage_every, compact-size, compact_exit, compact-weights, weights_every}
use Rattle.steps.proofs.Same.{Same, same_quotient, same_in_range, same_column_range}

module _ (n : ℕ) (sheet : List Float) where
  -- Stage i's numbers at stage j, in its row and in its column, are zero.
  unfoldable pub zeros : ℕ → ℕ → Bool
  zeros i j = is_zero (place n sheet i j) && is_zero (place n sheet j i)

  pub idle_is : (i : ℕ) → idle n sheet i ≡ all (zeros i) 0 n
  unfolding idle zeros
  idle_is i = refl

  pub live_is : (i : ℕ) → takes_part 1 n sheet i ≡ not (idle n sheet i)
  unfolding takes_part
  live_is i = refl

  -- In the other readings every stage takes part.
  pub other_part : (reading : ℕ) → eqb reading 1 ≡ false → (i : ℕ) → takes_part reading n sheet i ≡ true
  unfolding takes_part
  other_part reading e i = rw e

  pub left_out_idle : (reading i : ℕ) → takes_part reading n sheet i ≡ false → idle n sheet i ≡ true
  unfolding takes_part
  left_out_idle reading i = go (eqb reading 1)
    where
      go : (one : Bool) → cond one (not (idle n sheet i)) true ≡ false → idle n sheet i ≡ true
      go true e = not-false (idle n sheet i) e
      go false e = absurd (holds (sym e))

-- The stages that take part, in compact order.
module _ (reading n : ℕ) (sheet : List Float) where
  abbrev on : ℕ → Bool
  on = takes_part reading n sheet

  abbrev r : ℕ
  r = live_count reading n sheet

  abbrev live : System
  live = live_system reading n sheet

  pub live_count_lem : live_count reading n sheet ≡ rank (takes_part reading n sheet) n
  unfolding live_count
  live_count_lem = refl

  pub live-size :
      (p q : ℕ) → p < rank on n → q < rank on n → (live_system reading n sheet).t p q ≡ size n sheet (get_or (stages_with on n) p 0) (get_or (stages_with on n) q 0)
  unfolding live_system system
  live-size = compact-size on n (system reading n sheet)

  pub live_exit : (p : ℕ) → p < rank on n → (live_system reading n sheet).s p ≡ diagonal n sheet (get_or (stages_with on n) p 0)
  unfolding live_system system
  live_exit = compact_exit on n (system reading n sheet)

  pub live-weights : (live_system reading n sheet).z ≡ weights_of (stages_with on n) (weights reading n sheet)
  unfolding live_system system
  live-weights = compact-weights on n (system reading n sheet)

  pub no_weights : eqb reading 3 ≡ false → (live_system reading n sheet).z ≡ none
  unfolding weights
  no_weights e = let plain : weights reading n sheet ≡ none = rw e in live-weights ∙ ap (weights_of (stages_with on n)) plain

  -- The entries, and question 10, of the readings whose steps are those for leaving rates.
  module _ (o : eqb reading 2 ≡ false) where
    pub entry-live : (i j : ℕ) → on i ≡ true → on j ≡ true → entry reading n sheet i j ≡ quotient r (live_begun reading n sheet) (rank on i) (rank on j)
    unfolding entry live_entry
    entry-live i j a b = rw (o, a, b)

    pub entry-idle : (i j : ℕ) → (on i && on j) ≡ false → entry reading n sheet i j ≡ 0·0
    unfolding entry live_entry
    entry-idle i j e = rw o (ap (λ b. cond b (quotient r (live_begun reading n sheet) (rank on i) (rank on j)) 0·0) e)

    pub steps_in_range : every_step_in_range reading n sheet ≡ in_range r (downward r (live_system reading n sheet))
    unfolding every_step_in_range live_begun
    steps_in_range = rw o

  -- Where every stage takes part: the sheet's own system.
  module _ (e : all (takes_part reading n sheet) 0 n ≡ true) where
    every : (i : ℕ) → i < n → on i ≡ true
    every i l = is_true (on i) (each_below n on (holds e) i l)

    pub every_rank : (i : ℕ) → i < n → rank (takes_part reading n sheet) i ≡ i
    every_rank i l = rank_every on i (λ k m. every k (omega arith))

    pub every_count : live_count reading n sheet ≡ n
    every_count = live_count_lem ∙ rank_every on n every

    pub alike : Same n 0 (live_system reading n sheet) (system reading n sheet)
    unfolding system
    alike =
        let all = rank_every on n every in
        let at = stage_every on n every in
        record {
          sizes = λ i j _ l _ m o. live-size i j (rw all l) (rw all m) ∙ ap₂ (size n sheet) (at i l) (at j m);
          exits = λ i _ l. live_exit i (rw all l) ∙ ap (diagonal n sheet) (at i l);
          weights = rw live-weights (weights_every on n every (weights reading n sheet));
        }

    module _ (o : eqb reading 2 ≡ false) where
      pub every_entry : (i j : ℕ) → i < n → j < n → entry reading n sheet i j ≡ quotient n (downward n (system reading n sheet)) i j
      unfolding live_begun
      every_entry i j l m =
          entry-live o i j (every i l) (every j m)
          ∙ ap₂ (quotient r (downward r live)) (every_rank i l) (every_rank j m)
          ∙ ap (λ r. quotient r (downward r live) i j) every_count
          ∙ same_quotient n live (system reading n sheet) alike i j l

      pub every_in_range : every_step_in_range reading n sheet ≡ in_range n (downward n (system reading n sheet))
      every_in_range =
          steps_in_range o
          ∙ ap (λ r. in_range r (downward r live)) every_count
          ∙ same_in_range n live (system reading n sheet) alike

-- One column, of reading 1.
module _ (n : ℕ) (sheet : List Float) where
  pub column_of-live : (j : ℕ) → takes_part 1 n sheet j ≡ true → column_of n sheet j ≡ rank (takes_part 1 n sheet) j
  unfolding column_of
  column_of-live j e = rw e

  pub column_of-idle : (j : ℕ) → takes_part 1 n sheet j ≡ false → column_of n sheet j ≡ live_count 1 n sheet
  unfolding column_of
  column_of-idle j e = rw e

  pub every_column : (e : all (takes_part 1 n sheet) 0 n ≡ true) (j : ℕ) → j < n
      → column_in_range n sheet j ≡ (shared n (downward n (system 1 n sheet)) && column n (downward n (system 1 n sheet)) j)
  unfolding column_in_range live_begun
  every_column e j l =
      let live = live_system 1 n sheet in
      ap₂ (λ r q. shared r (downward r live) && column r (downward r live) q) (every_count 1 n sheet e) (column_of-live j (is_true (takes_part 1 n sheet j) (each_below n (takes_part 1 n sheet) (holds e) j l)) ∙ every_rank 1 n sheet e j l)
      ∙ same_column_range n live (system 1 n sheet) (alike 1 n sheet e) j
