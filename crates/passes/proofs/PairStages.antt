-- Two stages at once are one stage and then the other, in every place of the table; and the last stage.
use mathlib.Core.Path.{◌≡◌, sym, ap, ◌∙◌, fun_ext}
use Prim.Native.Nat.{ℕ, suc, ◌-◌, ◌≤◌, ◌<◌}
use native.Mathlib.Nat.{le_refl}
use native.Mathlib.Numerals.{add-one}
use native.Mathlib.Omega.{arith}
use mathlib.Core.Bool.{Bool}
use mathlib.Core.List.{List}
use lib.Ieee.{Float}
use lib.Ieee.Fits.{and_i, and_l}
use Rattle.exact.proofs.Cases.{by_equal, by_order}
use Rattle.definitions.specs.Numbers.{all}
use Rattle.definitions.specs.LeavingRates.{Weights, pivot, pivot_in_range, row_in_range, stage_in_range}
use Rattle.steps.proofs.All.{every}
use Rattle.steps.proofs.Weights.{weights-refl}
use Rattle.steps.proofs.Pivot.{pivot_same, in_range-finite}
use Rattle.tables.specs.RowMajor.{Holds}
use Rattle.tables.specs.Operators.{replace, between, put}
use Rattle.tables.proofs.Operators.{replace_same, replace_other, between_in, between-low, between_out, between_none, between_step}
use Rattle.passes.specs.Multipliers.{system_in}
use Rattle.passes.specs.Stages.{IsStage, multiplier_row, multiplied_rows, eliminated_row, eliminated_rows, column_row, next_begun, pair_row, pair_rows, stage_done}
use Rattle.passes.specs.StageTests.{Alike, StageFinds}
use Rattle.passes.proofs.StagePlaces.{pivot-row, earlier-row_keeps, past_row_keeps, later_row}
use Rattle.passes.proofs.PairRow.{column_same, at_once, one_by_one, at_once_lem}

module _ (w : Weights) (r k : ℕ) (f : ℕ → ℕ → Float) (l : suc k < r) where
  -- The pivot of stage k, the table after it, and the pivot of stage k + 1.
  abbrev p : Float
  p = pivot r (system_in w f) k

  abbrev after : ℕ → ℕ → Float
  after = stage_done w r k f

  abbrev p' : Float
  p' = pivot r (system_in w after) (suc k)

  -- The table with the multipliers of stage k, as stage k + 1 begins, with its multipliers, and with the rows of both.
  abbrev multiplied : ℕ → ℕ → Float
  multiplied = multiplied_rows k p r f

  abbrev begun : ℕ → ℕ → Float
  begun = next_begun r k (f k k) multiplied

  abbrev both : ℕ → ℕ → Float
  both = multiplied_rows (suc k) p' r begun

  abbrev rows : ℕ → ℕ → Float
  rows = pair_rows r k (f k k) (after (suc k) (suc k)) both

  -- The table as the row of stage k + 1 is done.
  first : ℕ → ℕ → Float
  first = replace (suc k) (eliminated_row r k (f k k) multiplied (suc k)) multiplied

  -- The rows that the steps leave alone.
  multiplied_keeps : (i : ℕ) → (k < i → i < r → ⊥) → multiplied i ≡ f i
  unfolding multiplied_rows
  multiplied_keeps i n = between_out (suc k) r (multiplier_row k p f) f i n

  rows_keep : (i : ℕ) → (suc k < i → i < r → ⊥) → rows i ≡ begun i
  unfolding pair_rows multiplied_rows
  rows_keep i n =
      between_out (suc (suc k)) r (pair_row r k (f k k) (after (suc k) (suc k)) both) both i n
      ∙ between_out (suc (suc k)) r (multiplier_row (suc k) p' begun) begun i n

  begun_keeps : (i : ℕ) → (k < i → i < r → ⊥) → begun i ≡ f i
  unfolding next_begun first
  begun_keeps i n =
      between_out (suc (suc k)) r (column_row k multiplied) first i (λ a b. n (omega arith) b)
      ∙ replace_other (suc k) (eliminated_row r k (f k k) multiplied (suc k)) multiplied i (λ e. n (omega arith) (omega arith))
      ∙ multiplied_keeps i n

  -- The row of stage k + 1.
  next_row : begun (suc k) ≡ after (suc k)
  unfolding next_begun first
  next_row =
      between-low (suc (suc k)) r (column_row k multiplied) first (suc k) (omega arith)
      ∙ replace_same (suc k) (eliminated_row r k (f k k) multiplied (suc k)) multiplied
      ∙ sym (later_row w r k f (suc k) (omega arith) l)

  -- Row i after it.
  module _ (i : ℕ) (a : suc k < i) (b : i < r) where
    begun-row : begun i ≡ column_row k multiplied i
    unfolding next_begun first
    begun-row = between_in (suc (suc k)) r (column_row k multiplied) first i a b

    next-column : after i (suc k) ≡ begun i (suc k)
    unfolding column_row eliminated_row
    next-column =
        ap (λ (row : ℕ → Float). row (suc k)) (later_row w r k f i (omega arith) b)
        ∙ sym (column_same r k i a b (f k k) (multiplied i) (multiplied k))
        ∙ sym (ap (λ (row : ℕ → Float). row (suc k)) begun-row)

    both-row : both i ≡ multiplier_row (suc k) p' begun i
    unfolding multiplied_rows
    both-row = between_in (suc (suc k)) r (multiplier_row (suc k) p' begun) begun i a b

  -- The rows up to that of stage k + 1, with its multipliers.
  both-up_to : (i : ℕ) → i ≤ suc k → both i ≡ begun i
  unfolding multiplied_rows
  both-up_to i a = between-low (suc (suc k)) r (multiplier_row (suc k) p' begun) begun i (omega arith)

  begun_first : begun k ≡ multiplied k
  begun_first = begun_keeps k (λ a b. omega arith) ∙ sym (multiplied_keeps k (λ a b. omega arith))

  -- So the stage begins as it would after stage k, and its tests look at the same numbers.
  pub next-stage : {s p : Float} → IsStage w r (suc k) begun s p → IsStage w r (suc k) after s p
  next-stage h =
      let place : (j : ℕ) → begun (suc k) j ≡ after (suc k) j = λ j. ap (λ (row : ℕ → Float). row j) next_row in
      record {
        sum = h.sum ∙ place (suc k);
        pivots = h.pivots ∙ pivot_same r (suc k) (system_in w begun) (system_in w after) l (place (suc k)) (λ j a b. place j) (weights-refl r w);
      }

  pub alike : Alike r (suc k) begun after
  alike = record { row = sym next_row; column = λ i a b. next-column i a b }

  -- The table after stage k, with the multipliers of stage k + 1.
  abbrev second : ℕ → ℕ → Float
  second = multiplied_rows (suc k) p' r after

  second-row : (i : ℕ) → suc k < i → i < r → second i ≡ multiplier_row (suc k) p' after i
  unfolding multiplied_rows
  second-row i a b = between_in (suc (suc k)) r (multiplier_row (suc k) p' after) after i a b

  second-up_to : (i : ℕ) → i ≤ suc k → second i ≡ after i
  unfolding multiplied_rows
  second-up_to i a = between-low (suc (suc k)) r (multiplier_row (suc k) p' after) after i (omega arith)

  -- Both at once, and one after the other.
  module _ (i : ℕ) (a : suc k < i) (b : i < r) where
    rows-at_once : rows i ≡ at_once r k i a b (f k k) (multiplied i) (multiplied k) (after (suc k) (suc k)) p' (after (suc k))
    unfolding pair_rows pair_row multiplier_row column_row
    rows-at_once =
        between_in (suc (suc k)) r (pair_row r k (f k k) (after (suc k) (suc k)) both) both i a b
        ∙ rw (both-row i a b, begun-row i a b, both-up_to k (omega arith), both-up_to (suc k) (omega arith), next_row, begun_first)

    stages-one_by_one : stage_done w r (suc k) after i ≡ one_by_one r k i a b (f k k) (multiplied i) (multiplied k) (after (suc k) (suc k)) p' (after (suc k))
    unfolding eliminated_row multiplier_row
    stages-one_by_one =
        later_row w r (suc k) after i a b
        ∙ rw (second-row i a b, second-up_to (suc k) (omega arith), later_row w r k f i (omega arith) b)

  -- The pivots in their places.
  inner : ℕ → ℕ → Float
  inner = put k k p rows

  inner_first : inner k ≡ replace k p (f k)
  unfolding inner put
  inner_first = replace_same k (replace k p (rows k)) rows ∙ ap (replace k p) (rows_keep k (λ a b. omega arith) ∙ begun_keeps k (λ a b. omega arith))

  inner_else : (i : ℕ) → (i ≡ k → ⊥) → inner i ≡ rows i
  unfolding inner put
  inner_else i n = replace_other k (replace k p (rows k)) rows i n

  outer : ℕ → ℕ → Float
  outer = put (suc k) (suc k) p' inner

  outer_next : outer (suc k) ≡ replace (suc k) p' (after (suc k))
  unfolding outer put
  outer_next =
      replace_same (suc k) (replace (suc k) p' (inner (suc k))) inner
      ∙ ap (replace (suc k) p') (inner_else (suc k) (λ e. omega arith) ∙ rows_keep (suc k) (λ a b. omega arith) ∙ next_row)

  outer_else : (i : ℕ) → (i ≡ suc k → ⊥) → outer i ≡ inner i
  unfolding outer put
  outer_else i n = replace_other (suc k) (replace (suc k) p' (inner (suc k))) inner i n

  -- A row of neither stage.
  kept : (i : ℕ) → (k ≤ i → i < r → ⊥) → outer i ≡ f i
  kept i n =
      outer_else i (λ e. n (omega arith) (omega arith))
      ∙ inner_else i (λ e. n (omega arith) (omega arith))
      ∙ rows_keep i (λ a b. n (omega arith) b)
      ∙ begun_keeps i (λ a b. n (omega arith) b)

  pub pair_done : put (suc k) (suc k) p' (put k k p rows) ≡ stage_done w r (suc k) after
  unfolding inner outer
  pair_done =
      fun_ext (λ i. by_order k i
      (λ a. by_order r i
      (λ b. kept i (λ c d. omega arith) ∙ sym (past_row_keeps w r (suc k) after l i b ∙ past_row_keeps w r k f (omega arith) i b))
      (λ b. by_equal i k
      (λ e. rw e (outer_else k (λ c. omega arith) ∙ inner_first ∙ sym (earlier-row_keeps w r (suc k) after k (omega arith) ∙ pivot-row w r k f)))
      (λ n. by_equal i (suc k)
      (λ e. rw e (outer_next ∙ sym (pivot-row w r (suc k) after)))
      (λ m. outer_else i m ∙ inner_else i n ∙ rows-at_once i (omega arith) b ∙ at_once_lem r k i (omega arith) b (f k k) (multiplied i) (multiplied k) (after (suc k) (suc k)) p' (after (suc k)) ∙ sym (stages-one_by_one i (omega arith) b)))))
      (λ a. kept i (λ c d. omega arith) ∙ sym (earlier-row_keeps w r (suc k) after i (omega arith) ∙ earlier-row_keeps w r k f i (omega arith))))

-- With no later rows, stage k has done all that stage k + 1 needs.
pub next_done : (w : Weights) (r k : ℕ) (f : ℕ → ℕ → Float) → suc (suc k) ≡ r → put k k (pivot r (system_in w f) k) (next_begun r k (f k k) (multiplied_rows k (pivot r (system_in w f) k) r f)) ≡ stage_done w r k f
unfolding stage_done next_begun eliminated_rows
next_done w r k f e =
    let g = multiplied_rows k (pivot r (system_in w f) k) r f in
    let row = eliminated_row r k (f k k) g in
    ap (put k k (pivot r (system_in w f) k))
    (between_none (suc (suc k)) r (column_row k g) (replace (suc k) (row (suc k)) g) (omega arith)
    ∙ ap (replace (suc k) (row (suc k))) (sym (between_none (suc k) (suc k) row g (le_refl (suc k))))
    ∙ between_step (suc k) (suc k) row g (le_refl (suc k))
    ∙ ap (λ (hi : ℕ). between (suc k) hi row g) (add-one (suc k) ∙ e))

-- The last stage has no rows: it leaves its pivot, and the pivot's test is all of its test.
last_done : (w : Weights) (r k : ℕ) (f : ℕ → ℕ → Float) → suc k ≡ r → stage_done w r k f ≡ put k k (pivot r (system_in w f) k) f
unfolding stage_done eliminated_rows multiplied_rows
last_done w r k f e =
    let p = pivot r (system_in w f) k in
    rw (between_none (suc k) r (multiplier_row k p f) f (omega arith), between_none (suc k) r (eliminated_row r k (f k k) f) f (omega arith))

pub last-stage :
    (w : Weights) (r k : ℕ) (f : ℕ → ℕ → Float) {s p : Float} {ok : Bool} {xs : List Float}
    → suc k ≡ r → IsStage w r k f s p → Holds xs (put k k p f) → ok ≡ pivot_in_range r (system_in w f) k → StageFinds w r k f ok xs
unfolding stage_in_range
last-stage w r k f {ok = ok} e h held t =
    let own = pivot_in_range r (system_in w f) k in
    let rows = all (row_in_range r (λ _. system_in w f) k) (suc k) (r - suc k) in
    record {
      told =
          record {
            passes = λ u. rw t (and_l own rows u);
            tells = λ g u. and_i own rows (rw t at u) (every (row_in_range r (λ _. system_in w f) k) (suc k) (r - suc k) (λ i m n. let z : ⊥ = omega arith in absurd z));
          };
      tested = λ u. in_range-finite r (system_in w f) k (rw t at u);
      holds = record { long = held.long; is = held.is ∙ ap (λ x. put k k x f) h.pivots ∙ sym (last_done w r k f e) };
    }
