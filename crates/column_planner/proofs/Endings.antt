-- From a loaded sheet to its column, and the service's promise for each way that a call can end.
use mathlib.Core.Path.{◌≡◌, refl, sym, ap, ap₂, ◌∙◌}
use Prim.Native.Nat.{ℕ, ◌-◌, ◌≤◌, ◌<◌}
use native.Mathlib.Nat.{le_refl, le_of_lt}
use mathlib.Core.Bool.{Bool, true, false, ◌&&◌, and-false}
use mathlib.Core.List.{List, ◌++◌}
use lib.IntN.{ℤ}
use Rattle.std.specs.Prelude.{Option, Some, None}
use Rattle.std.specs.Option.{is_some, unwrap_or}
use lib.ListN.{length, get_or, drop}
use lib.Ieee.{Float, nan}
use Rattle.exact.proofs.Bools.{holds, contrary}
use Rattle.exact.proofs.Cases.{by_bool}
use Rattle.definitions.specs.Numbers.{0·0, all}
use Rattle.definitions.specs.LeavingRates.{none, downward, shared, column}
use Rattle.definitions.specs.Tables.{list}
use Rattle.definitions.specs.Compact.{rank}
use Rattle.definitions.specs.Sheet.{size, weights, system, takes_part, allowance}
use Rattle.definitions.specs.Table.{live_system, live_begun, entry}
use Rattle.definitions.specs.Questions.{pass, refuse}
use Rattle.definitions.specs.Accuracy.{Binary64}
use Rattle.definitions.specs.Services.{given, answer, filled}
use Rattle.definitions.specs.Column.{column_input, column_of, column_in_range, column_questions, stage_column, column_answer, column_area}
use Rattle.steps.proofs.LiveStages.{entry-idle, column_of-live, column_of-idle, every_entry, every_column}
use Rattle.steps.proofs.Same.{same_quotient, same_column_range}
use Rattle.steps.proofs.QuestionLaws.{never_both}
use Rattle.tables.specs.RowMajor.{table, Holds}
use Rattle.tables.specs.Vectors.{IsVector, vector, ZeroVector}
use Rattle.passes.specs.Multipliers.{system_in}
use Rattle.column.specs.ColumnSteps.{ColumnSolved}
use Rattle.compact.specs.Listing.{stage_at, Found}
use Rattle.compact.specs.Compact.{UnpackedVector}
use Rattle.compact.proofs.Listings.{place_of, listing_stage, found_passes, found_fails}
use Rattle.live.specs.LivePacked.{LivePacked}
use Rattle.live.proofs.LiveSteps.{live_same, live-counted, live-quotient}
use Rattle.loading.specs.LoadedTable.{with_sizes, with_rates}
use Rattle.loading.proofs.LoadedSheet.{rates_are, loaded_system}
use Rattle.accuracy.proofs.Rule.{accurate_column}
use Rattle.accuracy.proofs.Same.{same_vector}
use Rattle.writing.proofs.AcceptedArea.{vector_area}
use Rattle.steps.proofs.AcceptedCalls.{column-known, column-stage}
use Rattle.std.specs.Prelude.{Result, Ok, Err}
use Rattle.answers.specs.declared.Question.TheVariants as question
use Rattle.answers.specs.declared.Refusal.{Refusal}
use Rattle.answers.specs.Answers.{number, of_call, told}
use Rattle.column_planner.specs.Promises.{ColumnStepped, ColumnDone}

-- The steps on the table of a sheet without idle stages.
pub column_stepped : (n j : ℕ) (sheet : List Float) {f : ℕ → ℕ → Float} {sizes t xs : List Float} {ok : Bool}
    → all (takes_part 1 n sheet) 0 n ≡ true → j < n → f ≡ (λ _ _. 0·0)
    → Holds sizes (with_sizes n sheet f) → Holds t (with_rates n sheet (table sizes)) → ColumnSolved n j (table t) ok xs → ColumnStepped n sheet j ok xs
unfolding weights
column_stepped n j sheet e below zeros loaded rated s =
    let q = rw (rates_are n sheet zeros loaded rated) at s in
    let same = loaded_system n sheet 1 none tt in
    let held = system_in none (with_rates n sheet (size n sheet)) in
    record {
      range = q.range ∙ same_column_range n held (system 1 n sheet) same j ∙ sym (every_column n sheet e j below);
      entries = λ u i l. q.quotients u i l ∙ same_quotient n held (system 1 n sheet) same i j l ∙ sym (every_entry 1 n sheet e refl i j l below);
      long = q.long;
    }

pub place_within : (r j : ℕ) (stages : List ℕ) (place : Option ℕ) → Found r stages j place → unwrap_or place r ≤ r
place_within r j stages None f = le_refl r
place_within r j stages (Some q) f = le_of_lt f.0

-- The steps on the stages that are not idle; stage j stands at place q of their list, or at none, and then q is past the list.
module _ {n j : ℕ} {sheet : List Float} {r : ℕ} {stages : List ℕ} {s : List Float} (packed : LivePacked n sheet r stages s)
    (place : Option ℕ) {q : ℕ} (below : j < n) (found : Found r stages j place) (at : q ≡ unwrap_or place r) {ok : Bool} {bs : List Float} (solved : ColumnSolved r q (table s) ok bs) where
  abbrev on : ℕ → Bool
  on = takes_part 1 n sheet

  its_place : on j ≡ true → q ≡ rank on j
  its_place t = at ∙ ap (λ o. unwrap_or o r) (found_passes packed.listing below place found t)

  its_column : q ≡ column_of n sheet j
  its_column =
      by_bool (on j)
      (λ t. its_place t ∙ sym (column_of-live n sheet j t))
      (λ f. at ∙ ap (λ o. unwrap_or o r) (found_fails packed.listing below place found f) ∙ live-counted packed ∙ sym (column_of-idle n sheet j f))

  live_range : ok ≡ column_in_range n sheet j
  unfolding column_in_range live_begun
  live_range =
      solved.range
      ∙ same_column_range r (system_in none (table s)) (live_system 1 n sheet) (live_same packed) q
      ∙ ap₂ (λ r q. shared r (downward r (live_system 1 n sheet)) && column r (downward r (live_system 1 n sheet)) q) (live-counted packed) its_column

  pub live_fails : ok ≡ false → {xs : List Float} → IsVector xs → ColumnStepped n sheet j false xs
  live_fails e l = record { range = sym e ∙ live_range; entries = λ z. absurd z; long = l }

  idle-entry : (i : ℕ) → (on i && on j) ≡ false → 0·0 ≡ entry 1 n sheet i j
  idle-entry i e = sym (entry-idle 1 n sheet refl i j e)

  module _ (held : ok ≡ true) where
    -- An idle stage: zeros.
    pub idle-column : is_some place ≡ false → {xs : List Float} → ZeroVector xs → ColumnStepped n sheet j true xs
    idle-column past h =
        let off : on j ≡ false = by_bool (on j) (λ t. absurd (contrary (is_some place) (ap is_some (found_passes packed.listing below place found t)) past)) (λ f. f) in
        record {
          range = sym held ∙ live_range;
          entries = λ _ i l. ap (λ (v : ℕ → Float). v i) h.is ∙ idle-entry i (rw (off, and-false (on i)));
          long = h.long;
        }

    -- Another: each number in its own row, and the zeros that were there.
    pub live-column : is_some place ≡ true → (x : ℕ → Float) → x ≡ (λ _. 0·0) → {xs : List Float} → UnpackedVector (stage_at stages) (vector bs) r x xs → ColumnStepped n sheet j true xs
    live-column inside x zeros {xs} u = record { range = sym held ∙ live_range; entries = λ _ i l. by_bool (on i) (own i l) (other i); long = u.long }
      where
        yes : on j ≡ true
        yes = by_bool (on j) (λ t. t) (λ f. absurd (contrary (is_some place) inside (ap is_some (found_fails packed.listing below place found f))))

        own : (i : ℕ) → i < n → on i ≡ true → vector xs i ≡ entry 1 n sheet i j
        own i l t =
            let a = place_of packed.listing i l t in
            (rw a.stands at (u.at a.place a.within))
            ∙ solved.quotients (holds held) a.place a.within
            ∙ live-quotient packed i j a.within t yes a.ranked (sym (its_place yes))

        other : (i : ℕ) → on i ≡ false → vector xs i ≡ entry 1 n sheet i j
        other i f =
            u.rest i (λ p l e. contrary (on i) (rw e (listing_stage packed.listing p l).passes) f)
            ∙ ap (λ (v : ℕ → Float). v i) zeros
            ∙ idle-entry i (rw f)

module _ (reading n : ℕ) (e : ℤ) (sheet : List Float) (stage : ℕ) (before : List Float) where
  refused_with : {r : Result ℕ Refusal} {refusal : Refusal} → r ≡ Err refusal → column_questions reading n e sheet (length before) stage ≡ refuse (number refusal.question) refusal.row refusal.column
      → ColumnDone reading n e sheet stage before before r
  unfolding column_answer column_area
  refused_with r is =
      record {
        answered = ap told r ∙ ap (λ q. answer q (allowance 1 n)) (sym is);
        area = ap (λ q. filled q (stage_column n sheet stage) before) (sym is);
        accurate = λ p. absurd (never_both is p);
      }

  pub column_refused : {r : Result ℕ Refusal} {refusal : Refusal} → r ≡ Err refusal → column_input reading n e sheet (length before) stage ≡ refuse (number refusal.question) refusal.row refusal.column
      → ColumnDone reading n e sheet stage before before r
  unfolding column_questions
  column_refused r is = refused_with r (rw is)

  module _ (passed : column_input reading n e sheet (length before) stage ≡ pass) {x : List Float} {ok : Bool} (stepped : ColumnStepped n sheet (stage - 1) ok x) where
    pub column_out_of_range : {r : Result ℕ Refusal} → r ≡ Err (of_call question.InRange) → ok ≡ false → ColumnDone reading n e sheet stage before before r
    unfolding column_questions
    column_out_of_range r bad = refused_with r (rw (passed, ← stepped.range, bad))

    pub column_given : {after : List Float} {allowed : ℕ} → Binary64 sheet → ok ≡ true
        → after ≡ list (vector x) n ++ drop n before → allowed ≡ allowance 1 n
        → ColumnDone reading n e sheet stage before after (Ok allowed)
    unfolding column_answer column_area column_questions stage_column
    column_given {after} fit good written a =
        let asked : column_questions reading n e sheet (length before) stage ≡ pass = rw (passed, ← stepped.range, good) in
        let held = vector_area asked n before (λ i. entry 1 n sheet i (stage - 1)) x (stepped.entries (holds good)) written in
        record {
          answered = ap given a ∙ ap (λ q. answer q (allowance 1 n)) (sym asked);
          area = held.area;
          accurate = λ p.
              same_vector (λ i. get_or after i nan) held.at
              (accurate_column n sheet fit (column-known reading n e sheet (length before) stage passed).numbers (stage - 1) (column-stage reading n e sheet (length before) stage passed) (holds (sym stepped.range ∙ good)));
        }
