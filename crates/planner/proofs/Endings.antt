-- The promises of the services, for each way that a call can end.
use mathlib.Core.Path.{◌≡◌, sym, ap, ◌∙◌}
use Prim.Native.Nat.{ℕ, ◌*◌, ◌-◌}
use native.Mathlib.Omega.{arith}
use mathlib.Core.Bool.{Bool, true, false}
use mathlib.Core.List.{List, ◌++◌}
use lib.IntN.{ℤ}
use lib.ListN.{length, drop}
use lib.Ieee.{Float}
use Rattle.definitions.specs.Sheet.{place, takes_part, allowance}
use Rattle.definitions.specs.Tables.{rows}
use Rattle.definitions.specs.Table.{entry}
use Rattle.definitions.specs.Matrix.{matrix}
use Rattle.definitions.specs.Questions.{pass, refuse, question10, table_input, table_questions, entry_input, entry_questions}
use Rattle.definitions.specs.Accuracy.{Binary64, Accurate}
use Rattle.definitions.specs.Services.{given, answer, filled, table, table_answer, table_area, entry_answer}
use Rattle.tables.specs.RowMajor as working
use Rattle.shape.proofs.ShapeQuestions.{entry-input-passed}
use Rattle.accuracy.proofs.Rule.{accurate_table}
use Rattle.accuracy.proofs.Same.{same_table}
use Rattle.writing.proofs.AcceptedArea.{table_area_lem}
use Rattle.steps.proofs.QuestionLaws.{never_both}
use Rattle.steps.proofs.AcceptedCalls.{table-known, entry_known}
use Rattle.std.specs.Prelude.{Result, Ok, Err}
use Rattle.answers.specs.declared.Question.TheVariants as question
use Rattle.answers.specs.declared.Refusal.{Refusal}
use Rattle.answers.specs.Answers.{number, of_call, told}
use Rattle.readings.specs.Stepped.{Stepped}
use Rattle.planner.specs.Promises.{TableDone, EntryDone}
use Rattle.planner.proofs.Asked.{after_refusal, out_of_range, in_range_lem}
use Rattle.exact.proofs.Bools.{holds}

module _ (reading n : ℕ) (e : ℤ) (sheet : List Float) where
  -- The whole table: a refusal, in range or not, and the table.
  module _ (before : List Float) where
    refused_with : {r : Result ℕ Refusal} {refusal : Refusal} → r ≡ Err refusal → table_questions reading n e sheet (length before) ≡ refuse (number refusal.question) refusal.row refusal.column
        → TableDone reading n e sheet before before r
    unfolding table_answer table_area
    refused_with r is =
        record {
          answered = ap told r ∙ ap (λ q. answer q (allowance reading n)) (sym is);
          area = ap (λ q. filled q (table reading n sheet) before) (sym is);
          accurate = λ p. absurd (never_both is p);
        }

    pub table_refused : {r : Result ℕ Refusal} {refusal : Refusal} → r ≡ Err refusal → table_input reading n e sheet (length before) ≡ refuse (number refusal.question) refusal.row refusal.column
        → TableDone reading n e sheet before before r
    unfolding table_questions
    table_refused r is = refused_with r (after_refusal (question10 reading n sheet) is)

    module _ (passed : table_input reading n e sheet (length before) ≡ pass) {x : List Float} {ok : Bool} (stepped : Stepped reading n sheet ok x) where
      pub table_out_of_range : {r : Result ℕ Refusal} → r ≡ Err (of_call question.InRange) → ok ≡ false → TableDone reading n e sheet before before r
      unfolding table_questions
      table_out_of_range r bad = refused_with r (out_of_range reading n sheet passed stepped.range bad)

      table_accurate : Binary64 sheet → ok ≡ true → Accurate n (takes_part reading n sheet) (allowance reading n) (matrix reading n sheet) (entry reading n sheet)
      table_accurate fit good =
          accurate_table reading n sheet fit (record { known = table-known reading n e sheet (length before) passed; in_range_lem = holds (sym stepped.range ∙ good) })

      pub table_given : {after : List Float} {allowed : ℕ} → Binary64 sheet → ok ≡ true
          → after ≡ rows (working.table x) n n ++ drop (n * n) before → allowed ≡ allowance reading n
          → TableDone reading n e sheet before after (Ok allowed)
      unfolding table_answer table_area table_questions table
      table_given {after} {allowed} fit good written a =
          let all-Asked = in_range_lem reading n sheet passed stepped.range good in
          let held = table_area_lem all-Asked n before (entry reading n sheet) x (stepped.entries (holds good)) written in
          record {
            answered = ap given a ∙ ap (λ q. answer q (allowance reading n)) (sym all-Asked);
            area = held.area;
            accurate = λ p. same_table (place n after) held.at (table_accurate fit good);
          }

  -- One entry in the same three ways.
  module _ (i j : ℕ) where
    entry_refused_with : {r : Result Float Refusal} {refusal : Refusal} → r ≡ Err refusal → entry_questions reading n e sheet i j ≡ refuse (number refusal.question) refusal.row refusal.column
        → EntryDone reading n e sheet i j r
    unfolding entry_answer
    entry_refused_with r is =
        record {
          answered = ap told r ∙ ap (λ q. answer q (entry reading n sheet (i - 1) (j - 1))) (sym is);
          accurate = λ p. absurd (never_both is p);
        }

    pub entry_refused : {r : Result Float Refusal} {refusal : Refusal} → r ≡ Err refusal → entry_input reading n e sheet i j ≡ refuse (number refusal.question) refusal.row refusal.column
        → EntryDone reading n e sheet i j r
    unfolding entry_questions
    entry_refused r is = entry_refused_with r (after_refusal (question10 reading n sheet) is)

    module _ (passed : entry_input reading n e sheet i j ≡ pass) {x : List Float} {ok : Bool} (stepped : Stepped reading n sheet ok x) where
      pub entry_out_of_range : {r : Result Float Refusal} → r ≡ Err (of_call question.InRange) → ok ≡ false → EntryDone reading n e sheet i j r
      unfolding entry_questions
      entry_out_of_range r bad = entry_refused_with r (out_of_range reading n sheet passed stepped.range bad)

      entry_accurate : Binary64 sheet → ok ≡ true → Accurate n (takes_part reading n sheet) (allowance reading n) (matrix reading n sheet) (entry reading n sheet)
      entry_accurate fit good =
          accurate_table reading n sheet fit (record { known = entry_known reading n e sheet i j passed; in_range_lem = holds (sym stepped.range ∙ good) })

      pub entry_given_lem : {value : Float} → Binary64 sheet → ok ≡ true → value ≡ working.table x (i - 1) (j - 1) → EntryDone reading n e sheet i j (Ok value)
      unfolding entry_answer entry_questions
      entry_given_lem fit good v =
          let stages = entry-input-passed reading n e sheet i j passed in
          let seconds = v ∙ stepped.entries (holds good) (i - 1) (j - 1) (omega (arith, stages.1)) (omega (arith, stages.2)) in
          record {
            answered = ap given seconds ∙ ap (λ q. answer q (entry reading n sheet (i - 1) (j - 1))) (sym (in_range_lem reading n sheet passed stepped.range good));
            accurate = λ p. entry_accurate fit good;
          }
