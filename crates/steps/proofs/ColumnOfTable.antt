-- Where the whole table of reading 1 is accepted, each of its columns is, with the same numbers.
use mathlib.Core.Path.{◌≡◌, refl, sym, ◌∙◌}
use Prim.Native.Nat.{ℕ, ◌*◌, ◌-◌, ◌≤◌, ◌<◌}
use native.Mathlib.Omega.{arith}
use mathlib.Core.Bool.{◌&&◌}
use mathlib.Core.List.{List}
use lib.Dec.{T}
use lib.IntN.{ℤ}
use lib.ListN.{length, get_or, drop}
use lib.Ieee.{Float, nan}
use lib.Ieee.Bits.{is_true}
use lib.Ieee.Fits.{and_i, and_l, and_r}
use borrow.Author.Tests.{le-leb}
use Rattle.exact.proofs.Cases.{by_bool}
use Rattle.definitions.specs.Numbers.{div_in_range, all}
use Rattle.definitions.specs.LeavingRates.{System, downward, p, solved, shared, column_before, column_upward, column, in_range}
use Rattle.definitions.specs.Compact.{rank}
use Rattle.definitions.specs.Sheet.{place, takes_part}
use Rattle.definitions.specs.Tables.{list, rows}
use Rattle.definitions.specs.Table.{live_count, live_system, live_begun, entry, every_step_in_range}
use Rattle.definitions.specs.Questions.{pass, ◌then◌, known_reading, question1, question4, question5, size_questions, shape_questions, question10, number_questions, table_input, table_questions}
use Rattle.definitions.specs.Services.{table, table_area}
use Rattle.definitions.specs.Column.{column_reading, column_shape, column_input, column_of, column_in_range, column_questions, stage_column, column_area}
use Rattle.steps.specs.ColumnOfTable.{ColumnOfTable}
use Rattle.rounding.proofs.Finite.{quotient_of_range}
use Rattle.rounding.proofs.AnyNumbers.{zero-over-finite}
use Rattle.steps.proofs.All.{each_below}
use Rattle.steps.proofs.CompactOrder.{rank_below}
use Rattle.steps.proofs.LiveStages.{live_count_lem, steps_in_range, column_of-live, column_of-idle}
use Rattle.steps.proofs.ZeroColumn.{zero-column}
use Rattle.steps.proofs.QuestionLaws.{then_first}
use Rattle.steps.proofs.AcceptedCalls.{AcceptedSheet, table_accepted}
use Rattle.steps.proofs.TableLaws.{place_of-list, place_of-rows}

module _ (n : ℕ) (e : ℤ) (sheet : List Float) (room : ℕ) (accepted : table_questions 1 n e sheet room ≡ pass) where
  -- Questions 2, 12, 3 and 6 to 9 are the same; 10 asks for every column.
  its_sheet : AcceptedSheet 1 n sheet (every_step_in_range 1 n sheet)
  its_sheet = table_accepted 1 n e sheet room accepted

  its_size : size_questions 1 n e (length sheet) ≡ pass
  unfolding table_questions table_input shape_questions question1 known_reading
  its_size =
      then_first (size_questions 1 n e (length sheet)) (question4 (n * n) room then number_questions 1 n sheet)
      (then_first (table_input 1 n e sheet room) (question10 1 n sheet) accepted)

  module _ (r : ℕ) (at : ℕ → System) (t : T (in_range r at)) where
    its_column : (q : ℕ) → q < r → T (column r at q)
    unfolding in_range
    its_column q l = each_below r (column r at) (and_r (shared r at) (all (column r at) 0 r) t) q l

    -- Zeros go through where some column does.
    no_column : T (column r at r)
    unfolding in_range column
    no_column =
        zero-column r at (and_l (shared r at) (all (column r at) 0 r) t) (λ i l.
        let last = each_below r (λ k. div_in_range (solved r at i k) (p r at k)) (and_r (column_before r at i r && column_upward r at i r) (all (λ k. div_in_range (solved r at i k) (p r at k)) 0 r) (its_column i l)) i l in
        zero-over-finite (solved r at i i) (p r at i) (quotient_of_range (solved r at i i) (p r at i) last))

  in_range_lem : (j : ℕ) → j < n → T (column_in_range n sheet j)
  unfolding column_in_range live_begun in_range
  in_range_lem j l =
      let r = live_count 1 n sheet in
      let at = downward r (live_system 1 n sheet) in
      let t = rw (steps_in_range 1 n sheet refl) at its_sheet.in_range_lem in
      and_i (shared r at) (column r at (column_of n sheet j)) (and_l (shared r at) (all (column r at) 0 r) t)
      (by_bool (takes_part 1 n sheet j)
      (λ on. rw (column_of-live n sheet j on) (its_column r at t (rank (takes_part 1 n sheet) j) (rw (live_count_lem 1 n sheet) (rank_below (takes_part 1 n sheet) n j l on))))
      (λ off. rw (column_of-idle n sheet j off) (no_column r at t)))

  column_accepted : (free stage : ℕ) → 1 ≤ stage → stage ≤ n → n ≤ free → column_questions 1 n e sheet free stage ≡ pass
  unfolding column_questions column_input column_shape column_reading question4 question5
  column_accepted free stage a b c =
      rw (its_size, le-leb n free c, le-leb 1 stage a, le-leb stage n b, its_sheet.known.numbers, is_true (column_in_range n sheet (stage - 1)) (in_range_lem (stage - 1) (omega arith)))

pub column_of-table : ColumnOfTable
unfolding ColumnOfTable column_area stage_column table_area table
column_of-table n e sheet table_before column_before stage accepted a b c =
    let ok = column_accepted n e sheet (length table_before) accepted (length column_before) stage a b c in
    let f : ℕ → Float = λ i. entry 1 n sheet i (stage - 1) in
    let own : (i : ℕ) → i < n → get_or (column_area 1 n e sheet stage column_before) i nan ≡ f i = λ i l. rw ok (place_of-list f n (drop (length (list f n)) column_before) i l) in
    let whole : (i : ℕ) → i < n → place n (table_area 1 n e sheet table_before) i (stage - 1) ≡ f i = λ i l. rw accepted (place_of-rows (entry 1 n sheet) n (drop (length (rows (entry 1 n sheet) n n)) table_before) i (stage - 1) l (omega arith)) in
    record { accepted = ok; same = λ i l. own i l ∙ sym (whole i l) }
