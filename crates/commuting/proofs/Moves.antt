-- What an accepted move says: its questions, its unit, and each number of the sheet that it leaves.
use Prim.Native.Nat.{ℕ, ◌+◌, ◌*◌, ◌-◌, ◌≤◌, ◌<◌}
use native.Mathlib.Decide.{dec_lt}
use native.Mathlib.Omega.{arith}
use mathlib.Core.List.{List, map}
use mathlib.Core.Path.{◌≡◌, sym, ap, ◌∙◌}
use borrow.Author.Tests.{le-leb}
use lib.Dec.{T}
use lib.IntN.{ℤ, ◌+ℤ◌}
use lib.ListN.{length, get_or, take, drop, length-append, length-map, take-append-drop, get_or-append, get_or-map}
use lib.Seq.{length-take-le, take_at, drop_at, get_or-take, get_or-drop}
use lib.Ieee.{Float, nan, binary64, fits}
use lib.Ieee.Bits.{is_true}
use Rattle.definitions.specs.Numbers.{finite}
use Rattle.definitions.specs.Sheet.{sheet_numbers}
use Rattle.definitions.specs.Questions.{pass, ◌then◌, exponent_in_range, shape_questions, question4, place_questions}
use Rattle.definitions.specs.Accuracy.{Binary64}
use Rattle.definitions.specs.Moving.{times_power, has_room, rates_have_room, question15, question17, question16, move_input, move_questions, move_answer, moved_sheet, moved_area}
use Rattle.rounding.proofs.SizeWithin.{room_held}
use Rattle.steps.proofs.All.{each_below}
use Rattle.steps.proofs.QuestionLaws.{then_first, then_next, ask_yes, given_passes, given_is, number-finite}
use Rattle.shape.specs.Square.{WholeSheet}
use Rattle.shape.proofs.Square.{is_square, every_number}
use Rattle.shape.proofs.ShapeQuestions.{shape_passed}
use Rattle.commuting.specs.Commuting.{Moved}

-- ---- the moved sheet
pub moved_length : (n : ℕ) (k : ℤ) (sheet : List Float) → length (moved_sheet n k sheet) ≡ length sheet
unfolding moved_sheet
moved_length n k sheet =
    length-append (map (λ number. times_power k number) (take (n * n) sheet)) (drop (n * n) sheet)
    ∙ ap (λ l. l + length (drop (n * n) sheet)) (length-map (take (n * n) sheet) (λ number. times_power k number))
    ∙ sym (length-append (take (n * n) sheet) (drop (n * n) sheet))
    ∙ ap length (take-append-drop (n * n) sheet)

module _ (n : ℕ) (k : ℤ) (sheet : List Float) (h : n * n ≤ length sheet) where
  pub rates_length : length (map (λ number. times_power k number) (take (n * n) sheet)) ≡ n * n
  rates_length = length-map (take (n * n) sheet) (λ number. times_power k number) ∙ length-take-le (n * n) sheet h

  moved-rate : (at : ℕ) → at < n * n → get_or (moved_sheet n k sheet) at nan ≡ times_power k (get_or sheet at nan)
  unfolding moved_sheet times_power
  moved-rate at l =
      get_or-append (map (λ number. times_power k number) (take (n * n) sheet)) (drop (n * n) sheet) nan at (rw rates_length l)
      ∙ get_or-map (λ number. times_power k number) (take (n * n) sheet) at nan
      ∙ ap (times_power k) (get_or-take (n * n) sheet at nan l)

  moved-weights : drop (n * n) (moved_sheet n k sheet) ≡ drop (n * n) sheet
  unfolding moved_sheet
  moved-weights = drop_at (map (λ number. times_power k number) (take (n * n) sheet)) (drop (n * n) sheet) (n * n) rates_length

-- Lists with the same numbers from one place on.
pub same_behind : (from : ℕ) (xs ys : List Float) → drop from xs ≡ drop from ys → (at : ℕ) → from ≤ at → get_or xs at nan ≡ get_or ys at nan
same_behind from xs ys e at l =
    let back : from + (at - from) ≡ at = omega arith in
    ap (λ i. get_or xs i nan) (sym back) ∙ sym (get_or-drop from xs (at - from) nan) ∙ ap (λ zs. get_or zs (at - from) nan) e ∙ get_or-drop from ys (at - from) nan ∙ ap (λ i. get_or ys i nan) back

-- A move that passed its questions: what each of them says, but for 4.
pub record PassedMove (reading n : ℕ) (e : ℤ) (sheet : List Float) (k : ℤ) : Type 0 where
  pub shape : shape_questions reading n e (length sheet) ≡ pass
  pub places : place_questions reading n sheet ≡ pass
  pub exponent : T (exponent_in_range k)
  pub unit : T (exponent_in_range (e +ℤ k))
  pub room : T (rates_have_room n k sheet)

module _ (reading n : ℕ) (e : ℤ) (sheet : List Float) (k : ℤ) where
  pub move_passed : (room : ℕ) → move_questions reading n e sheet k room ≡ pass → PassedMove reading n e sheet k
  unfolding move_questions move_input question15 question17 question16
  move_passed room q =
      let shape = shape_questions reading n e (length sheet) in
      let places = place_questions reading n sheet in
      let input = move_input reading n e sheet room in
      let units = question17 e k then question16 n k sheet in
      let first = then_first input (question15 k then units) q in
      let last = then_next input (question15 k then units) q in
      let later = then_next (question15 k) units last in
      record {
        shape = then_first shape (question4 (sheet_numbers reading n) room then places) first;
        places = then_next (question4 (sheet_numbers reading n) room) places (then_next shape (question4 (sheet_numbers reading n) room then places) first);
        exponent = ask_yes (exponent_in_range k) 15 0 0 (then_first (question15 k) units last);
        unit = ask_yes (exponent_in_range (e +ℤ k)) 17 0 0 (then_first (question17 e k) (question16 n k sheet) later);
        room = ask_yes (rates_have_room n k sheet) 16 0 0 (then_next (question17 e k) (question16 n k sheet) later);
      }

  pub passes_again : (room : ℕ) → PassedMove reading n e sheet k → sheet_numbers reading n ≤ room → move_questions reading n e sheet k room ≡ pass
  unfolding move_questions move_input question4 question15 question17 question16
  passes_again room a h =
      rw (a.shape, le-leb (sheet_numbers reading n) room h, a.places, is_true (exponent_in_range k) a.exponent, is_true (exponent_in_range (e +ℤ k)) a.unit, is_true (rates_have_room n k sheet) a.room)

module _ {reading n : ℕ} {e : ℤ} {sheet : List Float} {k e' : ℤ} {sheet' : List Float} (m : Moved reading n e sheet k e' sheet') where
  passes : move_questions reading n e sheet k (length m.area) ≡ pass
  unfolding move_answer
  passes = given_passes (move_questions reading n e sheet k (length m.area)) e' (e +ℤ k) (sym m.answered)

  pub passed : PassedMove reading n e sheet k
  passed = move_passed reading n e sheet k (length m.area) passes

  pub unit_is : e' ≡ e +ℤ k
  unfolding move_answer
  unit_is = given_is (move_questions reading n e sheet k (length m.area)) e' (e +ℤ k) (sym m.answered)

  whole : WholeSheet reading n sheet
  whole = (shape_passed reading n e sheet pass (rw passed.shape)).0

  pub rates_are_held : n * n ≤ length sheet
  rates_are_held = (is_square whole).held

  pub sheet_is : sheet' ≡ moved_sheet n k sheet
  unfolding moved_area
  sheet_is = m.written ∙ rw passes (take_at (moved_sheet n k sheet) _ (sheet_numbers reading n) (moved_length n k sheet ∙ whole.held))

  -- The rates, and the weights.
  pub rate_is : (at : ℕ) → at < n * n → get_or sheet' at nan ≡ times_power k (get_or sheet at nan)
  rate_is at l = rw sheet_is (moved-rate n k sheet rates_are_held at l)

  pub weights_are : drop (n * n) sheet' ≡ drop (n * n) sheet
  weights_are = rw sheet_is (moved-weights n k sheet rates_are_held)

  -- What has room is a number of binary64.
  pub held_too : Binary64 sheet → Binary64 sheet'
  unfolding Binary64 rates_have_room times_power
  held_too held at = go (dec_lt at (n * n))
    where
      go : Dec (at < n * n) → T (fits binary64 (get_or sheet' at nan))
      go (yes l) =
          rw (rate_is at l)
          (room_held k (get_or sheet at nan) (every_number whole (λ x. T (finite x)) (number-finite reading n sheet passed.places) at (omega (arith, rates_are_held))) (held at)
          (each_below (n * n) (λ at. has_room (times_power k (get_or sheet at nan))) passed.room at l))
      go (no l) = rw (same_behind (n * n) sheet' sheet weights_are at (omega arith)) (held at)
