-- A pass, turn by turn: the rows, their tests, and the bound of those that are done.
use mathlib.Core.Path.{◌≡◌, refl, sym, ap, ◌∙◌}
use Prim.Native.Nat.{ℕ, zero, suc, ◌+◌, ◌≤◌, ◌<◌}
use native.Mathlib.Nat.{le_refl, sub-zero}
use native.Mathlib.Numerals.{add-one}
use native.Mathlib.Omega.{arith}
use mathlib.Core.Bool.{Bool, true, false}
use mathlib.Core.List.{List}
use lib.Dec.{T}
use lib.Ieee.{Float}
use Rattle.exact.proofs.Cases.{by_equal, by_order}
use Rattle.definitions.specs.Numbers.{all}
use Rattle.steps.proofs.All.{every, all_same}
use Rattle.steps.proofs.AddProduct.{step_test_same}
use Rattle.tables.specs.RowMajor.{IsTable, table}
use Rattle.tables.specs.Rows.{plus_multiple_in_range}
use Rattle.tables.proofs.Operators.{replace_same, replace_other, replace-own}
use Rattle.bounds.specs.Bounds.{Bound, Covering, Least}
use Rattle.bounds.proofs.Bounds.{covering_less}
use Rattle.passes.specs.Told.{Told, FiniteRow, FiniteTable}
use Rattle.passes.specs.RowPass.{turn, reach, staged, staged_in_range, passed, pass_in_range}
use Rattle.passes.proofs.Told.{ToldEach, told_from, told_turns, told_begins, told_exactly, told_ends}
use Rattle.passes.proofs.RowPass.{turns, staged_same, passed_done}
use Rattle.passes.proofs.ColumnPasses.{waits}
use Rattle.turns.specs.Turns.{skipped, Skips, RowBecomes}
use Rattle.columns.specs.Columns.{PassStarts, PassDone}
use Rattle.turns.proofs.Turns.{turn_below, turn_apart, reach-below}

module _ (r : ℕ) (falling : Bool) (g f : ℕ → ℕ → Float) where
  abbrev κ : ℕ → ℕ
  κ = turn r falling

  abbrev pub turn_test : ℕ → Bool
  turn_test s = staged_in_range κ (reach r falling) g (passed κ g f s) (κ s) s

  abbrev pub TurnFinite : ℕ → Type 0
  TurnFinite s = FiniteRow r (staged κ g (passed κ g f s) (κ s) s)

  -- Before turn s: the table, and a bound of all rows that are done but the last.
  pub record Passing (lo : Float) (xs : List Float) (s : ℕ) : Type 0 where
    pub long : IsTable xs
    pub inside : (i c : ℕ) → i < r → c < r → table xs i c ≡ passed κ g f s i c
    pub bound : Bound lo
    pub covers : (q : ℕ) → suc q < s → Covering lo (table xs (κ q)) 0 (reach r falling q)

  -- Turn 0 has nothing to add.
  pub passing_begins : {lo : Float} {xs : List Float} (s : ℕ) → s ≡ 1 → table xs ≡ f → IsTable xs → Bound lo → Passing lo xs s
  unfolding passed staged
  passing_begins s e d h b =
      record {
        long = h;
        inside = λ i c l m. rw (e, d) (ap (λ (t : ℕ → ℕ → Float). t i c) (sym (replace-own (κ 0) f)));
        bound = b;
        covers = λ q l. let z : ⊥ = omega arith in absurd z;
      }

  nothing_tested : (q : ℕ) → q ≡ 0 → T (turn_test q)
  unfolding staged_in_range all
  nothing_tested q e = rw e tt

  pub told_begins_pass : (s : ℕ) → s ≡ 1 → ToldEach turn_test TurnFinite 0 s true
  unfolding staged_in_range all
  told_begins_pass s e = rw e (told_turns (told_begins refl) (told_exactly refl))

  module _ (few : r ≤ 32) {lo : Float} {xs : List Float} {s : ℕ} (h : Passing lo xs s) where
    -- The bound made lower for the last row that is done.
    pub all_covered : {next : Float} (p : ℕ) → suc p ≡ s → Least lo (table xs (κ p)) 0 (reach r falling p) next → (q : ℕ) → q < s → Covering next (table xs (κ q)) 0 (reach r falling q)
    all_covered p e m q l =
        by_equal q p
        (λ d. rw d m.covering)
        (λ n. covering_less m.covering.bound m.less (h.covers q (omega arith)))

    module _ (l : s < r) where
      staged_now : (q c : ℕ) → q ≤ s → c < r → staged κ g (table xs) (κ s) q c ≡ staged κ g (passed κ g f s) (κ s) q c
      staged_now q c m n =
          staged_same κ g (table xs) (passed κ g f s) (κ s) c s
          (h.inside (κ s) c (turn_below r few falling s l) n)
          (λ p o. h.inside (κ p) c (turn_below r few falling p (omega arith)) n)
          q m

      tests_now : staged_in_range κ (reach r falling) g (table xs) (κ s) s ≡ turn_test s
      unfolding staged_in_range plus_multiple_in_range
      tests_now =
          all_same (λ q. all (plus_multiple_in_range (g (κ s) (κ q)) (staged κ g (table xs) (κ s) q) (table xs (κ q))) 0 (reach r falling q))
          (λ q. all (plus_multiple_in_range (g (κ s) (κ q)) (staged κ g (passed κ g f s) (κ s) q) (passed κ g f s (κ q))) 0 (reach r falling q)) 0 s (λ q _ m.
          all_same (plus_multiple_in_range (g (κ s) (κ q)) (staged κ g (table xs) (κ s) q) (table xs (κ q)))
          (plus_multiple_in_range (g (κ s) (κ q)) (staged κ g (passed κ g f s) (κ s) q) (passed κ g f s (κ q))) 0 (reach r falling q) (λ c _ n.
          let w = reach-below r few falling q (omega arith) in
          let b : c < r = omega arith in
          step_test_same (staged_now q c (omega arith) b) refl (h.inside (κ q) c (turn_below r few falling q (omega arith)) b)))

      pub turn_told : {ok : Bool} → Told ok (staged_in_range κ (reach r falling) g (table xs) (κ s) s) (FiniteRow r (staged κ g (table xs) (κ s) s)) → Told ok (turn_test s) (TurnFinite s)
      turn_told t = told_from (rw tests_now at t) (λ u c n. rw (staged_now s c (le_refl s) n) (u c n))

      pub turn_done : {ys : List Float} {next : Float} → RowBecomes (κ s) r (staged κ g (table xs) (κ s) s) xs ys → ((q : ℕ) → q < s → Covering next (table xs (κ q)) 0 (reach r falling q)) → Bound next → Passing next ys (s + 1)
      unfolding passed
      turn_done {ys} {next} w covers b =
          let now = passed κ g f s in
          let row = staged κ g now (κ s) s in
          record {
            long = w.long;
            inside = λ i c m n. rw (add-one s) (by_equal i (κ s)
                (λ e. rw e (w.inside c n ∙ staged_now s c (le_refl s) n ∙ sym (ap (λ (x : ℕ → Float). x c) (replace_same (κ s) row now))))
                (λ o. ap (λ (x : ℕ → Float). x c) (w.others i o) ∙ h.inside i c m n ∙ sym (ap (λ (x : ℕ → Float). x c) (replace_other (κ s) row now i o))));
            bound = b;
            covers = λ q m. rw (w.others (κ q) (turn_apart r few falling q s (omega arith) l)) (covers q (omega arith));
          }

  -- All turns. With no row at all, turn 0 was counted too.
  finite-rows : FiniteTable r (passed κ g f r) → (s : ℕ) → 0 ≤ s → s < r → TurnFinite s
  finite-rows u s _ l c n =
      rw (ap (λ (x : ℕ → Float). x c) (passed_done (turns r falling) g f r s l (le_refl r))) at (u (κ s) ((turns r falling).below s l) c n)

  pub passing_ends : {lo : Float} {xs : List Float} {s : ℕ} {ok : Bool} → Passing lo xs s → ToldEach turn_test TurnFinite 0 s ok → r ≤ s → (1 < s → s ≤ r) → PassDone r falling g f ok xs
  unfolding pass_in_range
  passing_ends {xs = xs} {s} {ok} h t a b =
      by_order s r
      (λ l.
      let e : s ≡ r = omega arith in
      record {
        told = told_from (rw (sub-zero r) at (told_ends t l a)) finite-rows;
        long = h.long;
        inside = rw e at h.inside;
      })
      (λ l.
      by_order s 1
      (λ m.
      let none : r ≡ 0 = omega arith in
      record {
        told = record {
          passes = λ _. t.passes (λ q _ n. nothing_tested q (omega arith));
          tells = λ _ _. every turn_test 0 r (λ q _ n. let z : ⊥ = omega arith in absurd z);
        };
        long = h.long;
        inside = λ i c n o. let z : ⊥ = omega arith in absurd z;
      })
      (λ m. let z : s ≤ r = b m in let y : ⊥ = omega arith in absurd y))

-- Downward, the turns before a column's own change nothing there.
pub passing_skips : (r : ℕ) → r ≤ 32 → (falling : Bool) (g f : ℕ → ℕ → Float) {lo : Float} {xs : List Float} {s : ℕ} → Passing r falling g f lo xs s → s < r → PassStarts r falling g f → Skips r falling s g (table xs)
unfolding skipped staged
passing_skips r few true g f h l p zero c m n o = refl
passing_skips r few true g f h l p (suc q) c m n o = let z : ⊥ = omega arith in absurd z
passing_skips r few false g f {xs = xs} {s} h l p q c m n o =
    let waiting = waits r g f (p.identity refl) (p.multipliers refl) s in
    staged_now r false g f few h l q c m o
    ∙ waiting q c l m n o
    ∙ sym (waiting 0 c l (omega arith) (omega arith) o)
    ∙ sym (h.inside (turn r false s) c (turn_below r few false s l) o)
