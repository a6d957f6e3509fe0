-- The loops of a stage that joins, turn by turn, and its parts put together.
use mathlib.Core.Path.{◌≡◌, refl, sym, ◌∙◌}
use Prim.Native.Nat.{ℕ, suc, ◌+◌, ◌-◌}
use native.Mathlib.Nat.{zero-add}
use native.Mathlib.Numerals.{add-one}
use mathlib.Core.List.{List}
use lib.Ieee.{Float}
use mathlib.Core.Bool.{and-true, Bool, true, false, ◌&&◌}
use Rattle.definitions.specs.Numbers.{◌⊕◌, ◌⊗◌, ◌⊘◌, 0·0, 1·0, finite, mul_in_range, div_in_range, all}
use Rattle.definitions.specs.Margins.{sum_with}
use Rattle.tables.specs.RowMajor.{IsTable, table, Holds}
use Rattle.tables.specs.Operators.{between, put, span}
use Rattle.tables.proofs.Operators.{put_replaced, replace-own}
use Rattle.tables.specs.Vectors.{vector}
use Rattle.joins.specs.StageJoin.{knows, factors_of, Factors, column_row, place_in_range, PlaceFilled, ColumnFilled, unit_row, join_test, joined_table, JoinDone, KnownSum}
use Rattle.joins.specs.Joins.{due_joined, due_test, StageJoins, stages_joined, stages_test, StagesJoin}

-- ---- the sum over the known stages
module _ {known : ℕ → Bool} {row w : ℕ → Float} where
  pub known-none : {x : Float} → x ≡ 0·0 → KnownSum known row w 0 x true
  unfolding sum_with all
  known-none e = record { sums = e; tests = refl }

  module _ {l : ℕ} {x : Float} {ok : Bool} (h : KnownSum known row w l x ok) where
    pub known_adds : {y : Float} {now : Bool} → known l ≡ true → y ≡ row l ⊗ w l → now ≡ mul_in_range (row l) (w l) → KnownSum known row w (l + 1) (x ⊕ y) (ok && now)
    unfolding sum_with all
    known_adds k e t = rw (add-one l) (record { sums = rw (k, h.sums, e); tests = rw (zero-add l, k, h.tests, t) })

    pub known_skips : known l ≡ false → KnownSum known row w (l + 1) x ok
    unfolding sum_with all
    known_skips k = rw (add-one l) (record { sums = rw k h.sums; tests = rw (zero-add l, k, and-true) h.tests })

-- ---- row i with its place in column c
module _ (n c : ℕ) (known : ℕ → Bool) (w : ℕ → Float) (i : ℕ) (f : ℕ → ℕ → Float) where
  pub place-filled : {x : Float} {ok ends : Bool} {xs : List Float} → known i ≡ true → KnownSum known (f i) w n x ok → Holds xs (put i c x f) → ends ≡ finite x
      → PlaceFilled n known c w i (ok && ends) f xs
  unfolding column_row place_in_range put
  place-filled k s h e =
      record { range = rw (k, e, s.sums, s.tests); holds = record { long = h.long; is = h.is ∙ rw (k, s.sums) } }

  pub place-left : {xs : List Float} → known i ≡ false → IsTable xs → f ≡ table xs → PlaceFilled n known c w i true f xs
  unfolding column_row
  place-left k l e = record { range = rw k; holds = record { long = l; is = sym e ∙ rw k (sym (replace-own i f)) } }

-- ---- stage c: its factors, its column, its row
module _ (n c : ℕ) (known : ℕ → Bool) (t : ℕ → Float) (f : ℕ → ℕ → Float) (a : Float) where
  pub joined-whole : {p q : Float} {divisions column first : Bool} {v : ℕ → Float} {w xs ys zs : List Float} → p ≡ a → v ≡ (λ _. 0·0)
      → Factors n known t p v divisions w
      → ColumnFilled n known c (vector w) column f xs
      → Holds ys (span c 0 n (λ _. 0·0) (table xs))
      → q ≡ 1·0 ⊘ p
      → Holds zs (put c c q (table ys))
      → first ≡ div_in_range 1·0 p
      → JoinDone n known c t a (first && divisions && column) f zs
  unfolding joined_table join_test unit_row span
  joined-whole {p} {q} {v = v} {w} {xs} e z d x y o u g =
      let s : vector w ≡ factors_of n known t a (λ _. 0·0) = d.holds.is ∙ rw (e, z) in
      record {
        range = rw (g, d.range, x.range, s, e);
        holds = record { long = u.long; is = u.is ∙ rw (y.is, o, put_replaced c c (1·0 ⊘ p) (between 0 n (λ _. 0·0) (table xs c)) (table xs), x.holds.is, s, e) };
      }

-- ---- the stage that is due, and the stages one after another
module _ (n : ℕ) (t : ℕ → ℕ → Float) (a : ℕ → Float) (kept : ℕ → Bool) where
  pub due_passes : (q c : ℕ) {xs : List Float} → IsTable xs → c ≡ n - suc q → kept c ≡ true → StageJoins n t a kept q (table xs) true xs
  unfolding due_test due_joined
  due_passes q c l e k = let h = rw e at k in record { range = rw h; holds = record { long = l; is = rw h } }

  pub due_joins : (q c : ℕ) (f : ℕ → ℕ → Float) {ok : Bool} {xs : List Float} → c ≡ n - suc q → kept c ≡ false
      → JoinDone n (knows c kept) c (λ l. t l c) (a c) ok f xs
      → StageJoins n t a kept q f ok xs
  unfolding due_test due_joined
  due_joins q c f e k g = let h = rw e at k in let w = rw e at g in record { range = w.range ∙ rw h; holds = record { long = w.holds.long; is = w.holds.is ∙ rw h } }

  pub joins_begin : {xs : List Float} → IsTable xs → StagesJoin n t a kept (table xs) 0 true xs
  unfolding stages_joined stages_test all
  joins_begin l = record { range = refl; holds = record { long = l; is = refl } }

  pub joins_turn : {q : ℕ} {f : ℕ → ℕ → Float} {ok now : Bool} {xs ys : List Float} → StagesJoin n t a kept f q ok xs → StageJoins n t a kept q (table xs) now ys → StagesJoin n t a kept f (q + 1) (ok && now) ys
  unfolding stages_joined stages_test all
  joins_turn {q} g s =
      rw (add-one q) (record { range = rw (zero-add q, s.range, g.range, g.holds.is); holds = record { long = s.holds.long; is = s.holds.is ∙ rw g.holds.is } })
