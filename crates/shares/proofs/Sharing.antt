-- The shares one after another; above a kept stage they are tested.
use mathlib.Core.Path.{◌≡◌, refl, sym, ap, ◌∙◌}
use Prim.Native.Nat.{ℕ, suc, ◌+◌}
use native.Mathlib.Nat.{zero-add}
use native.Mathlib.Numerals.{add-one}
use native.Mathlib.Omega.{arith}
use mathlib.Core.List.{List}
use lib.Dec.{ltb}
use lib.Ieee.{Float}
use borrow.Author.Tests.{lt-ltb}
use Rattle.exact.proofs.Cases.{by_equal, by_bool}
use mathlib.Core.Bool.{or-true, or-false, Bool, true, false, not, ◌&&◌, ◌||◌}
use Rattle.definitions.specs.Numbers.{◌⊘◌, div_in_range, all}
use Rattle.definitions.specs.Compact.{rank}
use Rattle.steps.proofs.CompactOrder.{rank-none, rank-take, rank_leave}
use Rattle.tables.specs.Operators.{replace}
use Rattle.tables.specs.Vectors.{IsVector, vector, VectorHolds}
use Rattle.tables.proofs.Operators.{replace_same, replace_other}
use Rattle.shares.specs.Shares.{Shares}

-- Whether a stage before j is kept.
module _ (kept : ℕ → Bool) where
  pub above_none : false ≡ ltb 0 (rank kept 0)
  above_none = rw (rank-none kept)

  pub above_turns : (j : ℕ) {above : Bool} → above ≡ ltb 0 (rank kept j) → (above || kept j) ≡ ltb 0 (rank kept (j + 1))
  above_turns j e =
      rw (add-one j, e) (by_bool (kept j)
      (λ k. rw (k, rank-take kept j k, or-true) (sym (lt-ltb 0 (suc (rank kept j)) (omega arith))))
      (λ k. rw (k, rank_leave kept j k, or-false)))

  module _ {d a : ℕ → Float} where
    pub shares_begin : {ws : List Float} → IsVector ws → Shares kept d a 0 true ws
    unfolding all
    shares_begin l = record { long = l; range = refl; are = λ j m. let z : ⊥ = omega arith in absurd z }

    pub shares_turn : {j : ℕ} {ok above now : Bool} {x : Float} {ws vs : List Float} → Shares kept d a j ok ws → above ≡ ltb 0 (rank kept j) → now ≡ div_in_range (d j) (a j) → x ≡ d j ⊘ a j → VectorHolds vs (replace j x (vector ws)) → Shares kept d a (j + 1) (ok && (not above || now)) vs
    unfolding all
    shares_turn {j} {x = x} {ws} h e s q v =
        rw (add-one j) (record {
          long = v.long;
          range = rw (zero-add j, h.range, e, s);
          are = λ i m. ap (λ w. w i) v.is ∙ by_equal i j (λ g. rw g (replace_same j x (vector ws) ∙ q)) (λ g. replace_other j x (vector ws) i g ∙ h.are i (omega arith));
        })
