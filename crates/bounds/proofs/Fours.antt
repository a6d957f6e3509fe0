-- Four bounds side by side: whatever is at most all four bounds the numbers that they were made lower for.
use mathlib.Core.Path.{◌≡◌}
use Prim.Native.Nat.{ℕ, ◌+◌, ◌≤◌, ◌<◌}
use native.Mathlib.Nat.{le_trans}
use native.Mathlib.Omega.{arith}
use mathlib.Core.Bool.{cond}
use lib.Ieee.{Float, lt}
use Rattle.definitions.specs.Numbers.{units}
use Rattle.bounds.specs.Bounds.{Covers, Least}
use Rattle.bounds.specs.Fours.{FourBound, LoweredFour}
use Rattle.bounds.proofs.Bounds.{smaller_is, smaller_bound, covers_less, covers_more}

pub record UnderFour (lo a b c d : Float) : Type 0 where
  pub first : units lo ≤ units a
  pub second : units lo ≤ units b
  pub third : units lo ≤ units c
  pub fourth : units lo ≤ units d

-- The numbers from `from` up to `to` are done; `start` was each bound at first.
pub record FourLeast (start : Float) (f : ℕ → Float) (from to : ℕ) (a b c d : Float) : Type 0 where
  pub bounds : FourBound a b c d
  pub less : units a ≤ units start
  pub covers : (lo : Float) → UnderFour lo a b c d → (j : ℕ) → from ≤ j → j < to → Covers lo (f j)

module _ {start : Float} {f : ℕ → Float} {from to : ℕ} {a b c d : Float} (h : FourLeast start f from to a b c d) where
  pub four_turns : {a' b' c' d' : Float} {next : ℕ} → next ≡ to + 4 → LoweredFour a b c d f to a' b' c' d' → FourLeast start f from next a' b' c' d'
  four_turns {a'} {b'} {c'} {d'} {next} e k =
      record {
        bounds = record { first = k.first.bound; second = k.second.bound; third = k.third.bound; fourth = k.fourth.bound };
        less = le_trans k.first.less h.less;
        covers = covered;
      }
    where
      before : (lo : Float) → UnderFour lo a' b' c' d' → UnderFour lo a b c d
      before lo u =
          record {
            first = le_trans u.first k.first.less;
            second = le_trans u.second k.second.less;
            third = le_trans u.third k.third.less;
            fourth = le_trans u.fourth k.fourth.less;
          }

      covered : (lo : Float) → UnderFour lo a' b' c' d' → (j : ℕ) → from ≤ j → j < next → Covers lo (f j)
      covered lo u j l m =
          let one = covers_more lo f from to (h.covers lo (before lo u)) (covers_less a' lo (f to) u.first k.first.covers) in
          let two = covers_more lo f from (to + 1) (λ j l m. one j l (omega arith)) (covers_less b' lo (f (to + 1)) u.second k.second.covers) in
          let three = covers_more lo f from (to + 2) (λ j l m. two j l (omega arith)) (covers_less c' lo (f (to + 2)) u.third k.third.covers) in
          covers_more lo f from (to + 3) (λ j l m. three j l (omega arith)) (covers_less d' lo (f (to + 3)) u.fourth k.fourth.covers) j l (omega arith)

  -- The smallest of the four.
  pub four_ends : {ac bd r : Float} {hi : ℕ} → hi ≡ to → ac ≡ cond (lt a c) a c → bd ≡ cond (lt b d) b d → r ≡ cond (lt ac bd) ac bd → Least start f from hi r
  four_ends {ac} {bd} {r} q e e' e'' =
      let v = h.bounds in
      let s = smaller_is e v.first.good v.third.good in
      let t = smaller_is e' v.second.good v.fourth.good in
      let u = smaller_is e'' s.good t.good in
      let under : UnderFour r a b c d =
      record {
        first = le_trans u.first s.first;
        second = le_trans u.second t.first;
        third = le_trans u.first s.second;
        fourth = le_trans u.second t.second;
      } in
      rw q (record { less = le_trans under.first h.less; covering = record { bound = smaller_bound u (smaller_bound s v.first); covers = h.covers r under } })
