-- Bounds of a row's numbers: how one is made lower for a number, and the loops that do so along the row.
use mathlib.Core.Path.{◌≡◌, refl}
use mathlib.Core.Logic.{inl, inr}
use Prim.Native.Nat.{ℕ, ◌+◌, ◌≤◌, ◌<◌}
use native.Mathlib.Nat.{le_refl, le_trans, le_of_lt, le_of_eq, lt_irrefl, lt_of_lt_of_le}
use native.Mathlib.Omega.{arith}
use mathlib.Core.Bool.{Bool, true, false, not, cond}
use lib.Dec.{T, ltb, ltb→lt, nltb→le, eqb→eq, leb-suc-zero}
use lib.Ieee.{Float, nan, inf, fin, binary64, fits, lt, eq}
use Rattle.definitions.specs.Numbers.{0·0, 1·0, finite, is_zero, units}
use Rattle.rounding.specs.Good.{Good}
use Rattle.rounding.proofs.Value.{by_parts}
use Rattle.rounding.proofs.Laws.{zero_is_good, units-zero, one_is_good, units-one, is_zero_lem}
use Rattle.rounding.proofs.Order.{lt-units}
use Rattle.bounds.specs.Bounds.{Bound, Covers, Covering, Lowered, Least}
use Rattle.exact.proofs.Cases.{by_equal}

pub bound-one : Bound 1·0
bound-one = record { good = one_is_good; small = le_of_eq units-one }

-- A lower bound bounds the same numbers.
pub covers_less : (lo lo' x : Float) → units lo' ≤ units lo → Covers lo x → Covers lo' x
covers_less lo lo' x l h n t = elim (h (lt_of_lt_of_le n l) t) [ inl z ↦ inl z | inr g ↦ inr (g.0, le_trans l g.1) ]

pub covering_less : {lo lo' : Float} {f : ℕ → Float} {from to : ℕ} → Bound lo' → units lo' ≤ units lo → Covering lo f from to → Covering lo' f from to
covering_less {lo} {lo'} {f} b l h = record { bound = b; covers = λ j m n. covers_less lo lo' (f j) l (h.covers j m n) }

-- ---- the smaller of two
pub record Smaller (x y r : Float) : Type 0 where
  pub good : Good r
  pub first : units r ≤ units x
  pub second : units r ≤ units y

pub smaller_is : {x y r : Float} → r ≡ cond (lt x y) x y → Good x → Good y → Smaller x y r
smaller_is {x} {y} e g h = rw (e, lt-units g h) (pick (ltb (units x) (units y)) (ltb→lt (units x) (units y)) (nltb→le (units x) (units y)))
  where
    pick : (t : Bool) → (T t → units x < units y) → (T (not t) → units y ≤ units x) → Smaller x y (cond t x y)
    pick true l m = record { good = g; first = le_refl (units x); second = le_of_lt (l tt) }
    pick false l m = record { good = h; first = m tt; second = le_refl (units y) }

pub smaller_bound : {x y r : Float} → Smaller x y r → Bound x → Bound r
smaller_bound s b = record { good = s.good; small = le_trans s.first b.small }

-- ---- a bound made lower for x: r is the smaller of the bound before and w, which is one where x is zero,
module _ {lo r : Float} (b : Bound lo) where
  lowered_by : {w : Float} (x : Float) → Good w → r ≡ cond (lt lo w) lo w → (units r ≤ units w → Covers r x) → Lowered lo x r
  lowered_by x g e k = let s = smaller_is e b.good g in record { bound = smaller_bound s b; less = s.first; covers = k s.second }

  lowered_zero : (x : Float) → T (is_zero x) → r ≡ cond (lt lo 1·0) lo 1·0 → Lowered lo x r
  lowered_zero x z e = lowered_by x one_is_good e (λ l n t. inl z)

  -- x itself where it is a good number,
  lowered_good : {x : Float} → Good x → r ≡ cond (lt lo x) lo x → Lowered lo x r
  lowered_good {x} g e = lowered_by x g e (λ l n t. inr (g, l))

  -- and zero where it is not positive.
  lowered_other : (x : Float) → r ≡ cond (lt lo 0·0) lo 0·0 → Lowered lo x r
  lowered_other x e = lowered_by x zero_is_good e (λ l n t. absurd (lt_irrefl 0 (lt_of_lt_of_le n (rw units-zero at l))))

-- Every good number is below infinity, and no zero is above one.
below-infinity : {x : Float} → Good x → lt x (inf false) ≡ true
unfolding lt
below-infinity {x} g = by_parts binary64 (λ x. lt x (inf false) ≡ true) (λ m e h. refl) x g

one-not-below : {x : Float} → Good x → T (is_zero x) → lt 1·0 x ≡ false
one-not-below {x} g z = let e : units x ≡ 0 = eqb→eq (units x) 0 (rw (is_zero_lem g) at z) in rw (lt-units one_is_good g, e, leb-suc-zero (units 1·0))

-- z is one where x is zero, and else zero; w is the larger of x and z.
pub lowered_is : {lo z w r : Float} (x : Float) → T (fits binary64 x) → Bound lo → z ≡ cond (is_zero x) 1·0 0·0 → w ≡ cond (lt z x) x z → r ≡ cond (lt lo w) lo w → Lowered lo x r
unfolding lt is_zero eq finite
lowered_is nan f b e d k = lowered_other b nan (rw (d, e) at k)
lowered_is (inf true) f b e d k = lowered_other b (inf true) (rw (d, e) at k)
lowered_is {lo} (inf false) f b e d k =
    rw (k, d, e, below-infinity b.good) (record { bound = b; less = le_refl (units lo); covers = λ n t. absurd t })
lowered_is {lo} {z} {w} {r} (fin true n i) f b e d k = pick (is_zero (fin true n i)) (λ t. t) e
  where
    pick : (t : Bool) → (T t → T (is_zero (fin true n i))) → z ≡ cond t 1·0 0·0 → Lowered lo (fin true n i) r
    pick true h e' = lowered_zero b (fin true n i) (h tt) (rw (d, e') at k)
    pick false h e' = lowered_other b (fin true n i) (rw (d, e') at k)
lowered_is {lo} {z} {w} {r} (fin false n i) f b e d k = pick (is_zero x) (λ t. t) e
  where
    x : Float
    x = fin false n i

    good : Good x
    good = record { plus = tt; held = f }

    above : (t : Bool) → w ≡ cond t x 0·0 → Lowered lo x r
    above true d' = lowered_good b good (rw d' at k)
    above false d' = lowered_other b x (rw d' at k)

    pick : (t : Bool) → (T t → T (is_zero x)) → z ≡ cond t 1·0 0·0 → Lowered lo x r
    pick true h e' = lowered_zero b x (h tt) (rw (d, e', one-not-below good (h tt)) at k)
    pick false h e' = above (lt 0·0 x) (rw e' at d)

-- ---- a loop along the row from `from`: the numbers before j are bounded
-- One number more.
pub covers_more : (lo : Float) (f : ℕ → Float) (from to : ℕ) → ((j : ℕ) → from ≤ j → j < to → Covers lo (f j)) → Covers lo (f to) → (j : ℕ) → from ≤ j → j ≤ to → Covers lo (f j)
covers_more lo f from to h k j l m = by_equal j to (λ e. rw e k) (λ n. h j l (omega arith))

module _ {start lo : Float} {f : ℕ → Float} {from j : ℕ} (h : Least start f from j lo) where
  pub least_turns : {x r : Float} → x ≡ f j → Lowered lo x r → Least start f from (j + 1) r
  least_turns {x} {r} e k =
      record {
        less = le_trans k.less h.less;
        covering = record {
          bound = k.bound;
          covers = λ i l m. covers_more r f from j (covering_less k.bound k.less h.covering).covers (rw e at k.covers) i l (omega arith);
        };
      }
