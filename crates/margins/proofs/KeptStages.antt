-- From what the parts promise to the table: the kept system through the engine and the way back, and the stages that join.
use mathlib.Core.Path.{◌≡◌, sym, ap, ap₂, ◌∙◌}
use Prim.Native.Nat.{ℕ, suc, ◌-◌, ◌<◌, zero-le}
use native.Mathlib.Nat.{sub-zero}
use mathlib.Core.List.{List}
use lib.Dec.{leb}
use lib.Ieee.{Float}
use borrow.Author.Tests.{lt-leb}
use Rattle.exact.proofs.Cases.{by_bool}
use Rattle.exact.proofs.Bools.{and_assoc, holds}
use mathlib.Core.Bool.{and-false, and-true, Bool, true, false, not, ◌&&◌, ◌||◌}
use Rattle.definitions.specs.Numbers.{◌⊗◌, mul_in_range, all}
use Rattle.definitions.specs.LeavingRates.{none, downward, quotient, in_range}
use Rattle.definitions.specs.Compact.{rank}
use Rattle.definitions.specs.Margins.{kept_system, y, known, x_after, ratio_in_range, back_in_range, join_in_range, every_step, margins_in_range}
use Rattle.steps.proofs.All.{all-below}
use Rattle.steps.proofs.Same.{Same, same_quotient, same_in_range}
use Rattle.steps.proofs.MarginsSteps.{kept-weights, y_is, x-start, known_is, entry_is}
use Rattle.tables.specs.RowMajor.{IsTable, table}
use Rattle.tables.specs.Operators.{between}
use Rattle.tables.specs.Rows.{times_in_range}
use Rattle.tables.specs.Vectors.{vector}
use Rattle.tables.proofs.Operators.{between_in}
use Rattle.passes.specs.Multipliers.{system_in}
use Rattle.elimination.specs.Quotients.{QuotientTable}
use Rattle.compact.specs.Listing.{marked, stage_at, Listing}
use Rattle.compact.specs.Compact.{Unpacked}
use Rattle.compact.proofs.Listings.{place_of, listing_stage, listing_same, all_listed}
use Rattle.ratios.specs.Ratios.{ratio, is_kept, RatiosBefore, RatiosTested}
use Rattle.kept.specs.Scaled.{KeptSystem}
use Rattle.joins.specs.Joins.{StagesJoin}
use Rattle.margins.proofs.Joining.{joined-whole-table, joined-tests}
use Rattle.way_back.specs.WayBack.{multiple, WayBack}
use Rattle.margins.specs.MarginsTable.{system_in_range, engine_in_range, way_back_in_range, KeptTable, MarginsTable}

-- ---- the kept stages
module _ {n : ℕ} {t : ℕ → ℕ → Float} {d : ℕ → Float} {a k : List Float} {mask : List Bool} (ratios : RatiosBefore n t d n a k mask)
    {r : ℕ} {stages : List ℕ} (listing : Listing (marked mask) n r stages) where
  kept-list : Listing (is_kept n t d) n r stages
  kept-list = listing_same ratios.kept_is.is listing

  k-at : (i : ℕ) → vector k i ≡ ratio n t d i
  k-at i = ap (λ v. v i) ratios.k_is.is

  -- The engine on the packed system s.
  module _ {scaled : Bool} {s : List Float} (system : KeptSystem n t d r scaled s) {ok : Bool} {ys : List Float} (solved : QuotientTable none r (table s) ok ys) where
    alike : Same r 0 (system_in none (table s)) (kept_system n t d (ratio n t d))
    alike = record { sizes = λ p q _ l _ m o. system.sizes p q l m o; exits = λ p _ l. system.exits p l; weights = rw (kept-weights n t d (ratio n t d)) tt }

    engine_test : ok ≡ engine_in_range n t d
    engine_test =
        solved.range
        ∙ same_in_range r (system_in none (table s)) (kept_system n t d (ratio n t d)) alike
        ∙ ap (λ r. in_range r (downward r (kept_system n t d (ratio n t d)))) kept-list.counted

    pub engine_fails : ok ≡ false → {xs : List Float} → IsTable xs → KeptTable n t d false xs
    engine_fails e l =
        record {
          range = let z : engine_in_range n t d ≡ false = sym engine_test ∙ e in rw (z, and-false);
          right = λ h. absurd h;
          long = l;
        }

    module _ (held : ok ≡ true) where
      y-at : (p q : ℕ) → p < r → q < r → table ys p q ≡ y n t d (ratio n t d) (stage_at stages p) (stage_at stages q)
      y-at p q l m =
          solved.quotients (holds held) p q l m
          ∙ same_quotient r (system_in none (table s)) (kept_system n t d (ratio n t d)) alike p q l
          ∙ ap (λ r. quotient r (downward r (kept_system n t d (ratio n t d))) p q) kept-list.counted
          ∙ ap₂ (quotient (rank (is_kept n t d) n) (downward (rank (is_kept n t d) n) (kept_system n t d (ratio n t d)))) (sym (listing_stage kept-list p l).place) (sym (listing_stage kept-list q m).place)
          ∙ sym (y_is n t d (ratio n t d) (stage_at stages p) (stage_at stages q))

      -- The way back.
      module _ {back : Bool} {zs : List Float} (way : WayBack r stages (vector k) (table ys) back zs) where
        back_test : back ≡ way_back_in_range n t d
        unfolding times_in_range back_in_range
        back_test =
            way.range
            ∙ all-below
            (λ p. all (λ q. mul_in_range (vector k (stage_at stages p)) (table ys p q)) 0 r)
            (λ p. all (λ j. not (is_kept n t d j) || mul_in_range (ratio n t d (stage_at stages p)) (y n t d (ratio n t d) (stage_at stages p) j)) 0 n)
            (λ p l. all-below
            (λ q. mul_in_range (vector k (stage_at stages p)) (table ys p q))
            (λ q. mul_in_range (ratio n t d (stage_at stages p)) (y n t d (ratio n t d) (stage_at stages p) (stage_at stages q)))
            (λ q m. ap₂ mul_in_range (k-at (stage_at stages p)) (y-at p q l m))
            ∙ all_listed kept-list (λ j. mul_in_range (ratio n t d (stage_at stages p)) (y n t d (ratio n t d) (stage_at stages p) j)))
            ∙ all_listed kept-list (λ i. all (λ j. not (is_kept n t d j) || mul_in_range (ratio n t d i) (y n t d (ratio n t d) i j)) 0 n)

        z_at : (p q : ℕ) → p < r → q < r → table zs p q ≡ ratio n t d (stage_at stages p) ⊗ y n t d (ratio n t d) (stage_at stages p) (stage_at stages q)
        unfolding multiple
        z_at p q l m =
            ap (λ f. f p q) way.holds.is
            ∙ ap (λ row. row q) (between_in 0 r (λ p. between 0 r (multiple (vector k (stage_at stages p)) (table ys p)) (table ys p)) (table ys) p zero-le l)
            ∙ between_in 0 r (multiple (vector k (stage_at stages p)) (table ys p)) (table ys p) q zero-le m
            ∙ ap₂ ◌⊗◌ (k-at (stage_at stages p)) (y-at p q l m)

        -- At first the known stages are the kept ones.
        known_kept : (i : ℕ) → i < n → known n t d (ratio n t d) 0 i ≡ true → is_kept n t d i ≡ true
        known_kept i l e =
            by_bool (is_kept n t d i) (λ e. e)
            (λ o. o ∙ sym (lt-leb (n - 0) i (rw (sub-zero n) l)) ∙ sym (ap (λ b. b || leb (n - 0) i) o) ∙ sym (known_is n t d (ratio n t d) 0 i) ∙ e)

        pub kept_table : (x : ℕ → ℕ → Float) {xs : List Float} → Unpacked (stage_at stages) (table zs) r r x xs → KeptTable n t d (scaled && back) xs
        kept_table x {xs} u =
            record {
              range = rw (system.range, back_test) (let z : engine_in_range n t d ≡ true = sym engine_test ∙ held in rw (z, and-true));
              right = λ _. record {
                right = λ i j l m s o.
                    (let p = place_of kept-list i l (known_kept i l s) in
                    let q = place_of kept-list j m (known_kept j m o) in
                    (rw (p.stands, q.stands) at (u.at p.place q.place p.within q.within ∙ z_at p.place q.place p.within q.within)) ∙ sym (x-start n t d (ratio n t d) i j l m));
              };
              long = u.long;
            }

-- ---- the whole sheet
module _ {n : ℕ} {t : ℕ → ℕ → Float} {d : ℕ → Float} {ratios : Bool} {a k : List Float} {mask : List Bool} (found : RatiosTested n t d n ratios a k mask) where
  regroup : (a b c d e : Bool) → (a && (b && c && d) && e) ≡ (a && b && c && d && e)
  regroup a b c d e = ap (λ x. x && e) (and_assoc a (b && c) d ∙ ap (λ x. x && d) (and_assoc a b c))

  joins_in_range : Bool
  joins_in_range = all (λ q. is_kept n t d (n - suc q) || join_in_range n t d (ratio n t d) q (x_after n t d (ratio n t d) q)) 0 n

  every_step_lem : margins_in_range n t d ≡ (all (ratio_in_range n t d (ratio n t d)) 0 n && (system_in_range n t d && engine_in_range n t d && way_back_in_range n t d) && joins_in_range)
  unfolding margins_in_range every_step joins_in_range
  every_step_lem = sym (regroup (all (ratio_in_range n t d (ratio n t d)) 0 n) (system_in_range n t d) (engine_in_range n t d) (way_back_in_range n t d) joins_in_range)

  pub kept_fails : {ok : Bool} {xs : List Float} → KeptTable n t d ok xs → ok ≡ false → MarginsTable n t d false xs
  kept_fails h e =
      record {
        range = every_step_fails (sym h.range ∙ e);
        entries = λ z. absurd z;
        long = h.long;
      }
    where
      every_step_fails : (system_in_range n t d && engine_in_range n t d && way_back_in_range n t d) ≡ false → false ≡ margins_in_range n t d
      every_step_fails z = rw (every_step_lem, z, and-false)

  pub margins_table : {ok joined : Bool} {xs zs : List Float} → KeptTable n t d ok xs → ok ≡ true → StagesJoin n t (vector a) (marked mask) (table xs) n joined zs → MarginsTable n t d (ratios && joined) zs
  unfolding joins_in_range
  margins_table h e j =
      let known = h.right (holds e) in
      let r = found.vectors in
      record {
        range =
            rw (every_step_lem, ← h.range, e, and-true)
            (ap₂ ◌&&◌ found.range (j.range ∙ joined-tests n t d r.a_is r.kept_is known));
        entries = λ _ i l u v.
            ap (λ f. f i l) j.holds.is ∙ joined-whole-table n t d r.a_is r.kept_is known i l u v ∙ sym (ap (λ x. x i l) (entry_is n t d));
        long = j.holds.long;
      }
