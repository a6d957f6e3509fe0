-- The laws of a list of stages: as it grows, and what stands at its places.
use mathlib.Core.Path.{◌≡◌, refl, sym, ap, ◌∙◌}
use Prim.Native.Nat.{ℕ, suc, ◌+◌, ◌≤◌, ◌<◌}
use native.Mathlib.Numerals.{add-one}
use native.Mathlib.Omega.{arith}
use mathlib.Core.Bool.{Bool, true, false, not, ◌||◌}
use mathlib.Core.List.{List, [], ◌∷◌, ◌++◌}
use Rattle.std.specs.Prelude.{Option, Some, None}
use lib.ListN.{length, get_or, set, length-set}
use lib.Seq.{take-suc-set, get_or-take, get_or-set_same, get_or-set_other}
use Rattle.exact.proofs.Cases.{by_equal}
use Rattle.exact.proofs.Bools.{contrary, same_truth, if_in, if_out}
use Rattle.definitions.specs.Numbers.{all}
use Rattle.definitions.specs.Compact.{stages_with, rank}
use Rattle.steps.proofs.All.{each_below, every_below}
use Rattle.steps.proofs.CompactOrder.{list-take, list_leave, list_alike, rank-none, rank-take, rank_leave, rank-within, rank_below, stage_of_rank, Listed, listed}
use Rattle.compact.specs.Listing.{IsMask, MaskOf, stage_at, Listing, StagesBelow, StagesDiffer, Found}

-- ---- marks, one stage after another
module _ {test : ℕ → Bool} {mask : List Bool} where
  pub mask_begins : IsMask mask → MaskOf test 0 mask
  mask_begins e = record { long = e; is = λ i l. let z : ⊥ = omega arith in absurd z }

  pub mask_turns : {m : ℕ} {b : Bool} → MaskOf test m mask → m < 32 → b ≡ test m → MaskOf test (suc m) (set mask m b)
  mask_turns {m} {b} h l e =
      record {
        long = length-set mask m b ∙ h.long;
        is = λ i g.
            by_equal i m
            (λ q. rw q (get_or-set_same mask m b false (omega (arith, h.long)) ∙ e))
            (λ q. get_or-set_other mask m i b false q ∙ h.is i (omega arith));
      }

-- ---- the list grows
module _ (test : ℕ → Bool) where
  pub listing_none : {stages : List ℕ} → length stages ≡ 32 → Listing test 0 0 stages
  unfolding stages_with
  listing_none e = record { long = e; counted = sym (rank-none test); front = refl }

  module _ {i r : ℕ} {stages : List ℕ} (h : Listing test i r stages) where
    pub listing_room : i < 32 → r < 32
    listing_room l = let w = rank-within test i in omega (arith, h.counted)

    pub listing_take : i < 32 → test i ≡ true → Listing test (suc i) (r + 1) (set stages r i)
    listing_take l e =
        record {
          long = length-set stages r i ∙ h.long;
          counted = add-one r ∙ ap suc h.counted ∙ sym (rank-take test i e);
          front = rw (add-one r) (take-suc-set stages r i (let w = listing_room l in omega (arith, h.long)) ∙ ap (λ l. l ++ (i ∷ [])) h.front ∙ sym (list-take test i e));
        }

    pub listing_leave : test i ≡ false → Listing test (suc i) r stages
    listing_leave e =
        record { long = h.long; counted = h.counted ∙ sym (rank_leave test i e); front = h.front ∙ sym (list_leave test i e) }

-- ---- what stands at its places
module _ {test : ℕ → Bool} {n r : ℕ} {stages : List ℕ} (h : Listing test n r stages) where
  pub listing_at : (q : ℕ) → q < r → stage_at stages q ≡ get_or (stages_with test n) q 0
  listing_at q l = sym (get_or-take r stages q 0 l) ∙ ap (λ l. get_or l q 0) h.front

  pub listing_stage : (q : ℕ) → q < r → Listed test n q (stage_at stages q)
  listing_stage q l = rw (listing_at q l) (listed test n q (rw h.counted at l))

  pub listing_few : r ≤ n
  listing_few = let w = rank-within test n in omega (arith, h.counted)

  pub listing_below : StagesBelow n r stages
  listing_below q l = (listing_stage q l).below

  pub listing_differ : StagesDiffer r stages
  listing_differ p q u v e = sym (listing_stage p u).place ∙ ap (rank test) e ∙ (listing_stage q v).place

  -- The place of a stage that passes.
  pub record Place (i : ℕ) : Type 0 where
    pub place : ℕ
    pub within : place < r
    pub stands : stage_at stages place ≡ i
    pub ranked : rank test i ≡ place

  pub place_of : (i : ℕ) → i < n → test i ≡ true → Place i
  place_of i l t =
      let w : rank test i < r = rw h.counted (rank_below test n i l t) in
      record { place = rank test i; within = w; stands = listing_at (rank test i) w ∙ stage_of_rank test n i l t; ranked = refl }

  -- The place that a search found: the stage's rank where it passes, and none where it does not.
  module _ {i : ℕ} (l : i < n) where
    pub found_passes : (place : Option ℕ) → Found r stages i place → test i ≡ true → place ≡ Some (rank test i)
    found_passes None f t = let w = place_of i l t in absurd (f w.place w.within w.stands)
    found_passes (Some q) f t = ap Some (sym (rw f.1 at (listing_stage q f.0).place))

    pub found_fails : (place : Option ℕ) → Found r stages i place → test i ≡ false → place ≡ None
    found_fails None f t = refl
    found_fails (Some q) f t = absurd (contrary (test i) (rw f.1 at (listing_stage q f.0).passes) t)

  -- A test at every place of the list is the test at every stage that passes.
  pub all_listed : (p : ℕ → Bool) → all (λ q. p (stage_at stages q)) 0 r ≡ all (λ i. not (test i) || p i) 0 n
  all_listed p =
      same_truth (all at_place 0 r) (all at_stage 0 n)
      (λ t. every_below n at_stage (λ i l. if_in (test i) (p i) (λ e. let w = place_of i l e in rw w.stands at (each_below r at_place t w.place w.within))))
      (λ t. every_below r at_place (λ q l. let w = listing_stage q l in if_out (test (stage_at stages q)) (p (stage_at stages q)) (each_below n at_stage t (stage_at stages q) w.below) w.passes))
    where
      at_place : ℕ → Bool
      at_place q = p (stage_at stages q)

      at_stage : ℕ → Bool
      at_stage i = not (test i) || p i

-- By another test that is the same below n.
pub listing_same : {test other : ℕ → Bool} {n r : ℕ} {stages : List ℕ} → ((i : ℕ) → i < n → test i ≡ other i) → Listing test n r stages → Listing other n r stages
unfolding rank
listing_same {test} {other} {n} e h =
    let s = list_alike test other n e in
    record { long = h.long; counted = h.counted ∙ ap length s; front = h.front ∙ s }
