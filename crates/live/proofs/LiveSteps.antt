-- The stages that are not idle, as they are packed, and what the steps on them say of the sheet.
use mathlib.Core.Path.{◌≡◌, refl, sym, ap, ap₂, ◌∙◌}
use Prim.Native.Nat.{ℕ, ◌<◌, zero-le}
use mathlib.Core.Bool.{Bool, true}
use mathlib.Core.List.{List}
use lib.Ieee.{Float}
use Rattle.definitions.specs.Compact.{rank}
use Rattle.definitions.specs.Numbers.{0·0}
use Rattle.definitions.specs.Sheet.{size, diagonal, weights, system, takes_part}
use Rattle.definitions.specs.LeavingRates.{none, downward, quotient}
use Rattle.definitions.specs.Table.{live_count, live_system, live_begun, entry}
use Rattle.steps.proofs.LiveStages.{live_count_lem, live-size, live_exit, no_weights, entry-live}
use Rattle.steps.proofs.Same.{Same, same_quotient}
use Rattle.tables.specs.RowMajor.{table, Holds}
use Rattle.passes.specs.Multipliers.{system_in}
use Rattle.compact.specs.Listing.{marked, MaskOf, stage_at, Listing}
use Rattle.compact.specs.Compact.{Packed}
use Rattle.compact.proofs.Listings.{listing_at, listing_stage, listing_same}
use Rattle.loading.specs.LoadedTable.{with_sizes, with_rates}
use Rattle.loading.proofs.LoadedSheet.{rates_are, loaded_system}
use Rattle.live.specs.LivePacked.{LivePacked}

module _ (n : ℕ) (sheet : List Float) {mask : List Bool} (live : MaskOf (takes_part 1 n sheet) n mask) {r : ℕ} {stages : List ℕ} (listed : Listing (marked mask) n r stages) where
  live_listing : Listing (takes_part 1 n sheet) n r stages
  live_listing = listing_same live.is listed

  -- From the loaded sheet to its packed stages.
  pub live-packed : {f : ℕ → ℕ → Float} {sizes t xs : List Float} → f ≡ (λ _ _. 0·0)
      → Holds sizes (with_sizes n sheet f) → Holds t (with_rates n sheet (table sizes)) → Packed r (stage_at stages) (table t) xs → LivePacked n sheet r stages xs
  unfolding system weights
  live-packed zeros loaded rated packed =
      let held = rw (rates_are n sheet zeros loaded rated) at packed in
      let same = loaded_system n sheet 1 none tt in
      let is = listing_stage live_listing in
      let at = listing_at live_listing in
      let few : (q : ℕ) → q < r → q < rank (takes_part 1 n sheet) n = λ q l. rw (← live_listing.counted) l in
      record {
        listing = live_listing;
        long = packed.long;
        sizes = λ p q l m o.
            held.at p q l m
            ∙ same.sizes (stage_at stages p) (stage_at stages q) zero-le (is p l).below zero-le (is q m).below (λ e. o (sym (is p l).place ∙ ap (rank (takes_part 1 n sheet)) e ∙ (is q m).place))
            ∙ ap₂ (size n sheet) (at p l) (at q m)
            ∙ sym (live-size 1 n sheet p q (few p l) (few q m));
        exits = λ p l.
            held.at p p l l ∙ same.exits (stage_at stages p) zero-le (is p l).below ∙ ap (diagonal n sheet) (at p l) ∙ sym (live_exit 1 n sheet p (few p l));
      }

-- The packed table is the system that goes through the steps.
pub live_same : {n r : ℕ} {sheet xs : List Float} {stages : List ℕ} → LivePacked n sheet r stages xs → Same r 0 (system_in none (table xs)) (live_system 1 n sheet)
live_same {n} {r} {sheet} s = record { sizes = λ p q _ l _ m o. s.sizes p q l m o; exits = λ p _ l. s.exits p l; weights = rw (no_weights 1 n sheet refl) tt }

pub live-counted : {n r : ℕ} {sheet xs : List Float} {stages : List ℕ} → LivePacked n sheet r stages xs → r ≡ live_count 1 n sheet
live-counted {n} {r} {sheet} s = s.listing.counted ∙ sym (live_count_lem 1 n sheet)

-- Its quotients are the sheet's entries, each under its own stages' numbers.
pub live-quotient : {n r : ℕ} {sheet xs : List Float} {stages : List ℕ} (packed : LivePacked n sheet r stages xs) (i j : ℕ) {p q : ℕ} → p < r
    → takes_part 1 n sheet i ≡ true → takes_part 1 n sheet j ≡ true → rank (takes_part 1 n sheet) i ≡ p → rank (takes_part 1 n sheet) j ≡ q
    → quotient r (downward r (system_in none (table xs))) p q ≡ entry 1 n sheet i j
unfolding live_begun
live-quotient {n} {r} {sheet} {xs} packed i j {p} {q} l oi oj ri rj =
    same_quotient r (system_in none (table xs)) (live_system 1 n sheet) (live_same packed) p q l
    ∙ ap (λ r. quotient r (downward r (live_system 1 n sheet)) p q) (live-counted packed)
    ∙ ap₂ (quotient (live_count 1 n sheet) (downward (live_count 1 n sheet) (live_system 1 n sheet))) (sym ri) (sym rj)
    ∙ sym (entry-live 1 n sheet refl i j oi oj)
