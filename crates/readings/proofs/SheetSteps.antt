-- From a loaded sheet through the steps to its table.
use mathlib.Core.Path.{◌≡◌, refl, sym, ap, ◌∙◌}
use Prim.Native.Nat.{ℕ, ◌*◌, ◌<◌}
use mathlib.Core.Bool.{Bool, true, false, ◌&&◌}
use mathlib.Core.List.{List}
use lib.ListN.{drop}
use lib.Ieee.{Float}
use lib.Ieee.Bits.{is_true}
use borrow.Author.Tests.{ne_eqb}
use Rattle.exact.proofs.Bools.{holds, contrary, and_first, and_second}
use Rattle.exact.proofs.Cases.{by_bool}
use Rattle.definitions.specs.Numbers.{0·0, all}
use Rattle.definitions.specs.LeavingRates.{none, downward, in_range}
use Rattle.definitions.specs.Sheet.{size, diagonal, system, takes_part}
use Rattle.definitions.specs.Table.{live_system, entry, every_step_in_range}
use Rattle.steps.proofs.All.{every_below}
use Rattle.steps.proofs.LiveStages.{other_part, steps_in_range, entry-idle, every_entry, every_in_range}
use Rattle.steps.proofs.Same.{same_quotient, same_in_range}
use Rattle.tables.specs.RowMajor.{IsTable, table, Holds}
use Rattle.tables.specs.Operators.{between}
use Rattle.tables.specs.Vectors.{vector, VectorHolds}
use Rattle.shape.specs.Square.{WholeSheet}
use Rattle.passes.specs.Weights.{weights_in}
use Rattle.passes.specs.Multipliers.{system_in}
use Rattle.elimination.specs.Quotients.{QuotientTable}
use Rattle.margins.specs.MarginsTable.{MarginsTable}
use Rattle.loading.specs.LoadedTable.{with_sizes, with_rates}
use Rattle.loading.proofs.LoadedSheet.{sizes_are, margins_alone, loaded_system, tail-weights}
use Rattle.compact.specs.Listing.{stage_at}
use Rattle.compact.specs.Compact.{Unpacked}
use Rattle.compact.proofs.Listings.{place_of, listing_stage}
use Rattle.live.specs.LivePacked.{LivePacked}
use Rattle.live.proofs.LiveSteps.{live_same, live-counted, live-quotient}
use Rattle.readings.specs.Stepped.{Stepped}

module _ (n : ℕ) (sheet : List Float) {f : ℕ → ℕ → Float} (zeros : f ≡ (λ _ _. 0·0)) {sizes : List Float} (loaded : Holds sizes (with_sizes n sheet f)) where
  -- Reading 2.
  pub second_stepped : {v : ℕ → Float} {d xs : List Float} {ok : Bool} → v ≡ (λ _. 0·0) → VectorHolds d (between 0 n (diagonal n sheet) v) → MarginsTable n (table sizes) (vector d) ok xs → Stepped 2 n sheet ok xs
  unfolding entry every_step_in_range
  second_stepped {v} {d} z h s =
      let margins : vector d ≡ diagonal n sheet = h.is ∙ rw z (margins_alone n sheet) in
      let m = rw (sizes_are n sheet zeros loaded, margins) at s in
      record { range = m.range; entries = m.entries; long = m.long }

-- The readings whose steps are those for leaving rates, where every stage takes part.
pub every_stepped : {reading n : ℕ} {sheet xs : List Float} {ok : Bool} → WholeSheet reading n sheet → (reading ≡ 2 → ⊥) → all (takes_part reading n sheet) 0 n ≡ true
    → QuotientTable (weights_in (drop (n * n) sheet)) n (with_rates n sheet (size n sheet)) ok xs → Stepped reading n sheet ok xs
every_stepped {reading} {n} {sheet} whole two e q =
    let held = system_in (weights_in (drop (n * n) sheet)) (with_rates n sheet (size n sheet)) in
    let same = loaded_system n sheet reading (weights_in (drop (n * n) sheet)) (tail-weights whole) in
    let other = ne_eqb reading 2 two in
    record {
      range = q.range ∙ same_in_range n held (system reading n sheet) same ∙ sym (every_in_range reading n sheet e other);
      entries = λ u i j a b. q.quotients u i j a b ∙ same_quotient n held (system reading n sheet) same i j a ∙ sym (every_entry reading n sheet e other i j a b);
      long = q.long;
    }

-- Of the readings but 1 every stage does.
pub every_part : (reading n : ℕ) (sheet : List Float) → (reading ≡ 1 → ⊥) → all (takes_part reading n sheet) 0 n ≡ true
every_part reading n sheet o = is_true (all (takes_part reading n sheet) 0 n) (every_below n (takes_part reading n sheet) (λ i l. holds (other_part n sheet reading (ne_eqb reading 1 o) i)))

-- Reading 1 with idle stages: the others as a system of their own.
module _ {n : ℕ} {sheet : List Float} {r : ℕ} {stages : List ℕ} {s : List Float} (packed : LivePacked n sheet r stages s) {ok : Bool} {ys : List Float} (solved : QuotientTable none r (table s) ok ys) where
  abbrev on : ℕ → Bool
  on = takes_part 1 n sheet

  live_range : ok ≡ every_step_in_range 1 n sheet
  live_range =
      solved.range
      ∙ same_in_range r (system_in none (table s)) (live_system 1 n sheet) (live_same packed)
      ∙ ap (λ r. in_range r (downward r (live_system 1 n sheet))) (live-counted packed)
      ∙ sym (steps_in_range 1 n sheet refl)

  pub live_fails : ok ≡ false → {xs : List Float} → IsTable xs → Stepped 1 n sheet false xs
  live_fails e l = record { range = sym e ∙ live_range; entries = λ z. absurd z; long = l }

  -- Each entry under its own stages' numbers, and the zeros that were there.
  module _ (held : ok ≡ true) (x : ℕ → ℕ → Float) (zeros : x ≡ (λ _ _. 0·0)) {xs : List Float} (u : Unpacked (stage_at stages) (table ys) r r x xs) where
    live_at : (i j : ℕ) → i < n → j < n → on i ≡ true → on j ≡ true → table xs i j ≡ entry 1 n sheet i j
    live_at i j l m oi oj =
        let a = place_of packed.listing i l oi in
        let b = place_of packed.listing j m oj in
        (rw (a.stands, b.stands) at (u.at a.place b.place a.within b.within))
        ∙ solved.quotients (holds held) a.place b.place a.within b.within
        ∙ live-quotient packed i j a.within oi oj a.ranked b.ranked

    idle-at : (i j : ℕ) → (on i && on j) ≡ false → table xs i j ≡ entry 1 n sheet i j
    idle-at i j e =
        u.rest i j (λ p a s q b o. contrary (on i && on j) (rw (s, o, (listing_stage packed.listing p a).passes) (listing_stage packed.listing q b).passes) e)
        ∙ ap (λ (f : ℕ → ℕ → Float). f i j) zeros
        ∙ sym (entry-idle 1 n sheet refl i j e)

    pub live_stepped : Stepped 1 n sheet true xs
    live_stepped =
        record {
          range = sym held ∙ live_range;
          entries = λ _ i j l m. by_bool (on i && on j) (λ b. live_at i j l m (and_first (on i) (on j) b) (and_second (on i) (on j) b)) (idle-at i j);
          long = u.long;
        }
