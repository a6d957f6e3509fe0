-- The kept system in the code is document 01's, and so are its tests.
use mathlib.Core.Path.{◌≡◌, refl, sym, ap, ap₂, ◌∙◌}
use Prim.Native.Nat.{ℕ, suc, ◌-◌, ◌<◌, zero-le}
use native.Mathlib.Omega.{arith}
use mathlib.Core.Bool.{Bool, true, not, ◌&&◌, ◌||◌}
use mathlib.Core.List.{List}
use lib.Dec.{T, eqb, ltb, ltb→lt}
use lib.ListN.{get_or}
use lib.Ieee.{Float}
use lib.Ieee.Fits.{and_i, and_l, and_r}
use borrow.Author.Tests.{lt-ltb, eq-eqb, ne_eqb}
use Rattle.exact.proofs.Cases.{by_equal}
use Rattle.exact.proofs.Bools.{holds, same_truth, or_assoc, if_in, if_out}
use Rattle.definitions.specs.Numbers.{◌⊗◌, ◌⊘◌, 0·0, finite, mul_in_range, div_in_range, sum, sum_in_range, all}
use Rattle.definitions.specs.Compact.{stages_with, rank}
use Rattle.definitions.specs.Margins.{scaled_in_range}
use Rattle.rounding.proofs.RoundedSums.{total_in_range, total-finite}
use Rattle.steps.proofs.All.{each, every, all_same, each_below, every_below, all-below, all_both}
use Rattle.steps.proofs.FloatSums.{sum_same}
use Rattle.steps.proofs.CompactOrder.{rank_below, listed}
use Rattle.steps.proofs.MarginsSteps.{kept-size, kept_exit}
use Rattle.tables.specs.RowMajor.{table}
use Rattle.tables.specs.Operators.{between}
use Rattle.tables.specs.Vectors.{vector}
use Rattle.tables.proofs.Operators.{replace_same, replace_other, between_in}
use Rattle.compact.specs.Listing.{marked, stage_at, Listing}
use Rattle.compact.specs.Compact.{Packed}
use Rattle.compact.proofs.Listings.{listing_at, listing_stage, listing_same, all_listed}
use Rattle.ratios.specs.Ratios.{ratio, diagonal_of, is_kept}
use Rattle.shares.specs.Shares.{Shares}
use Rattle.kept.specs.Scaled.{in_order, times, sizes_in_range, rate, rate_in_range, scaled_row, scaled_row_in_range, RowsScaled, KeptList, KeptSystem}

zero-finite : T (finite 0·0)
unfolding finite
zero-finite = tt

module _ {n : ℕ} {t : ℕ → ℕ → Float} {d : ℕ → Float} {a k : List Float} {mask : List Bool} {r : ℕ} {stages : List ℕ} (list : KeptList n t d a k mask r stages) where
  kept-list : Listing (is_kept n t d) n r stages
  kept-list = listing_same list.ratios.kept_is.is list.listing

  k-at : (i : ℕ) → vector k i ≡ ratio n t d i
  k-at i = ap (λ v. v i) list.ratios.k_is.is

  mask_kept : (i : ℕ) → i < n → is_kept n t d i ≡ true → marked mask i ≡ true
  mask_kept i l e = list.ratios.kept_is.is i l ∙ e

  -- ---- the tests of stage i, as document 01 has them
  D : ℕ → Bool
  D j = div_in_range (d j) (diagonal_of n t d j)

  S : ℕ → Bool
  S i = all (λ j. not (is_kept n t d j) || eqb i j || mul_in_range (t i j) (ratio n t d j)) 0 n

  M : ℕ → Bool
  M i = all (λ j. mul_in_range (t i j) (d j ⊘ diagonal_of n t d j)) (suc i) (n - suc i)

  A : ℕ → Bool
  A i = sum_in_range 0·0 (λ j. t i j ⊗ (d j ⊘ diagonal_of n t d j)) (suc i) (n - suc i)

  scaled_is : (i : ℕ) → scaled_in_range n t d (ratio n t d) i ≡ (S i && (all D (suc i) (n - suc i) && M i) && A i)
  unfolding scaled_in_range D S M A
  scaled_is i = ap (λ b. S i && b && A i) (sym (all_both D (λ j. mul_in_range (t i j) (d j ⊘ diagonal_of n t d j)) (suc i) (n - suc i)))

  module _ {divisions : Bool} {w : List Float} (shares : Shares (marked mask) d (vector a) n divisions w) where
    share_is : (j : ℕ) → j < n → vector w j ≡ d j ⊘ diagonal_of n t d j
    share_is j l = shares.are j l ∙ ap (λ x. d j ⊘ x) (list.ratios.a_is.is j l)

    -- ---- the divisions: every stage above a kept one
    share_test : ℕ → Bool
    share_test j = not (ltb 0 (rank (marked mask) j)) || div_in_range (d j) (vector a j)

    share_in : T divisions → (i j : ℕ) → is_kept n t d i ≡ true → i < j → j < n → T (D j)
    unfolding share_test D
    share_in h i j e l m =
        let g = rank_below (marked mask) j i l (mask_kept i (omega arith) e) in
        rw (← list.ratios.a_is.is j m) (if_out (ltb 0 (rank (marked mask) j)) (div_in_range (d j) (vector a j)) (each_below n share_test (rw shares.range at h) j m) (lt-ltb 0 (rank (marked mask) j) (omega arith)))

    share_out : ((i j : ℕ) → is_kept n t d i ≡ true → i < j → j < n → T (D j)) → T divisions
    unfolding share_test D
    share_out h =
        rw shares.range (every_below n share_test (λ j l. if_in (ltb 0 (rank (marked mask) j)) (div_in_range (d j) (vector a j)) (λ e.
        let g = listed (marked mask) j 0 (ltb→lt 0 (rank (marked mask) j) (holds e)) in
        rw (list.ratios.a_is.is j l) (h (get_or (stages_with (marked mask) j) 0 0) j (sym (list.ratios.kept_is.is (get_or (stages_with (marked mask) j) 0 0) (let b = g.below in omega arith)) ∙ g.passes) g.below l))))

    -- ---- a row, from the packed sizes
    module _ {s₀ : List Float} (packed : Packed r (stage_at stages) t s₀) where
      sizes_test : (p : ℕ) → p < r → sizes_in_range r (in_order stages (vector k)) p (table s₀ p) ≡ S (stage_at stages p)
      unfolding sizes_in_range S
      sizes_test p l =
          let i = stage_at stages p in
          all-below
          (λ q. eqb q p || mul_in_range (table s₀ p q) (vector k (stage_at stages q)))
          (λ q. eqb i (stage_at stages q) || mul_in_range (t i (stage_at stages q)) (ratio n t d (stage_at stages q)))
          (λ q m. ap₂ ◌||◌ (same_place p q l m) (ap₂ mul_in_range (packed.at p q l m) (k-at (stage_at stages q))))
          ∙ all_listed kept-list (λ j. eqb i j || mul_in_range (t i j) (ratio n t d j))
          ∙ all-below
          (λ j. not (is_kept n t d j) || (eqb i j || mul_in_range (t i j) (ratio n t d j)))
          (λ j. not (is_kept n t d j) || eqb i j || mul_in_range (t i j) (ratio n t d j))
          (λ j m. or_assoc (not (is_kept n t d j)) (eqb i j) (mul_in_range (t i j) (ratio n t d j)))
        where
          same_place : (p q : ℕ) → p < r → q < r → eqb q p ≡ eqb (stage_at stages p) (stage_at stages q)
          same_place p q l m =
              by_equal q p
              (λ e. eq-eqb q p e ∙ sym (eq-eqb (stage_at stages p) (stage_at stages q) (ap (stage_at stages) (sym e))))
              (λ e. ne_eqb q p e ∙ sym (ne_eqb (stage_at stages p) (stage_at stages q) (λ o. e (sym (listing_stage kept-list q m).place ∙ ap (rank (is_kept n t d)) (sym o) ∙ (listing_stage kept-list p l).place))))

      rate_is : (i : ℕ) → i < n → rate n r stages t (vector k) (vector w) i ≡ sum 0·0 (λ j. t i j ⊗ (d j ⊘ diagonal_of n t d j)) (suc i) (n - suc i)
      unfolding rate
      rate_is i l = sum_same 0·0 0·0 (λ j. t i j ⊗ vector w j) (λ j. t i j ⊗ (d j ⊘ diagonal_of n t d j)) (suc i) (n - suc i) refl (λ j m o. ap (λ x. t i j ⊗ x) (share_is j (omega arith)))

      rate_test : (i : ℕ) → i < n → rate_in_range n r stages t (vector k) (vector w) i ≡ (M i && A i)
      unfolding rate_in_range M A
      rate_test i l =
          ap₂ ◌&&◌
          (all_same (λ j. mul_in_range (t i j) (vector w j)) (λ j. mul_in_range (t i j) (d j ⊘ diagonal_of n t d j)) (suc i) (n - suc i) (λ j m o. ap (mul_in_range (t i j)) (share_is j (omega arith))))
          (ap finite (rate_is i l)
          ∙ same_truth (finite total) (A i) (total_in_range 0·0 terms (suc i) (n - suc i)) (total-finite 0·0 terms (suc i) zero-finite (n - suc i)))
        where
          terms : ℕ → Float
          terms j = t i j ⊗ (d j ⊘ diagonal_of n t d j)

          total : Float
          total = sum 0·0 terms (suc i) (n - suc i)

      rows_test : all (λ p. scaled_row_in_range n r stages t (vector k) (vector w) p (table s₀ p)) 0 r ≡ all (λ i. not (is_kept n t d i) || (S i && (M i && A i))) 0 n
      unfolding scaled_row_in_range
      rows_test =
          all-below
          (λ p. scaled_row_in_range n r stages t (vector k) (vector w) p (table s₀ p))
          (λ p. S (stage_at stages p) && (M (stage_at stages p) && A (stage_at stages p)))
          (λ p l. ap₂ ◌&&◌ (sizes_test p l) (rate_test (stage_at stages p) (listing_stage kept-list p l).below))
          ∙ all_listed kept-list (λ i. S i && (M i && A i))

      -- The divisions are asked once, not by every kept stage.
      whole_test : (divisions && all (λ i. not (is_kept n t d i) || (S i && (M i && A i))) 0 n) ≡ all (λ i. not (is_kept n t d i) || scaled_in_range n t d (ratio n t d) i) 0 n
      whole_test =
          same_truth (divisions && all part 0 n) (all whole 0 n)
          (λ h. every_below n whole (λ i l. if_in (is_kept n t d i) (scaled_in_range n t d (ratio n t d) i) (λ e.
          let g = if_out (is_kept n t d i) (S i && (M i && A i)) (each_below n part (and_r divisions (all part 0 n) h) i l) e in
          let m = and_r (S i) (M i && A i) g in
          rw (scaled_is i) (and_i (S i && (all D (suc i) (n - suc i) && M i)) (A i)
          (and_i (S i) (all D (suc i) (n - suc i) && M i) (and_l (S i) (M i && A i) g)
          (and_i (all D (suc i) (n - suc i)) (M i) (every D (suc i) (n - suc i) (λ j a b. share_in (and_l divisions (all part 0 n) h) i j e a (omega arith))) (and_l (M i) (A i) m)))
          (and_r (M i) (A i) m)))))
          (λ h. and_i divisions (all part 0 n)
          (share_out (λ i j e l m. each D (suc i) (n - suc i) j (and_l (all D (suc i) (n - suc i)) (M i) (and_r (S i) (all D (suc i) (n - suc i) && M i) (and_l (S i && (all D (suc i) (n - suc i) && M i)) (A i) (stage-whole h i (omega arith) e)))) l (omega arith)))
          (every_below n part (λ i l. if_in (is_kept n t d i) (S i && (M i && A i)) (λ e.
          let g = stage-whole h i l e in
          let f = and_l (S i && (all D (suc i) (n - suc i) && M i)) (A i) g in
          and_i (S i) (M i && A i) (and_l (S i) (all D (suc i) (n - suc i) && M i) f) (and_i (M i) (A i) (and_r (all D (suc i) (n - suc i)) (M i) (and_r (S i) (all D (suc i) (n - suc i) && M i) f)) (and_r (S i && (all D (suc i) (n - suc i) && M i)) (A i) g))))))
        where
          part : ℕ → Bool
          part i = not (is_kept n t d i) || (S i && (M i && A i))

          whole : ℕ → Bool
          whole i = not (is_kept n t d i) || scaled_in_range n t d (ratio n t d) i

          stage-whole : T (all whole 0 n) → (i : ℕ) → i < n → is_kept n t d i ≡ true → T (S i && (all D (suc i) (n - suc i) && M i) && A i)
          stage-whole h i l e = rw (scaled_is i) at (if_out (is_kept n t d i) (scaled_in_range n t d (ratio n t d) i) (each_below n whole h i l) e)

      -- ---- the whole system
      module _ {rows : Bool} {s : List Float} (scaled : RowsScaled n r stages t (vector k) (vector w) rows (table s₀) s) where
        at_place : (p q : ℕ) → p < r → table s p q ≡ scaled_row n r stages t (vector k) (vector w) p (table s₀ p) q
        at_place p q l =
            ap (λ f. f p q) scaled.holds.is
            ∙ ap (λ row. row q) (between_in 0 r (λ p. scaled_row n r stages t (vector k) (vector w) p (table s₀ p)) (table s₀) p zero-le l)

        size_is : (p q : ℕ) → p < r → q < r → (p ≡ q → ⊥) → table s p q ≡ t (stage_at stages p) (stage_at stages q) ⊗ ratio n t d (stage_at stages q)
        unfolding scaled_row times
        size_is p q l m o =
            at_place p q l
            ∙ replace_other p (rate n r stages t (vector k) (vector w) (stage_at stages p)) (between 0 r (times (in_order stages (vector k)) (table s₀ p)) (table s₀ p)) q (λ e. o (sym e))
            ∙ between_in 0 r (times (in_order stages (vector k)) (table s₀ p)) (table s₀ p) q zero-le m
            ∙ ap₂ ◌⊗◌ (packed.at p q l m) (k-at (stage_at stages q))

        exit_is : (p : ℕ) → p < r → table s p p ≡ sum 0·0 (λ j. t (stage_at stages p) j ⊗ (d j ⊘ diagonal_of n t d j)) (suc (stage_at stages p)) (n - suc (stage_at stages p))
        unfolding scaled_row
        exit_is p l =
            at_place p p l
            ∙ replace_same p (rate n r stages t (vector k) (vector w) (stage_at stages p)) (between 0 r (times (in_order stages (vector k)) (table s₀ p)) (table s₀ p))
            ∙ rate_is (stage_at stages p) (listing_stage kept-list p l).below

        pub system_is : KeptSystem n t d r (divisions && rows) s
        system_is =
            record {
              long = scaled.holds.long;
              range = ap (λ b. divisions && b) (scaled.range ∙ rows_test) ∙ whole_test;
              sizes = λ p q l m o.
                  size_is p q l m o
                  ∙ ap₂ (λ i j. t i j ⊗ ratio n t d j) (listing_at kept-list p l) (listing_at kept-list q m)
                  ∙ sym (kept-size n t d (ratio n t d) p q (rw kept-list.counted at l) (rw kept-list.counted at m));
              exits = λ p l.
                  exit_is p l
                  ∙ ap (λ i. sum 0·0 (λ j. t i j ⊗ (d j ⊘ diagonal_of n t d j)) (suc i) (n - suc i)) (listing_at kept-list p l)
                  ∙ sym (kept_exit n t d (ratio n t d) p (rw kept-list.counted at l));
            }
