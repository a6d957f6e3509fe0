-- The system of the kept stages (document 01, "Steps for margins": "For kept i ≠ j the new off-diagonal size is t_ij·k_j. …").
use Rattle.std.specs.Prelude.{◌≡◌, ℕ, suc, ◌-◌, ◌<◌, Bool, not, ◌&&◌, ◌||◌, List, eqb, Float}
use Rattle.definitions.specs.Numbers.{◌⊗◌, 0·0, finite, mul_in_range, sum, all}
use Rattle.definitions.specs.Margins as Margins
use Rattle.tables.specs.RowMajor.{IsTable, table, Holds}
use Rattle.tables.specs.Operators.{replace, between, span}
use Rattle.compact.specs.Listing.{marked, stage_at, Listing}
use Rattle.ratios.specs.Ratios.{ratio, is_kept, RatiosBefore}

-- A vector in the order of a list of stages.
abbrev pub in_order : List ℕ → (ℕ → Float) → ℕ → Float
in_order stages v q = v (stage_at stages q)

-- A row times a vector, place by place; as row p, which has no step at p.
unfoldable pub times : (ℕ → Float) → (ℕ → Float) → ℕ → Float
times k row q = row q ⊗ k q

unfoldable pub sizes_in_range : ℕ → (ℕ → Float) → ℕ → (ℕ → Float) → Bool
sizes_in_range r k p row = all (λ q. eqb q p || mul_in_range (row q) (k q)) 0 r

pub record SizesScaled (r : ℕ) (k : ℕ → Float) (p : ℕ) (ok : Bool) (f : ℕ → ℕ → Float) (xs : List Float) : Type 0 where
  pub range : ok ≡ sizes_in_range r k p (f p)
  pub holds : Holds xs (span p 0 r (times k (f p)) f)

-- By the shares w of n stages with sizes t:
module _ (n r : ℕ) (stages : List ℕ) (t : ℕ → ℕ → Float) (k w : ℕ → Float) where
  -- the new leaving rate of stage i, in range where its products are and it is finite;
  unfoldable pub rate : ℕ → Float
  rate i = sum 0·0 (λ j. t i j ⊗ w j) (suc i) (n - suc i)

  unfoldable pub rate_in_range : ℕ → Bool
  rate_in_range i = all (λ j. mul_in_range (t i j) (w j)) (suc i) (n - suc i) && finite (rate i)

  -- row p of the packed sizes f, scaled, with the new leaving rate;
  unfoldable pub scaled_row : ℕ → (ℕ → Float) → ℕ → Float
  scaled_row p row = replace p (rate (stage_at stages p)) (between 0 r (times (in_order stages k) row) row)

  unfoldable pub scaled_row_in_range : ℕ → (ℕ → Float) → Bool
  scaled_row_in_range p row = sizes_in_range r (in_order stages k) p row && rate_in_range (stage_at stages p)

  pub record RowScaled (p : ℕ) (ok : Bool) (f : ℕ → ℕ → Float) (xs : List Float) : Type 0 where
    pub range : ok ≡ scaled_row_in_range p (f p)
    pub holds : Holds xs (replace p (scaled_row p (f p)) f)

  -- all r rows.
  pub record RowsScaled (ok : Bool) (f : ℕ → ℕ → Float) (xs : List Float) : Type 0 where
    pub range : ok ≡ all (λ p. scaled_row_in_range p (f p)) 0 r
    pub holds : Holds xs (between 0 r (λ p. scaled_row p (f p)) f)

-- What is known of the stages by then: the ratios, and the list of the kept ones.
pub record KeptList (n : ℕ) (t : ℕ → ℕ → Float) (d : ℕ → Float) (a k : List Float) (kept : List Bool) (r : ℕ) (stages : List ℕ) : Type 0 where
  pub ratios : RatiosBefore n t d n a k kept
  pub listing : Listing (marked kept) n r stages

-- The r × r places of a table hold the kept system of sizes t and margins d; whether its steps are in range.
pub record KeptSystem (n : ℕ) (t : ℕ → ℕ → Float) (d : ℕ → Float) (r : ℕ) (ok : Bool) (xs : List Float) : Type 0 where
  pub long : IsTable xs
  pub range : ok ≡ all (λ i. not (is_kept n t d i) || Margins.scaled_in_range n t d (ratio n t d) i) 0 n
  pub sizes : (p q : ℕ) → p < r → q < r → (p ≡ q → ⊥) → table xs p q ≡ (Margins.kept_system n t d (ratio n t d)).t p q
  pub exits : (p : ℕ) → p < r → table xs p p ≡ (Margins.kept_system n t d (ratio n t d)).s p
