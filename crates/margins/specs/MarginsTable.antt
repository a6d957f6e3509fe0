-- The table of a sheet with sizes t and margins d (document 01, "Steps for margins" and question 10).
use Rattle.std.specs.Prelude.{◌≡◌, ℕ, ◌<◌, Bool, true, not, ◌&&◌, ◌||◌, List, T, Float}
use Rattle.definitions.specs.Numbers.{all}
use Rattle.definitions.specs.LeavingRates.{downward, in_range}
use Rattle.definitions.specs.Compact.{rank}
use Rattle.definitions.specs.Margins as Margins
use Rattle.tables.specs.RowMajor.{IsTable, table}
use Rattle.ratios.specs.Ratios.{ratio, is_kept}

-- A table that has document 01's x at the stages that are known once q stages are done.
pub record KnownTable (n : ℕ) (t : ℕ → ℕ → Float) (d : ℕ → Float) (q : ℕ) (f : ℕ → ℕ → Float) : Type 0 where
  pub right : (i j : ℕ) → i < n → j < n → Margins.known n t d (ratio n t d) q i ≡ true → Margins.known n t d (ratio n t d) q j ≡ true → f i j ≡ Margins.x_after n t d (ratio n t d) q i j

module _ (n : ℕ) (t : ℕ → ℕ → Float) (d : ℕ → Float) where
  -- The steps of the kept stages: the new system, the engine, the way back.
  abbrev pub system_in_range : Bool
  system_in_range = all (λ i. not (is_kept n t d i) || Margins.scaled_in_range n t d (ratio n t d) i) 0 n

  abbrev pub engine_in_range : Bool
  engine_in_range =
      let r = rank (is_kept n t d) n in
      in_range r (downward r (Margins.kept_system n t d (ratio n t d)))

  abbrev pub way_back_in_range : Bool
  way_back_in_range =
      let ys = Margins.y n t d (ratio n t d) in
      all (λ i. not (is_kept n t d i) || Margins.back_in_range n t d (ratio n t d) ys i) 0 n

  -- Whether they are in range; where they are, x at the kept stages.
  pub record KeptTable (ok : Bool) (xs : List Float) : Type 0 where
    pub range : ok ≡ (system_in_range && engine_in_range && way_back_in_range)
    pub right : T ok → KnownTable n t d 0 (table xs)
    pub long : IsTable xs

  -- Whether every step is in range; where it is, each of the n × n places.
  pub record MarginsTable (ok : Bool) (xs : List Float) : Type 0 where
    pub range : ok ≡ Margins.margins_in_range n t d
    pub entries : T ok → (i j : ℕ) → i < n → j < n → table xs i j ≡ Margins.entry n t d i j
    pub long : IsTable xs
