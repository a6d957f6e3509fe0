-- a_i, k_i and the kept stages of a sheet with sizes t and margins d, in two vectors and a mask (document 01, "Steps for margins").
use Rattle.std.specs.Prelude.{◌≡◌, ℕ, suc, ◌<◌, Bool, List, Float}
use Rattle.definitions.specs.Numbers.{all}
use Rattle.definitions.specs.Margins as Margins
use Rattle.tables.specs.Vectors.{IsVector, vector, VectorHolds}
use Rattle.compact.specs.Listing.{MaskOf}

module _ (n : ℕ) (t : ℕ → ℕ → Float) (d : ℕ → Float) where
  -- k_j, and a_i and the kept stages by the k_j.
  abbrev pub ratio : ℕ → Float
  ratio = Margins.k_before n t d n

  abbrev pub diagonal_of : ℕ → Float
  diagonal_of = Margins.a n t d ratio

  abbrev pub is_kept : ℕ → Bool
  is_kept = Margins.kept n t d ratio

  -- The vector a once the stages before i are done,
  pub record Diagonals (i : ℕ) (xs : List Float) : Type 0 where
    pub long : IsVector xs
    pub is : (j : ℕ) → j < i → vector xs j ≡ diagonal_of j

  -- and with it k and the marks of the kept ones,
  pub record RatiosBefore (i : ℕ) (a k : List Float) (kept : List Bool) : Type 0 where
    pub a_is : Diagonals i a
    pub k_is : VectorHolds k (Margins.k_before n t d i)
    pub kept_is : MaskOf is_kept i kept

  -- and whether stage i, or every stage before i, has its steps in range.
  pub record StageTested (i : ℕ) (ok : Bool) (a k : List Float) (kept : List Bool) : Type 0 where
    pub vectors : RatiosBefore (suc i) a k kept
    pub range : ok ≡ Margins.ratio_in_range n t d ratio i

  pub record RatiosTested (i : ℕ) (ok : Bool) (a k : List Float) (kept : List Bool) : Type 0 where
    pub vectors : RatiosBefore i a k kept
    pub range : ok ≡ all (Margins.ratio_in_range n t d ratio) 0 i
