-- The accuracy rule, demand 3 (document 01, "The sheet and its two readings").
use Rattle.std.specs.Prelude.{ℕ, ◌+◌, ◌^◌, ◌<◌, Bool, ◌&&◌, cond, List, T, ℤ, pos, get_or, Float}
use Rattle.std.proofs.Math.Nat.{one-le-pow}
use Rattle.std.proofs.Common.{lit<}
use Rattle.std.specs.Float.{nan, binary64}
use Rattle.std.specs.Float.Ieee.{fits}
use Rattle.definitions.specs.Numbers.{finite}
use Rattle.definitions.specs.Fractions.{Fraction, ◌≈◌, ◌≼◌, whole, ◌*ᶠ◌, value, total}
use Rattle.definitions.specs.Matrix.{matrix, Stage, every_stage, Inverse}
use Rattle.definitions.specs.Sheet.{takes_part, allowance}
use Rattle.definitions.specs.Table.{entry}
use Rattle.definitions.specs.Questions.{Accepted}

-- (1 + 1/2^53)^E
unfoldable pub growth : ℕ → Fraction
growth E = record { num = pos ((2 ^ 53 + 1) ^ E); den = (2 ^ 53) ^ E; positive = one-le-pow E (2 ^ 53) (lit< tt) }

-- "Neither x nor y is negative, x is at most y·(1 + 1/2^53)^E, and y is at most x·(1 + 1/2^53)^E", for a finite x.
pub record Within (E : ℕ) (x : Float) (y : Fraction) : Type 0 where
  pub number : T (finite x)
  pub x_sign : whole 0 ≼ value x
  pub y_sign : whole 0 ≼ y
  pub upper : value x ≼ y *ᶠ growth E
  pub lower : y ≼ value x *ᶠ growth E

-- "There is such an X, and only one": this X.
pub record OnlyInverse (n : ℕ) (on : ℕ → Bool) (A X : ℕ → ℕ → Fraction) : Type 0 where
  pub inverse : Inverse n on A X
  pub unique : (Y : ℕ → ℕ → Fraction) → Inverse n on A Y → (i j : ℕ) → Stage n on i → Stage n on j → X i j ≈ Y i j

-- The rule's y: X "over the other stages, each under its own number in the sheet", and "zero in an idle row or column" (document
-- 02, U3).
unfoldable pub extended : (ℕ → Bool) → (ℕ → ℕ → Fraction) → ℕ → ℕ → Fraction
extended on X i j = cond (on i && on j) (X i j) (whole 0)

-- "There is such an X, and only one; and for every i and j", with x the entry (i, j) of the table and y that of the rule.
pub record Accurate (n : ℕ) (on : ℕ → Bool) (E : ℕ) (A : ℕ → ℕ → Fraction) (x : ℕ → ℕ → Float) : Type 0 where
  pub X : ℕ → ℕ → Fraction
  pub exact : OnlyInverse n on A X
  pub within : (i j : ℕ) → i < n → j < n → Within E (x i j) (extended on X i j)

-- The same for a vector: for every i the number x of stage i, beside the exact one that is made from the rule's y.
pub record AccurateVector (n : ℕ) (on : ℕ → Bool) (E : ℕ) (A : ℕ → ℕ → Fraction) (made : (ℕ → ℕ → Fraction) → ℕ → Fraction) (x : ℕ → Float) : Type 0 where
  pub X : ℕ → ℕ → Fraction
  pub exact : OnlyInverse n on A X
  pub within : (i : ℕ) → i < n → Within E (x i) (made (extended on X) i)

-- Column j of the table alone (document 02, U2).
abbrev pub AccurateColumn : ℕ → (ℕ → Bool) → ℕ → (ℕ → ℕ → Fraction) → ℕ → (ℕ → Float) → Type 0
AccurateColumn n on E A j x = AccurateVector n on E A (λ y i. y i j) x

-- The exact price of a request that enters at stage i, for the rule's y and prices c per unit of time (document 02, U7).
unfoldable pub exact_price : ℕ → (ℕ → ℕ → Fraction) → (ℕ → Float) → ℕ → Fraction
exact_price n y c i = total every_stage (λ j. y i j *ᶠ value (c j)) n

-- The prices p of every stage.
abbrev pub AccuratePrices : ℕ → (ℕ → Bool) → ℕ → (ℕ → ℕ → Fraction) → (ℕ → Float) → (ℕ → Float) → Type 0
AccuratePrices n on E A c p = AccurateVector n on E A (λ y. exact_price n y c) p

-- The numbers of a lent sheet, or the prices, are binary64 numbers.
unfoldable pub Binary64 : List Float → Type 0
Binary64 sheet = (i : ℕ) → T (fits binary64 (get_or sheet i nan))

-- "For every accepted sheet", "unchanged in that unit" (document 02, U5).
unfoldable pub AccuracyRule : Type 0
AccuracyRule =
    (reading n : ℕ) (e : ℤ) (sheet : List Float)
    → Binary64 sheet
    → Accepted reading n e sheet
    → Accurate n (takes_part reading n sheet) (allowance reading n) (matrix reading n sheet) (entry reading n sheet)
