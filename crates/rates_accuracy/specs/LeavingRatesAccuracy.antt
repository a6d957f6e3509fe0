-- Accuracy of the steps for leaving rates, with weights or without (document 01, demand 3; document 02, U10): each quotient against the
-- exact solution, column by column.
use Rattle.std.specs.Prelude.{ℕ, zero, ◌+◌, ◌*◌, ◌<◌, cond, ◌≢◌, ◌≡◌, T, eqb, Float}
use Rattle.exact.specs.Chains.{In}
use Rattle.exact.specs.Near.{Near}
use Rattle.exact.specs.Systems.{Equations, Solves, AllOut}
use Rattle.exact.specs.Run.{total, level_count, row_count}
use Rattle.definitions.specs.Numbers.{units}
use Rattle.definitions.specs.LeavingRates.{Weights, none, some, System, downward, shared, column, quotient}
use Rattle.rounding.specs.Good.{Good, one·units}

-- A weight in units of 2^-1074, and what brings an exit to the units of a size times a weight; both are 1 without weights.
abbrev pub weight_units : Weights → ℕ → ℕ
weight_units none j = 1
weight_units (some z) j = units (z j)

abbrev pub exit_units : Weights → ℕ
exit_units none = 1
exit_units (some z) = one·units

-- The numbers of a system in units of 2^-1074, with right sides b, for unknowns that are divided by their weights: each size is times
-- the weight of its column.
abbrev pub in_units : Weights → System → (ℕ → ℕ) → Equations
in_units w a b i = record { size = λ j. units (a.t i j) * weight_units w j; exit = units (a.s i) * exit_units w; right = b i }

-- Column j of the identity: 1.0 at stage j.
unfoldable pub identity_column : ℕ → ℕ → ℕ
identity_column j i = cond (eqb i j) one·units zero

-- The weights of r stages are good and positive.
pub record GoodWeight (z : Float) : Type 0 where
  pub good : Good z
  pub positive : 0 < units z

abbrev pub GoodWeights : ℕ → Weights → Type 0
GoodWeights r none = Unit {0}
GoodWeights r (some z) = (j : ℕ) → j < r → GoodWeight (z j)

-- The m stages from k on have good sizes off the diagonal and good leaving rates; the weights are w.
pub record GoodSystem (w : Weights) (k m : ℕ) (a : System) : Type 0 where
  pub size : (i j : ℕ) → In k m i → In k m j → i ≢ j → Good (a.t i j)
  pub exit : (i : ℕ) → In k m i → Good (a.s i)
  pub weights : a.z ≡ w

-- From each of the m stages from k on a chain of nonzero sizes leads to a nonzero leaving rate.
abbrev pub StagesGetOut : Weights → ℕ → ℕ → System → Type 0
StagesGetOut w k m a = AllOut k m (in_units w a (λ i. zero))

-- The computed number x is good, and within E roundings of the fraction y / c.
pub record Computed (E : ℕ) (x : Float) (y c : ℕ) : Type 0 where
  pub good : Good x
  pub near : Near E (units x * c) (y * one·units)

-- Roundings of a stage that begins with m stages: its pivot has m - 1, then a division, a product and a sum; and of
-- its row on the way up: a division, a product, m - 1 additions and the pivot's again, none where m is 1. With weights a pivot has
-- two more, a product and a division, and the last pivot has the division.
abbrev pub stage_roundings : Weights → ℕ → ℕ
stage_roundings none = level_count 2
stage_roundings (some z) = level_count 4

abbrev pub row_roundings : Weights → ℕ → ℕ
row_roundings none = row_count 0 0
row_roundings (some z) = row_count 1 2

-- If the steps that serve every column and those of column j are in range, each quotient of column j is within E r roundings of
-- its entry in the exact solution z / c, times its weight.
unfoldable pub EngineWithin : (Weights → ℕ → ℕ) → Type 0
EngineWithin E =
    (w : Weights) (r j : ℕ) (start : System) → GoodWeights r w → GoodSystem w zero r start → StagesGetOut w zero r start
    → T (shared r (downward r start)) → T (column r (downward r start) j)
    → (c : ℕ) (z : ℕ → ℕ) → Solves zero r (in_units w start (identity_column j)) c z
    → (i : ℕ) → i < r → Computed (E w r) (quotient r (downward r start) i j) (z i * weight_units w i) c

-- Theorem: the roundings of all stages and rows, and one of the last division.
unfoldable pub EngineCount : Type 0
EngineCount = EngineWithin (λ w r. total (stage_roundings w) (row_roundings w) r + 1)

-- Theorem: that is within 2r³, and within 3r³ with weights.
abbrev pub cubes : Weights → ℕ
cubes none = 2
cubes (some z) = 3

unfoldable pub EngineAccuracy : Type 0
EngineAccuracy = EngineWithin (λ w r. cubes w * (r * r * r))
