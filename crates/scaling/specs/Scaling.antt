-- The steps on numbers that are all times 2^c, with the same weights (document 02, U9 and U10): both runs in range, each number of the
-- answer is divided by 2^c.
use Rattle.std.specs.Prelude.{ℕ, ◌<◌, ◌≢◌, ◌≡◌, T, Float}
use Rattle.exact.specs.Chains.{In}
use Rattle.definitions.specs.LeavingRates.{System, downward, quotient, shared, column}
use Rattle.definitions.specs.Margins.{entry, margins_in_range}
use Rattle.rounding.specs.Scaling.{Scaled}
use Rattle.rates_accuracy.specs.LeavingRatesAccuracy.{GoodWeights}

-- On the m stages from k on, a' has the sizes and leaving rates of a times 2^c, and the weights of a.
pub record ScaledSystem (c k m : ℕ) (a a' : System) : Type 0 where
  pub size : (i j : ℕ) → In k m i → In k m j → i ≢ j → Scaled c (a.t i j) (a'.t i j)
  pub exit : (i : ℕ) → In k m i → Scaled c (a.s i) (a'.s i)
  pub weights : a'.z ≡ a.z

-- Theorem: column j of the quotients of two such systems, where the steps that serve every column and those of column j are in range.
unfoldable pub QuotientsScale : Type 0
QuotientsScale =
    (c r j : ℕ) (start start' : System) → GoodWeights r start.z → ScaledSystem c 0 r start start'
    → T (shared r (downward r start)) → T (column r (downward r start) j)
    → T (shared r (downward r start')) → T (column r (downward r start') j)
    → (i : ℕ) → i < r → Scaled c (quotient r (downward r start') i j) (quotient r (downward r start) i j)

-- n stages with sizes t and margins d, and with t' and d', which are those times 2^c.
pub record ScaledMargins (c n : ℕ) (t t' : ℕ → ℕ → Float) (d d' : ℕ → Float) : Type 0 where
  pub size : (i j : ℕ) → i < n → j < n → i ≢ j → Scaled c (t i j) (t' i j)
  pub margin : (i : ℕ) → i < n → Scaled c (d i) (d' i)

-- Theorem: each entry, where every step is in range.
unfoldable pub MarginEntriesScale : Type 0
MarginEntriesScale =
    (c n : ℕ) (t t' : ℕ → ℕ → Float) (d d' : ℕ → Float) → ScaledMargins c n t t' d d'
    → T (margins_in_range n t d) → T (margins_in_range n t' d')
    → (i j : ℕ) → i < n → j < n → Scaled c (entry n t' d' i j) (entry n t d i j)
