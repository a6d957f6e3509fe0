-- Stages that are left out of the steps, and the others in compact order: those that margins do not keep (document 01, "Steps for
-- margins"), and idle ones (document 02, U3).
use Rattle.std.specs.Prelude.{ℕ, zero, suc, Bool, cond, List, [], ◌∷◌, ◌++◌, length, get_or}
use Rattle.definitions.specs.Numbers.{0·0}
use Rattle.definitions.specs.Tables.{stored, stored_table}
use Rattle.definitions.specs.LeavingRates.{Weights, none, some, System}

-- The stages below n that pass a test, rising; a stage's rank is how many of them come before it.
unfoldable pub stages_with : (ℕ → Bool) → ℕ → List ℕ
stages_with test zero = []
stages_with test (suc n) = stages_with test n ++ cond (test n) (n ∷ []) []

unfoldable pub rank : (ℕ → Bool) → ℕ → ℕ
rank test i = length (stages_with test i)

-- The system of the listed stages, in compact order, each with its own weight.
abbrev pub weights_of : List ℕ → Weights → Weights
weights_of stages none = none
weights_of stages (some z) = some (λ i. z (get_or stages i 0))

unfoldable pub compact : List ℕ → System → System
compact stages a =
    record {
      t = stored_table 0·0 (length stages) (λ i j. a.t (get_or stages i 0) (get_or stages j 0));
      s = stored 0·0 (length stages) (λ i. a.s (get_or stages i 0));
      z = weights_of stages a.z;
    }
