-- From the steps on one column to its quotients.
use mathlib.Core.Path.{◌≡◌, sym, ap, ap₂, ◌∙◌}
use Prim.Native.Nat.{ℕ, ◌<◌, zero-le}
use native.Mathlib.Omega.{arith}
use mathlib.Core.Bool.{Bool, true, false, ◌&&◌}
use mathlib.Core.List.{List}
use lib.Ieee.{Float}
use Rattle.definitions.specs.Numbers.{◌⊘◌, div_in_range, all}
use Rattle.definitions.specs.LeavingRates.{none, System, downward, p, solved}
use Rattle.steps.proofs.All.{all_same}
use Rattle.steps.proofs.LeavingRatesSteps.{quotient_is}
use Rattle.tables.specs.RowMajor.{table}
use Rattle.tables.specs.Vectors.{vector, IsVector}
use Rattle.tables.proofs.Operators.{between_in}
use Rattle.passes.specs.Multipliers.{system_in}
use Rattle.downward.specs.Downward.{SharedTable}
use Rattle.column.specs.ColumnSteps.{UnitColumn, DownAt, UpAt, DownwardGives, UpwardGives, QuotientsGive, ColumnSolved}
use Rattle.column.proofs.ColumnStages.{unit-column, turns_upward}
use Rattle.column.proofs.ColumnRange.{column_test}

module _ (r j : ℕ) (f : ℕ → ℕ → Float) {t : List Float} {ok : Bool} (s : SharedTable none r f ok t) where
  at : ℕ → System
  at = downward r (system_in none f)

  pub out_of_range : ok ≡ false → {b : List Float} → IsVector b → ColumnSolved r j f false b
  out_of_range e h =
      record {
        range = rw (← s.range, e);
        quotients = λ t. absurd t;
        long = h;
      }

  -- Column j of the identity, downward, upward, the last division.
  pub column-solved : ok ≡ true → {b₁ b₂ b₃ b₄ : List Float} {down up last : Bool}
      → UnitColumn r j b₁
      → DownwardGives r j (table t) (vector b₁) down b₂
      → UpwardGives r (table t) (vector b₂) up b₃
      → QuotientsGive r (table t) (vector b₃) last b₄
      → ColumnSolved r j f (down && up && last) b₄
  unfolding at
  column-solved holds {b₁} {b₂} {b₃} {b₄} {down} {up} {last} h₁ h₂ h₃ h₄ =
      let m = s.multipliers in
      let d₁ : DownAt r at j j (vector b₁) = unit-column r at j h₁ in
      let u₁ : UpAt r at j 0 (vector b₂) = turns_upward r at j (h₂.is at m d₁) in
      let u₂ : UpAt r at j r (vector b₃) = h₃.is at j m u₁ in
      let end : (i : ℕ) → i < r → vector b₃ i ≡ solved r at j i = λ i l. u₂.done i (omega arith) l in
      let divided : last ≡ all (λ i. div_in_range (solved r at j i) (p r at i)) 0 r =
      h₄.range ∙ all_same (λ i. div_in_range (vector b₃ i) (table t i i)) (λ i. div_in_range (solved r at j i) (p r at i)) 0 r
      (λ i a b. ap₂ div_in_range (end i (omega arith)) (m.pivots i (omega arith))) in
      record {
        range =
            ap₂ (λ x y. x && y) (ap₂ (λ x y. x && y) (h₂.large at m d₁) (h₃.large at j m u₁)) divided
            ∙ column_test r at j
            ∙ rw (← s.range, holds);
        quotients = λ _ i l.
            ap (λ (w : ℕ → Float). w i) h₄.holds.is
            ∙ between_in 0 r (λ i. vector b₃ i ⊘ table t i i) (vector b₃) i zero-le l
            ∙ ap₂ (λ x y. x ⊘ y) (end i l) (m.pivots i l)
            ∙ sym (quotient_is r at i j);
        long = h₄.holds.long;
      }
