-- Demand 3 looks only at the numbers of the stages below n.
use mathlib.Core.Path.{◌≡◌, subst}
use Prim.Native.Nat.{ℕ, ◌<◌}
use mathlib.Core.Bool.{Bool}
use lib.Ieee.{Float}
use Rattle.definitions.specs.Fractions.{Fraction}
use Rattle.definitions.specs.Accuracy.{Within, extended, Accurate, AccurateVector}

module _ {n E : ℕ} {on : ℕ → Bool} {A : ℕ → ℕ → Fraction} where
  pub same_table : {x : ℕ → ℕ → Float} (y : ℕ → ℕ → Float) → ((i j : ℕ) → i < n → j < n → x i j ≡ y i j) → Accurate n on E A x → Accurate n on E A y
  same_table y e a =
      record {
        X = a.X;
        exact = a.exact;
        within = λ i j hi hj. subst (λ z. Within E z (extended on a.X i j)) (e i j hi hj) (a.within i j hi hj);
      }

  pub same_vector : {made : (ℕ → ℕ → Fraction) → ℕ → Fraction} {x : ℕ → Float} (y : ℕ → Float)
      → ((i : ℕ) → i < n → x i ≡ y i) → AccurateVector n on E A made x → AccurateVector n on E A made y
  same_vector {made} y e a =
      record { X = a.X; exact = a.exact; within = λ i l. subst (λ z. Within E z (made (extended on a.X) i)) (e i l) (a.within i l) }
