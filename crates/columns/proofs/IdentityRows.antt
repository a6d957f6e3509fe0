-- The rows of the identity.
use mathlib.Core.Path.{◌≡◌, refl, sym, ap, ◌∙◌, fun_ext}
use Prim.Native.Nat.{ℕ, ◌<◌}
use native.Mathlib.Omega.{arith}
use lib.Ieee.{Float}
use borrow.Author.Tests.{eq-eqb, ne_eqb}
use Rattle.definitions.specs.Numbers.{0·0, 1·0}
use Rattle.tables.specs.Operators.{replace, between}
use Rattle.passes.specs.RowPass.{identity_row}
use Rattle.exact.proofs.Cases.{by_equal, by_order}
use Rattle.tables.proofs.Operators.{replace_same, replace_other, between_in, between_past}

one_of_identity : (i : ℕ) → identity_row i i ≡ 1·0
unfolding identity_row
one_of_identity i = rw (eq-eqb i i refl)

zero_of_identity : (i j : ℕ) → (j ≡ i → ⊥) → identity_row i j ≡ 0·0
unfolding identity_row
zero_of_identity i j n = rw (ne_eqb i j (λ e. n (sym e)))

-- Zeros with a one on the diagonal.
pub unit_row_lem : (i r : ℕ) {own : ℕ → Float} → i < r → own ≡ (λ _. 0·0) → replace i 1·0 own ≡ between 0 r (identity_row i) own
unit_row_lem i r {own} h z =
    fun_ext (λ j. by_equal j i
    (λ e. rw e (replace_same i 1·0 own ∙ sym (one_of_identity i) ∙ sym (between_in 0 r (identity_row i) own i (omega arith) h)))
    (λ n. replace_other i 1·0 own j n ∙ by_order r j
    (λ l. sym (between_past 0 r (identity_row i) own j l))
    (λ l. ap (λ (row : ℕ → Float). row j) z ∙ sym (zero_of_identity i j n) ∙ sym (between_in 0 r (identity_row i) own j (omega arith) l))))
