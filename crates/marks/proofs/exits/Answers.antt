-- `marks::exits` meets its contract. Assumes nothing.
use mathlib.Core.Path.{◌≡◌, refl, sym, ap, ◌∙◌}
use Prim.Native.Nat.{ℕ, ◌<◌, zero-le}
use native.Mathlib.Omega.{arith}
use mathlib.Core.List.{List}
use lib.Ieee.{Float, binary64, of_bits, lt}
use Rattle.definitions.specs.Numbers.{◌⊕◌}
use Rattle.definitions.specs.Sheet.{place}
use Rattle.definitions.specs.Questions.{leaves}
use Rattle.rounding.proofs.Words.{zero_word}
use Rattle.steps.proofs.Sizes.{diagonal-at}
use Rattle.exact.proofs.Bools.{contrary}
use Rattle.marks.proofs.Marking.{none-marked, first_stage, last-stage, marked_few, at_stage, leave_stage, mark_stage}
use Rattle.marks.proofs.exits.Goals as goal
use Rattle.marks.proofs.exits.Goals.{then-number_at, else-number_at}

-- The exit of stage i, by the number at its place.
exit_is : (n : ℕ) (sheet : List Float) (i : ℕ) {x : Float} → i < n → x ≡ place n sheet i i → lt (of_bits binary64 0) (x ⊕ of_bits binary64 0) ≡ leaves n sheet i
unfolding leaves
exit_is n sheet i l h = rw (zero_word, h, diagonal-at n sheet i l)

pub loop-i-init : goal.loop-i-init
loop-i-init c = (zero-le, first_stage _ _ (none-marked c.args.sheet.square.few refl refl))

pub overflow_add-next : goal.overflow_add-next
overflow_add-next c = omega (arith, marked_few c.loop-i.invariant.1)

pub loop-i-preserved : goal.loop-i-preserved
loop-i-preserved c =
    let l = c.loop-i-test.true in (
      omega arith,
      let exit = exit_is _ _ _ l c.number_at.ensures in
          elim c.if-number_at.branch [
            | then-number_at w ↦ mark_stage _ _ c.loop-i.invariant.1 l (omega arith) (at_stage _ _ c.loop-i.invariant.1 l) (sym exit ∙ w.if-number_at.true) (ap (λ m. m.marked) w.next-is) (ap (λ m. m.count) w.next-is)
            | else-number_at w ↦ rw w.next-is (leave_stage _ _ c.loop-i.invariant.1 l (λ t. absurd (contrary _ t (sym exit ∙ w.if-number_at.false))))
          ],
    )

pub returns : goal.returns
returns c = last-stage _ _ c.loop-i.invariant.0 c.loop-i-test.false c.loop-i.invariant.1
