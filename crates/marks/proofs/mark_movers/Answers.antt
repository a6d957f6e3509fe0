-- `marks::mark_movers` meets its contract. Assumes nothing.
use mathlib.Core.Path.{◌≡◌, refl, sym, ap, ◌∙◌}
use mathlib.Core.Bool.{not, ◌&&◌}
use mathlib.Core.List.{List}
use Prim.Native.Nat.{ℕ, ◌<◌, zero-le}
use native.Mathlib.Omega.{arith}
use borrow.Author.Tests.{not-true, not-false, eq-eqb}
use lib.Dec.{eqb}
use lib.Ieee.{Float, binary64, of_bits, ne}
use Rattle.definitions.specs.Numbers.{◌⊖◌, is_zero}
use Rattle.definitions.specs.Sheet.{place}
use Rattle.definitions.specs.Questions.{moves}
use Rattle.exact.proofs.Bools.{contrary}
use Rattle.exact.proofs.Cases.{by_equal}
use Rattle.rounding.proofs.Words.{zero_word}
use Rattle.steps.proofs.Sizes.{size-at}
use Rattle.marks.proofs.Marking.{first_stage, last-stage, marked_few, leave_stage, mark_stage}
use Rattle.marks.proofs.mark_movers.Goals as goal
use Rattle.marks.proofs.mark_movers.Goals.{then-not-next-i+then-i-j, else-not-next-i, else-not-next-i-via-then-not-next-i+else-i-j, else-not-next-i-via-else-not-next-i}

-- A move from stage i to stage j, by the number at its place.
move_is :
    (n : ℕ) (sheet : List Float) (i j : ℕ) {x : Float} → i < n → j < n → x ≡ place n sheet i j
    → (not (eqb i j) && ne (of_bits binary64 0 ⊖ x) (of_bits binary64 0)) ≡ moves n sheet i j
unfolding moves is_zero ne
move_is n sheet i j l m h = rw (zero_word, h) (by_equal i j (λ e. rw (e, eq-eqb j j refl)) (λ d. rw (size-at n sheet i j l m d)))

pub overflow_add-next : goal.overflow_add-next
overflow_add-next c = omega (arith, marked_few c.loop-i.invariant.1)

pub loop-i-preserved : goal.loop-i-preserved
loop-i-preserved c =
    let l = c.loop-i-test.true in (
      omega arith,
      elim c.if-not-next-i.branch [
        | then-not-next-i+then-i-j w ↦ mark_stage _ _ c.loop-i.invariant.1 l (omega arith) (not-true _ (ap not w.if-not-next-i.true)) (sym (move_is _ _ _ _ l c.requires.0 w.number_at.ensures) ∙ w.if-i-j.true) (ap (λ m. m.marked) w.next-is) (ap (λ m. m.count) w.next-is)
        | else-not-next-i w ↦
            -- stage i is marked already, or does not move to j
            rw w.next-is (leave_stage _ _ c.loop-i.invariant.1 l (λ t.
            elim w.else-not-next-i.branch [
              | else-not-next-i-via-then-not-next-i+else-i-j v ↦ absurd (contrary _ t (sym (move_is _ _ _ _ l c.requires.0 v.number_at.ensures) ∙ v.if-i-j.false))
              | else-not-next-i-via-else-not-next-i v ↦ not-false _ (ap not v.if-not-next-i.false)
            ]))
      ],
    )

pub returns : goal.returns
returns c = last-stage _ _ c.loop-i.invariant.0 c.loop-i-test.false c.loop-i.invariant.1

pub loop-i-init : goal.loop-i-init
loop-i-init c = (zero-le, first_stage _ _ c.requires.1)
