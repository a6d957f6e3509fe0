-- `trapped::ask_marked` meets its contract: every stage before i is idle or marked. Assumes nothing.
use mathlib.Core.Path.{◌≡◌, ◌∙◌}
use mathlib.Core.Bool.{Bool, true, false, not, ◌||◌, or-true}
use mathlib.Core.List.{List}
use Prim.Native.Nat.{ℕ}
use native.Mathlib.Omega.{arith}
use borrow.Author.Tests.{not-true, not-false}
use lib.Ieee.{Float}
use Rattle.exact.proofs.Bools.{denied, granted}
use Rattle.definitions.specs.Sheet.{idle}
use Rattle.answers.proofs.Outcome.{all_pass, no}
use Rattle.steps.proofs.Searches.{all-stages, good-stage, bad_stage, no_stage}
use Rattle.marks.specs.declared.Marks.{Marks}
use Rattle.marks.specs.Marks.{is_marked}
use mathlib.Core.Path.{ap}
use Rattle.trapped.proofs.ask_marked.Goals as goal
use Rattle.trapped.proofs.ask_marked.Goals.{else-not-marks-i-via-then-not-marks-i+else-not-is_idle, else-not-marks-i-via-else-not-marks-i}

abbrev passes : ℕ → List Float → Marks → ℕ → Bool
passes n sheet marks i = idle n sheet i || is_marked marks i

-- Stage i by the tests of the code.
module _ (n : ℕ) (sheet : List Float) (marks : Marks) (i : ℕ) where
  idle-passes : {b : Bool} → b ≡ idle n sheet i → not b ≡ false → passes n sheet marks i ≡ true
  idle-passes {b} e h = rw (granted b (idle n sheet i) e h)

  marked-passes : not (is_marked marks i) ≡ false → passes n sheet marks i ≡ true
  marked-passes h = rw (not-false (is_marked marks i) h) (or-true (idle n sheet i))

  neither : {b : Bool} → b ≡ idle n sheet i → not b ≡ true → not (is_marked marks i) ≡ true → passes n sheet marks i ≡ false
  neither {b} e h g = rw (denied b (idle n sheet i) e h, not-true (is_marked marks i) g)

pub returns-then-not-is_idle : goal.returns-then-not-is_idle
returns-then-not-is_idle c =
    let marks = c.args.marks in
    no (c.loop-i.invariant ∙ bad_stage _ _ _ _ c.loop-i-test.true (neither _ _ marks _ c.is_idle.ensures (ap not c.if-not-is_idle.true) (ap not c.if-not-marks-i.true)))

pub loop-i-preserved : goal.loop-i-preserved
loop-i-preserved c =
    let marks = c.args.marks in
    elim c.else-not-marks-i.branch [
      | else-not-marks-i-via-then-not-marks-i+else-not-is_idle w ↦
          c.loop-i.invariant ∙ good-stage _ _ _ _ c.loop-i-test.true (idle-passes _ _ marks _ w.is_idle.ensures (ap not w.if-not-is_idle.false))
      | else-not-marks-i-via-else-not-marks-i w ↦
          c.loop-i.invariant ∙ good-stage _ _ _ _ c.loop-i-test.true (marked-passes _ _ marks _ (ap not w.if-not-marks-i.false))
    ]

pub returns : goal.returns
returns c = all_pass (c.loop-i.invariant ∙ no_stage _ _ _ _ c.loop-i-test.false)

pub loop-i-init : goal.loop-i-init
loop-i-init c = all-stages _ _ _

pub bounds-marks-i : goal.bounds-marks-i
bounds-marks-i c = omega (arith, c.args.sheet.square.few)

pub overflow_add-result : goal.overflow_add-result
overflow_add-result c = omega (arith, c.args.sheet.square.few)
