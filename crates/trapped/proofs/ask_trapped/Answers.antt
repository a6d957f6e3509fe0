-- `trapped::ask_trapped` meets its contract. Assumes nothing.
use mathlib.Core.Path.{◌≡◌, sym, ap, ◌∙◌}
use mathlib.Core.Bool.{◌||◌}
use mathlib.Core.List.{List}
use Prim.Native.Nat.{ℕ}
use native.Mathlib.Omega.{arith}
use borrow.Author.Tests.{ne_eqb}
use lib.Ieee.{Float}
use Rattle.definitions.specs.Sheet.{idle}
use Rattle.definitions.specs.Questions.{pass, question9, gets_out, not_trapped, ask_stages}
use Rattle.exact.proofs.Bools.{holds, or_r}
use Rattle.steps.proofs.QuestionLaws.{stages_pass, stages_same}
use Rattle.answers.proofs.Outcome.{all_pass, in_other_words}
use Rattle.marks.specs.declared.Marks.{Marks}
use Rattle.marks.specs.Marks.{is_marked, Marked}
use Rattle.marks.proofs.Counts.{count_full}
use Rattle.trapped.proofs.ask_trapped.Goals as goal

pub returns-then-reading-ne1 : goal.returns-then-reading-ne1
unfolding question9
returns-then-reading-ne1 c = all_pass (rw (ne_eqb c.args.reading 1 c.if-reading-ne1.true))

-- The marked stages are those that get out.
of_marked : (n : ℕ) (sheet : List Float) (marks : Marks) {reading : ℕ} → reading ≡ 1 → Marked (gets_out n sheet) n marks
    → ask_stages (λ i. idle n sheet i || is_marked marks i) 9 0 n ≡ question9 reading n sheet
unfolding question9 not_trapped
of_marked n sheet marks one h =
    rw one (stages_same (λ i. idle n sheet i || is_marked marks i) (not_trapped n sheet) 9 0 n (λ i l. ap (λ b. idle n sheet i || b) (h.each i (omega arith))))

-- Where all are marked, none is trapped.
none_trapped : (n : ℕ) (sheet : List Float) (marks : Marks) {reading : ℕ} → reading ≡ 1 → Marked (gets_out n sheet) n marks → marks.count ≡ n → question9 reading n sheet ≡ pass
unfolding question9 not_trapped
none_trapped n sheet marks one h e =
    rw one (stages_pass (not_trapped n sheet) 9 n (λ i l. or_r (idle n sheet i) (gets_out n sheet i) (holds (count_full (gets_out n sheet) n (sym h.counted ∙ e) i l))))

pub returns-then-marks-sheet : goal.returns-then-marks-sheet
returns-then-marks-sheet c = all_pass (none_trapped _ _ _ c.if-reading-ne1.false c.reach-marks.ensures c.if-marks-sheet.true)

pub returns : goal.returns
returns c = in_other_words (of_marked _ _ _ c.if-reading-ne1.false c.reach-marks.ensures) c.ask_marked.ensures
