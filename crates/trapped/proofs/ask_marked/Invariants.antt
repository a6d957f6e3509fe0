-- `trapped::ask_marked` meets its contract: every stage before i is idle or marked. Assumes nothing.
use mathlib.Core.Path.{◌≡◌}
use mathlib.Core.Bool.{Bool, ◌||◌}
use mathlib.Core.List.{List}
use Prim.Native.Nat.{ℕ}
use lib.Ieee.{Float}
use Rattle.definitions.specs.Sheet.{idle}
use Rattle.definitions.specs.Questions.{ask_stages}
use Rattle.steps.proofs.Searches.{from_stage}
use Rattle.marks.specs.declared.Marks.{Marks}
use Rattle.marks.specs.Marks.{is_marked}
use Rattle.trapped.proofs.ask_marked.Given as goal

abbrev pub passes : ℕ → List Float → Marks → ℕ → Bool
passes n sheet marks i = idle n sheet i || is_marked marks i

abbrev pub invariant-loop-i : goal.invariant-loop-i
invariant-loop-i l = ask_stages (passes l.sheet.n l.sheet.numbers.now l.marks) 9 0 l.sheet.n ≡ from_stage (passes l.sheet.n l.sheet.numbers.now l.marks) 9 l.sheet.n l.i
