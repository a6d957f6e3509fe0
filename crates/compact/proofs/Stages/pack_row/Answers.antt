-- `compact::Stages::pack_row` meets its contract: at place q the places before it are done. Assumes nothing.
use mathlib.Core.Path.{refl, ◌∙◌}
use native.Mathlib.Omega.{arith}
use borrow.Author.Rules.{rules}
use Rattle.tables.proofs.Loops.{along_begins, along_turns}
use Rattle.compact.proofs.Stages.pack_row.Goals as goal

pub loop-q-preserved : goal.loop-q-preserved
loop-q-preserved c =
    (omega arith, along_turns c.loop-q.invariant.1 c.put.ensures (c.get-x.ensures ∙ rw (c.stage-i.ensures, c.stage-j.ensures)))

pub loop-q-init : goal.loop-q-init
loop-q-init c = (search rules, along_begins refl c.told-s)
