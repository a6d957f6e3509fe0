-- `tables::row::clear` meets its contract: at column j the columns before it are done. Assumes nothing.
use mathlib.Core.Path.{refl}
use native.Mathlib.Omega.{arith}
use borrow.Author.Rules.{rules}
use lib.Ieee.{of_bits}
use Rattle.tables.proofs.Loops.{along_begins, along_turns}
use Rattle.tables.proofs.row.clear.Goals as goal

pub loop-j-preserved : goal.loop-j-preserved
unfolding of_bits
loop-j-preserved c = (omega arith, along_turns c.loop-j.invariant.1 c.put.ensures refl)

pub loop-j-init : goal.loop-j-init
loop-j-init c = (search rules, along_begins refl c.told-a)
