-- `table_calls::entry` meets its contract. Assumes nothing.
use mir.Syntax.{w64}
use mir.ValLaws.{to_z-of_z}
use Rattle.table_calls.proofs.TableCalls.{entry_call}
use Rattle.table_calls.proofs.entry.Goals as goal

-- e is handed over by its bits, which mean e.
pub returns : goal.returns
returns c =
    entry_call (rw (to_z-of_z w64 c.args.e c.ranges.e) at c.one_entry-entry.ensures) c.hand.ensures
