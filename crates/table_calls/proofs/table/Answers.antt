-- `table_calls::table` meets its contract. Assumes nothing.
use mir.Syntax.{w64}
use mir.ValLaws.{to_z-of_z}
use Rattle.table_calls.proofs.TableCalls.{table_call}
use Rattle.table_calls.proofs.table.Goals as goal

-- e is handed over by its bits, which mean e.
pub returns : goal.returns
returns c =
    table_call (rw (to_z-of_z w64 c.args.e c.ranges.e) at c.whole_table-table.ensures) c.hand.ensures
