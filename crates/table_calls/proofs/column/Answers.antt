-- `table_calls::column` meets its contract. Assumes nothing.
use mir.Syntax.{w64}
use mir.ValLaws.{to_z-of_z}
use Rattle.table_calls.proofs.TableCalls.{column_call}
use Rattle.table_calls.proofs.column.Goals as goal

-- e is handed over by its bits, which mean e.
pub returns : goal.returns
returns c =
    column_call (rw (to_z-of_z w64 c.args.e c.ranges.e) at c.one_column-told.ensures) c.hand.ensures
