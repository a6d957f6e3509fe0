-- `table_calls::prices` meets its contract. Assumes nothing.
use mir.Syntax.{w64}
use mir.ValLaws.{to_z-of_z}
use Rattle.table_calls.proofs.TableCalls.{prices_call}
use Rattle.table_calls.proofs.prices.Goals as goal

-- e is handed over by its bits, which mean e.
pub returns : goal.returns
returns c =
    prices_call (rw (to_z-of_z w64 c.args.e c.ranges.e) at c.request_prices-told.ensures) c.hand.ensures
