-- `hosts::yulanbowls_save_numbers` meets its contract. Assumes nothing.
use mir.Syntax.{w64}
use mir.ValLaws.{to_z-of_z}
use Rattle.file_calls.proofs.FileCalls.{numbers_save}
use Rattle.hosts.proofs.yulanbowls_save_numbers.Goals as goal

-- e is handed over by its bits, which mean e.
pub returns : goal.returns
returns c = numbers_save (rw (to_z-of_z w64 c.args.e c.ranges.e) at c.save.ensures)
