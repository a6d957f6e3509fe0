-- `hosts::yulanbowls_read_numbers` meets its contract. Assumes nothing.
use Rattle.file_calls.proofs.FileCalls.{numbers_call}
use Rattle.hosts.proofs.yulanbowls_read_numbers.Goals as goal

pub returns : goal.returns
returns c = numbers_call c.read.ensures
