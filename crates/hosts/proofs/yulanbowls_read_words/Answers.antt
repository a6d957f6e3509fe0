-- `hosts::yulanbowls_read_words` meets its contract. Assumes nothing.
use Rattle.file_calls.proofs.FileCalls.{words_call}
use Rattle.hosts.proofs.yulanbowls_read_words.Goals as goal

pub returns : goal.returns
returns c = words_call c.read.ensures
