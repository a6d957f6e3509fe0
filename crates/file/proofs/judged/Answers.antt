-- `file::judged` meets its contract: the constant is one more than the length of the longest file. Assumes nothing.
use native.Mathlib.Omega.{arith}
use borrow.Author.Tests.{ltb-true, ltb-false}
use lib.Dec.{ltb}
use Rattle.exact.proofs.Cases.{by_bool}
use Rattle.definitions.specs.File.{head_length, file_length, longest_file}
use Rattle.file.proofs.judged.Goals as goal

pub returns : goal.returns
unfolding longest_file file_length head_length
returns c =
    rw c.min.ensures
    (by_bool (ltb c.args.held 8723) (λ less. rw less (omega (arith, ltb-true c.args.held 8723 less))) (λ more. rw more (omega (arith, ltb-false c.args.held 8723 more))))
