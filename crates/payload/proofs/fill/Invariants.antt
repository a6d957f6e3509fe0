-- `payload::fill` meets its contract. The loop's invariant: the first k places are written. Assumes nothing.
use mathlib.Core.List.{map}
use Rattle.definitions.specs.File.{file_words}
use Rattle.steps.proofs.Filling.{Filling}
use Rattle.payload.proofs.fill.Given as goal

abbrev pub invariant-loop-k : goal.invariant-loop-k
invariant-loop-k g l = Filling (map g.W.Word.of_word (file_words l.bytes)) l.initial.place-items l.place-items l.numbers l.k
