-- `saving::put_words` meets its contract. The loop's invariant: the words of the first numbers are written. Assumes nothing.
use mathlib.Core.List.{map}
use lib.ListN.{take}
use Rattle.definitions.specs.Saving.{word_bytes}
use Rattle.buffer.specs.Pasted.{Written}
use Rattle.saving.proofs.put_words.Given as goal

abbrev pub invariant-loop-number : goal.invariant-loop-number
invariant-loop-number g l = Written (word_bytes (take l.number-index (map g.W.Word.word_of l.numbers))) l.initial.out l.out
