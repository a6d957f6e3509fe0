-- `saving::put_sheet` meets its contract. The loop's invariant: behind the head the first i records are written. Assumes nothing.
use mathlib.Core.List.{map}
use Rattle.definitions.specs.Saving.{records_bytes}
use Rattle.buffer.specs.Pasted.{Written}
use Rattle.saving.proofs.put_sheet.Given as goal

abbrev pub invariant-loop-i : goal.invariant-loop-i
invariant-loop-i g l = Written (records_bytes l.n 1 l.i (map g.W.Word.word_of l.sheet)) l.initial.file l.file
