-- `payload::fill` meets its contract. The loop's invariant: the first k places are written. Assumes nothing.
use mathlib.Core.Path.{sym, ap, ◌∙◌}
use native.Mathlib.Omega.{arith}
use lib.ListN.{length-map, length-take, get_or-map}
use Rattle.definitions.specs.File.{file_words}
use Rattle.steps.proofs.Filling.{none_yet, one_more}
use Rattle.payload.proofs.FileWords.{few_stages, head_held, words_due}
use Rattle.payload.proofs.fill.Goals as goal

pub numbers-numbers-requires : goal.numbers-numbers-requires
numbers-numbers-requires g c = few_stages c.args.bytes.now c.args.n c.requires.0

pub first_payload-first-requires : goal.first_payload-first-requires
first_payload-first-requires g c = head_held c.args.bytes.now c.args.n c.requires.0

pub loop-k-init : goal.loop-k-init
loop-k-init g c =
    let words = file_words c.args.bytes.now in
    let due = words_due c.args.bytes.now c.args.n c.requires.0 c.requires.1 c.numbers-numbers.ensures in
    none_yet (length-map words g.W.Word.of_word ∙ due) (omega (arith, c.requires.2, length-take {A = g.row.W.Denot}))

pub loop-k-preserved : goal.loop-k-preserved
loop-k-preserved g c =
    let words = file_words c.args.bytes.now in
    let number = c.from_word.ensures ∙ ap g.W.Word.of_word c.word_of.ensures ∙ sym (get_or-map g.W.Word.of_word words c.loop-k.k 0) in
    one_more c.from_word.result (g.W.Word.of_word 0) c.loop-k.invariant (omega (arith, length-take {A = g.row.W.Denot})) number
