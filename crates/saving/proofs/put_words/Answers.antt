-- `saving::put_words` meets its contract. The loop's invariant: the first k words are written. Assumes nothing.
use Prim.Native.Nat.{ℕ, ◌+◌, ◌<◌}
use native.Mathlib.Omega.{arith}
use mathlib.Core.List.{List, map}
use mathlib.Core.Path.{◌≡◌}
use lib.ListN.{length, take, get_or, length-map, get_or-map}
use lib.Seq.{take-length}
use Rattle.definitions.specs.Saving.{little_bytes, word_bytes}
use Rattle.buffer.specs.declared.Writer.{Writer}
use Rattle.buffer.specs.Pasted.{Room, Written}
use Rattle.buffer.proofs.Growing.{Turn, turn}
use Rattle.saving.proofs.FileBytes.{words-begun, words_grow}
use Rattle.saving.proofs.put_words.Goals as goal

-- A turn writes one word more.
word_turn : (words : List ℕ) (other : ℕ) {k : ℕ} {start here : Writer} → Room (word_bytes words) start → k < length words → Written (word_bytes (take k words)) start here
    → Turn (little_bytes 8 (get_or words k other)) (word_bytes (take (k + 1) words)) start here
word_turn words other room due so_far =
    turn (λ m. word_bytes (take m words)) (λ m. little_bytes 8 (get_or words m other)) (length words) (words_grow words other) (rw (take-length words) room) due so_far

pub loop-number-init : goal.loop-number-init
loop-number-init g c = words-begun _

pub put_number-requires : goal.put_number-requires
put_number-requires g c =
    let words = map g.W.Word.word_of c.args.numbers.now in
    let k = c.loop-number.number-index in
    let last = g.W.Word.word_of c.number-item.result in
    let word : c.to_word.result ≡ get_or words k last = cc (get_or-map g.W.Word.word_of c.args.numbers.now k c.number-item.result) in
    rw word (word_turn words last c.requires (omega (arith, length-map {B = ℕ} c.args.numbers.now g.W.Word.word_of)) c.loop-number.invariant).room

pub loop-number-preserved : goal.loop-number-preserved
loop-number-preserved g c =
    let words = map g.W.Word.word_of c.args.numbers.now in
    let k = c.loop-number.number-index in
    let last = g.W.Word.word_of c.number-item.result in
    let word : c.to_word.result ≡ get_or words k last = cc (get_or-map g.W.Word.word_of c.args.numbers.now k c.number-item.result) in
    (word_turn words last c.requires (omega (arith, length-map {B = ℕ} c.args.numbers.now g.W.Word.word_of)) c.loop-number.invariant).written (rw word at c.put_number.ensures)
