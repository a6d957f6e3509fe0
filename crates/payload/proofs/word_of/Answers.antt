-- `payload::word_of` meets its contract. Assumes nothing.
use Prim.Native.Nat.{◌+◌, ◌*◌, ◌/◌}
use mathlib.Core.Path.{sym, ◌∙◌}
use native.Mathlib.Omega.{arith}
use Rattle.definitions.specs.File.{file_words}
use Rattle.payload.proofs.FileWords.{WordAt, at_least_one, word_inside, row_word, weight-word}
use Rattle.payload.proofs.word_of.Goals as goal
use Rattle.payload.proofs.word_of.Goals.{Else-row-n, Then-row-n}

pub nonzero_div-row : goal.nonzero_div-row
nonzero_div-row c = at_least_one c.args.bytes.now c.args.n c.requires.0

-- Where the word stands, seen from the first payload.
in_row : (c : goal.Then-row-n) → WordAt (file_words c.args.bytes.now) c.args.bytes.now c.args.k (c.args.first + 8 * (c.args.k + c.args.k / c.args.n) + 2)
in_row c =
    rw c.requires.1 (row_word c.args.bytes.now c.args.n c.requires.0 c.args.k c.requires.2 (omega arith))

in_weights : (c : goal.Else-row-n) → WordAt (file_words c.args.bytes.now) c.args.bytes.now c.args.k (c.args.first + 8 * (c.args.k + c.args.k / c.args.n))
in_weights c =
    rw c.requires.1 (weight-word c.args.bytes.now c.args.n c.requires.0 c.args.k c.requires.2 (omega arith))

pub overflow_add-at : goal.overflow_add-at
overflow_add-at c = omega (arith, word_inside c.args.bytes.now c.args.n c.requires.0 c.args.k c.requires.2)

pub overflow_mul-at : goal.overflow_mul-at
overflow_mul-at c = omega (arith, word_inside c.args.bytes.now c.args.n c.requires.0 c.args.k c.requires.2)

pub overflow_add-at-2 : goal.overflow_add-at-2
overflow_add-at-2 c = omega (arith, word_inside c.args.bytes.now c.args.n c.requires.0 c.args.k c.requires.2)

pub overflow_add-at-then-row-n : goal.overflow_add-at-then-row-n
overflow_add-at-then-row-n c = omega (arith, (in_row c).held)

pub number_at-requires : goal.number_at-requires
number_at-requires c = omega (arith, (in_row c).held)

pub returns-then-row-n : goal.returns-then-row-n
returns-then-row-n c = c.number_at.ensures ∙ sym (in_row (goal.at.returns-then-row-n c).Then-row-n).word

pub number_at-requires-2 : goal.number_at-requires-2
number_at-requires-2 c = omega (arith, (in_weights c).held)

pub returns : goal.returns
returns c = c.number_at-2.ensures ∙ sym (in_weights (goal.at.returns c).Else-row-n).word
