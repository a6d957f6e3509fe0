-- `lines::put_row` meets its contract. The loop's invariant: the lines of the first j entries are written. Assumes nothing.
use Prim.Native.Nat.{ℕ, ◌+◌, ◌<◌}
use lib.Ieee.{Float}
use Rattle.definitions.specs.Sheet.{place}
use Rattle.definitions.specs.Dwell.{row_lines, entry_line}
use Rattle.buffer.specs.declared.Writer.{Writer}
use Rattle.buffer.specs.Pasted.{Room, Written}
use Rattle.buffer.proofs.Growing.{Turn, turn}
use Rattle.lines.proofs.Lines.{row-begun, row_grows}
use Rattle.lines.proofs.put_row.Goals as goal
use Rattle.lines.proofs.put_row.Goals.{In-loop-j}

-- A turn writes one line more of the row.
entry-turn : (x : ℕ → ℕ → Float) (i n : ℕ) {j : ℕ} {start here : Writer} → Room (row_lines x i n) start → j < n → Written (row_lines x i j) start here
    → Turn (entry_line (i + 1) (j + 1) (x i j)) (row_lines x i (j + 1)) start here
entry-turn x i n room due so_far = turn (row_lines x i) (λ k. entry_line (i + 1) (k + 1) (x i k)) n (λ k h. row_grows x i k) room due so_far

pub loop-j-init : goal.loop-j-init
loop-j-init c =
    row-begun (place c.args.n c.args.answer.now) c.args.i c.args.out.now

pub put_entry-requires : goal.put_entry-requires
put_entry-requires c =
    (entry-turn (place c.args.n c.args.answer.now) c.args.i c.args.n c.requires.2 c.loop-j-test.true c.loop-j.invariant).room

pub loop-j-preserved : goal.loop-j-preserved
loop-j-preserved c =
    (entry-turn (place c.args.n c.args.answer.now) c.args.i c.args.n c.requires.2 c.loop-j-test.true c.loop-j.invariant).written c.put_entry.ensures
