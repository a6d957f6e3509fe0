-- What the library promises of the report, for every input; its other calls are those of `table_calls` and `file_calls`.
use Rattle.std.specs.Prelude.{cond, List, [], ℕ, ◌≤◌, leb, length}
use Rattle.definitions.specs.File.{file_answer}
use Rattle.definitions.specs.Dwell.{file_text}
use Rattle.buffer.specs.Pasted.{AtStart}

-- The text of a report for an area of so many bytes: what dwell prints for the file, and nothing where the area is too short.
unfoldable pub report_text : List ℕ → ℕ → List ℕ
report_text bytes room = cond (leb 32768 room) (file_text bytes (file_answer bytes 1056)) []

-- The report: the text at the start of the area, all else as it was, and the text's length returned, which the area holds.
pub record ReportCall (bytes before after : List ℕ) (returned : ℕ) : Type 0 where
  pub written : AtStart (report_text bytes (length before)) before after returned
  pub within : returned ≤ length after
