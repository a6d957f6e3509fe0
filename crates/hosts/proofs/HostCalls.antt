-- What the report's call promises, from the promise of the report.
use mathlib.Core.Path.{refl}
use mathlib.Core.List.{List}
use Prim.Native.Nat.{ℕ, ◌≤◌, ◌<◌}
use native.Mathlib.Omega.{arith}
use lib.ListN.{length}
use borrow.Author.Tests.{le-leb, lt-leb}
use Rattle.definitions.specs.File.{file_answer}
use Rattle.definitions.specs.Dwell.{file_text}
use Rattle.report.specs.Reported.{Reported}
use Rattle.hosts.specs.HostCalls.{ReportCall, report_text}

module _ (bytes before : List ℕ) where
  pub report_short : length before < 32768 → ReportCall bytes before before 0
  unfolding report_text
  report_short short = record { written = rw (lt-leb 32768 (length before)) record { bytes = refl; counted = refl }; within = omega arith }

  pub report_written : {after : List ℕ} {count : ℕ} → 32768 ≤ length before → Reported (file_text bytes (file_answer bytes 1056)) before after count
      → ReportCall bytes before after count
  unfolding report_text
  report_written enough done = record { written = rw (le-leb 32768 (length before)) done.written; within = done.within }
