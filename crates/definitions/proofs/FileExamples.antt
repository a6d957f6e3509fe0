-- The sheet files, by computation from the definitions.
use mathlib.Core.Path.{refl}
use Rattle.definitions.proofs.Computing.{computing}
use Rattle.definitions.specs.FileExamples.{DwellPrintsP, DwellPrintsOne, LongestFile, FileClaim, files, SaveClaim, saves}

pub dwell_prints_P : DwellPrintsP
unfolding computing
dwell_prints_P = refl

pub dwell_prints_one : DwellPrintsOne
unfolding computing
dwell_prints_one = refl

pub longest_file_lem : LongestFile
unfolding computing
longest_file_lem = refl

pub files_hold : FileClaim files
unfolding computing
files_hold = refl

pub saves_hold : SaveClaim saves
unfolding computing
saves_hold = refl
