-- The words of a sheet's numbers are as many.
use mathlib.Core.List.{List}
use mathlib.Core.Path.{◌≡◌}
use lib.ListN.{length, length-map}
use lib.Ieee.{Float, binary64, to_bits}
use Rattle.definitions.specs.Saving.{sheet_words}

pub length_sheet_words : (numbers : List Float) → length (sheet_words numbers) ≡ length numbers
unfolding sheet_words
length_sheet_words numbers = length-map numbers (λ number. to_bits binary64 number)
