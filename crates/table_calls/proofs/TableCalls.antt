-- What each call promises, from the promise of the service behind it and what is handed over in its out places.
use mathlib.Core.List.{List}
use Prim.Native.Nat.{ℕ}
use lib.IntN.{ℤ}
use lib.Ieee.{Float}
use Rattle.std.specs.Prelude.{Result}
use Rattle.answers.specs.declared.Refusal.{Refusal}
use Rattle.answers.specs.Answers as answers
use Rattle.column_planner.specs.Promises.{ColumnDone}
use Rattle.planner.specs.Promises.{TableDone, EntryDone}
use Rattle.price_planner.specs.Promises.{PricesDone}
use Rattle.out_places.specs.OutPlaces.{ValueHanded}
use Rattle.table_calls.specs.TableCalls.{TableCall, ColumnCall, EntryCall, PricesCall}

module _ {row column number : ℕ} where
  pub table_call : {reading n : ℕ} {e : ℤ} {sheet before after : List Float} {r : Result ℕ Refusal} {was is : ℕ} → TableDone reading n e sheet before after r
      → ValueHanded (answers.told r) was is row column number → TableCall reading n e sheet before after was is row column number
  table_call done told = record { answer = rw done.answered at told; area = done.area; accurate = done.accurate }

  pub column_call : {reading n : ℕ} {e : ℤ} {sheet : List Float} {stage : ℕ} {before after : List Float} {r : Result ℕ Refusal} {was is : ℕ} → ColumnDone reading n e sheet stage before after r
      → ValueHanded (answers.told r) was is row column number → ColumnCall reading n e sheet stage before after was is row column number
  column_call done told = record { answer = rw done.answered at told; area = done.area; accurate = done.accurate }

  pub entry_call : {reading n : ℕ} {e : ℤ} {sheet : List Float} {i j : ℕ} {r : Result Float Refusal} {was is : Float} → EntryDone reading n e sheet i j r
      → ValueHanded (answers.told r) was is row column number → EntryCall reading n e sheet i j was is row column number
  entry_call done told = record { answer = rw done.answered at told; accurate = done.accurate }

  pub prices_call : {reading n : ℕ} {e : ℤ} {sheet prices left before after : List Float} {r : Result ℕ Refusal} {was is : ℕ} → PricesDone reading n e sheet prices left before after r
      → ValueHanded (answers.told r) was is row column number → PricesCall reading n e sheet prices left before after was is row column number
  prices_call done told = record { kept = done.kept; answer = rw done.answered at told; area = done.area; accurate = done.accurate }
