-- What an answer leaves where the call is accepted and where it is refused.
use mathlib.Core.Path.{◌≡◌}
use Prim.Native.Nat.{ℕ}
use lib.IntN.{ℤ}
use Rattle.definitions.specs.File.{Head}
use Rattle.definitions.specs.Services.{Answer, given, refused}
use Rattle.out_places.specs.OutPlaces.{number_of, row_of, column_of, handed, Refusal, ValueHanded, HeadHanded}

module _ {A : Type 0} {a : Answer A} where
  pub none_given : {value : A} → a ≡ given value → Refusal a 0 0 0
  unfolding number_of row_of column_of
  none_given e = record { number = rw e; row = rw e; column = rw e }

  pub refusal_given : {number row column : ℕ} → a ≡ refused number row column → Refusal a number row column
  unfolding number_of row_of column_of
  refusal_given e = record { number = rw e; row = rw e; column = rw e }

  pub value_given : {value : A} (before : A) → a ≡ given value → ValueHanded a before value 0 0 0
  unfolding handed
  value_given before e = record { told = none_given e; gives = rw e }

  pub value-kept : (before : A) {number row column : ℕ} → a ≡ refused number row column → ValueHanded a before before row column number
  unfolding handed
  value-kept before e = record { told = refusal_given e; gives = rw e }

module _ {a : Answer Head} (reading n : ℕ) (e : ℤ) where
  pub head_given_lem : {head : Head} → a ≡ given head → HeadHanded a reading head.reading n head.n e head.e 0 0 0
  unfolding handed
  head_given_lem is = record { told = none_given is; reads = rw is; stages = rw is; unit = rw is }

  pub head_kept : {number row column : ℕ} → a ≡ refused number row column → HeadHanded a reading reading n n e e row column number
  unfolding handed
  head_kept is = record { told = refusal_given is; reads = rw is; stages = rw is; unit = rw is }
