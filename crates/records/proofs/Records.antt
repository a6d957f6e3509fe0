-- A record by its place in the file: question 11, and where the numbers of a record stand.
use Prim.Native.Nat.{ℕ, ◌+◌, ◌-◌, ◌≤◌}
use mathlib.Core.Bool.{true}
use mathlib.Core.List.{List}
use mathlib.Core.Path.{◌≡◌, ap, ◌∙◌}
use native.Mathlib.Omega.{arith}
use borrow.Author.Tests.{leb-true}
use lib.Dec.{leb}
use lib.ListN.{length, drop, length-drop}
use lib.Seq.{drop-drop}
use Rattle.exact.proofs.Bools.{and_second}
use Rattle.definitions.specs.File.{little, record_length, record_kind, payload, whole_record}
use Rattle.records.proofs.Little.{within}

module _ (bytes : List ℕ) (at : ℕ) where
  -- A whole record ends within the file.
  pub whole_room : whole_record (drop at bytes) ≡ true → at + (6 + record_length (drop at bytes)) ≤ length bytes
  unfolding whole_record
  whole_room e =
      let size = record_length (drop at bytes) in
      let both = rw length-drop at e in
      let fits : 6 + size ≤ length bytes - at = leb-true (6 + size) (length bytes - at) (and_second (leb 6 (length bytes - at)) (leb (6 + size) (length bytes - at)) both) in
      omega arith

  -- Where its kind stands, and a number of w bytes at place k of its payload.
  pub kind_at : record_kind (drop at bytes) ≡ little 2 (drop (at + 4) bytes)
  unfolding record_kind
  kind_at = rw drop-drop

  pub payload-at : (k w : ℕ) → k + w ≤ record_length (drop at bytes) → little w (drop k (payload (drop at bytes))) ≡ little w (drop (at + (6 + k)) bytes)
  unfolding payload
  payload-at k w h =
      within k w (record_length (drop at bytes)) (drop 6 (drop at bytes)) h ∙ ap (λ l. little w l) (rw (drop-drop k 6, drop-drop (6 + k) at))
