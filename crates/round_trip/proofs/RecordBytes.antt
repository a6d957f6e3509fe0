-- Records and their bytes, there and back.
use Prim.Native.Nat.{ℕ, ◌+◌, ◌^◌, ◌≤◌, ◌<◌}
use mathlib.Core.Bool.{true}
use mathlib.Core.List.{List, ◌++◌, append_assoc}
use mathlib.Core.Path.{◌≡◌, refl, sym, ◌∙◌}
use native.Mathlib.Omega.{arith}
use borrow.Author.Tests.{le-leb}
use lib.ListN.{length, take, drop, length-append, length-drop, take-append-drop}
use lib.Seq.{take_at, drop_at, drop-drop, take-add, length-take-le}
use Rattle.definitions.specs.File.{record_length, record_kind, payload, rest, whole_record}
use Rattle.definitions.specs.Saving.{little_bytes, record_bytes}
use Rattle.records.proofs.LittleBytes.{length-little}
use Rattle.records.proofs.Records.{whole_room}
use Rattle.round_trip.specs.RoundTrip.{Below}
use Rattle.round_trip.proofs.Bytes.{number_back, bytes_back, below-drop}

-- A record whose length and kind fit, with more bytes behind it.
module _ (kind : ℕ) (content later : List ℕ) (narrow : kind < 256 ^ 2) (short : length content < 256 ^ 4) where
  abbrev bytes : List ℕ
  bytes = record_bytes kind content ++ later

  size : List ℕ
  size = little_bytes 4 (length content)

  pieces : bytes ≡ size ++ (little_bytes 2 kind ++ (content ++ later))
  unfolding record_bytes size
  pieces = simp append_assoc

  pub length_back : record_length bytes ≡ length content
  unfolding record_length size
  length_back = rw pieces (number_back 4 (length content) (little_bytes 2 kind ++ (content ++ later)) short)

  after-size : drop 4 bytes ≡ little_bytes 2 kind ++ (content ++ later)
  unfolding size
  after-size = rw pieces (drop_at size _ 4 (length-little 4 (length content)))

  pub kind_back : record_kind bytes ≡ kind
  unfolding record_kind
  kind_back = rw after-size (number_back 2 kind (content ++ later) narrow)

  after-kind : drop 6 bytes ≡ content ++ later
  after-kind = sym (drop-drop 2 4 bytes) ∙ rw after-size (drop_at (little_bytes 2 kind) _ 2 (length-little 2 kind))

  pub payload_back : payload bytes ≡ content
  unfolding payload
  payload_back = rw (length_back, after-kind) (take_at content later (length content) refl)

  pub rest_back : rest bytes ≡ later
  unfolding rest
  rest_back = rw length_back (sym (drop-drop (length content) 6 bytes) ∙ rw after-kind (drop_at content later (length content) refl))

  length-bytes : length bytes ≡ 6 + length content + length later
  unfolding record_bytes
  length-bytes = simp (length-append, length-little) (omega arith)

  pub whole_back : whole_record bytes ≡ true
  unfolding whole_record
  whole_back =
      let held : 6 + length content ≤ length bytes = omega (arith, length-bytes) in
      let six : 6 ≤ length bytes = omega arith in
      rw (length_back, le-leb 6 (length bytes) six, le-leb (6 + length content) (length bytes) held)

-- A record that is whole: its length and kind are those that were read, and its payload with what follows is the rest.
module _ (bytes : List ℕ) (low : Below 256 bytes) (whole : whole_record bytes ≡ true) where
  room : 6 + record_length bytes ≤ length bytes
  room = omega (arith, whole_room bytes 0 whole)

  pub length-payload : length (payload bytes) ≡ record_length bytes
  unfolding payload
  length-payload = length-take-le (record_length bytes) (drop 6 bytes) (rw length-drop (omega (arith, room)))

  behind : payload bytes ++ rest bytes ≡ drop 6 bytes
  unfolding payload rest
  behind = rw (← drop-drop (record_length bytes) 6 bytes) (take-append-drop (record_length bytes) (drop 6 bytes))

  length-bytes_back : little_bytes 4 (record_length bytes) ≡ take 4 bytes
  unfolding record_length
  length-bytes_back = bytes_back 4 bytes low (omega (arith, room))

  pub kind-bytes_back : little_bytes 2 (record_kind bytes) ≡ take 2 (drop 4 bytes)
  unfolding record_kind
  kind-bytes_back = bytes_back 2 (drop 4 bytes) (below-drop 4 bytes low) (rw length-drop (omega (arith, room)))

  pub record_back : record_bytes (record_kind bytes) (payload bytes) ++ rest bytes ≡ bytes
  unfolding record_bytes
  record_back =
      rw (length-payload, length-bytes_back, kind-bytes_back, append_assoc (take 4 bytes ++ take 2 (drop 4 bytes)) (payload bytes) (rest bytes), behind, ← take-add 4 2 bytes)
      (take-append-drop 6 bytes)
