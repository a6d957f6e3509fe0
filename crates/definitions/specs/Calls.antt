-- Calls to try of a service that is lent a sheet and an area: lines with what each call answers and leaves, one claim about all lines
-- of a list, and sheets, numbers and areas that several lists have.
use Rattle.std.specs.Prelude.{ℕ, ◌-◌, ◌^◌, List, [], ◌∷◌, map, ◌≡◌, ℤ, pos, length, Float}
use Rattle.definitions.specs.Services.{Answer, given, refused}
use Rattle.definitions.specs.Starred.{num, minus}

-- What a call answers, with the area after it.
pub record Outcome (A : Type 0) : Type 0 where
  pub answers : Answer A
  pub area : List Float

-- A call: the sheet, what else is handed over, the area before it; and what comes of it.
pub record Line (B A : Type 0) : Type 0 where
  pub reading : ℕ
  pub n : ℕ
  pub e : ℤ
  pub sheet : List Float
  pub beside : B
  pub area : List Float
  pub expected : Outcome A

-- A service: what it answers where the area is so long, and what it leaves in the area.
pub record Service (B A : Type 0) : Type 0 where
  pub answers : ℕ → ℕ → ℤ → List Float → B → ℕ → Answer A
  pub leaves : ℕ → ℕ → ℤ → List Float → B → List Float → List Float

module _ {B A : Type 0} where
  unfoldable pub outcome : Service B A → Line B A → Outcome A
  outcome service line =
      record {
        answers = service.answers line.reading line.n line.e line.sheet line.beside (length line.area);
        area = service.leaves line.reading line.n line.e line.sheet line.beside line.area;
      }

  unfoldable pub Claim : Service B A → List (Line B A) → Type 0
  Claim service lines = map (outcome service) lines ≡ map (λ line. line.expected) lines

  -- A sheet in seconds, and one in another unit.
  abbrev pub line : ℕ → ℕ → List Float → B → List Float → Outcome A → Line B A
  line reading n sheet beside area expected =
      record { reading = reading; n = n; e = pos 0; sheet = sheet; beside = beside; area = area; expected = expected }

  abbrev pub in_unit : ℤ → Line B A → Line B A
  in_unit e line =
      record { reading = line.reading; n = line.n; e = e; sheet = line.sheet; beside = line.beside; area = line.area; expected = line.expected }

-- An accepted call, what it hands over and the area that it leaves, and a refused one, which leaves the area as it was.
abbrev pub gives : {A : Type 0} → A → List Float → Outcome A
gives value after = record { answers = given value; area = after }

abbrev pub refuses : {A : Type 0} → ℕ → ℕ → ℕ → List Float → Outcome A
refuses number row column area = record { answers = refused number row column; area = area }

-- Places before a call.
abbrev pub one : List Float
one = num 7 ∷ []

abbrev pub three : List Float
three = num 7 ∷ num 8 ∷ num 9 ∷ []

-- One stage, with an area of one place.
abbrev pub single : {B A : Type 0} → ℕ → Float → B → Outcome A → Line B A
single reading number beside expected = line reading 1 (number ∷ []) beside one expected

-- Sheet P of document 01.
abbrev pub P : List Float
P = num 1 ∷ minus (num 1) ∷ minus (num 1) ∷ num 0 ∷ []

-- One column in range, the table not: 1 / 2^1022 is a step of the second column alone.
abbrev pub edge : List Float
edge = num 1 ∷ num 0 ∷ num 0 ∷ num (2 ^ 1022) ∷ []

-- The largest finite number.
abbrev pub most : Float
most = num (2 ^ 1024 - 2 ^ 971)
