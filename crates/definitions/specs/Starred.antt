-- Sheets to try (document 01, the section of that name): one list of the lines marked *, and one claim about all lines of a list.
use Rattle.std.specs.Prelude.{ℕ, ◌+◌, ◌-◌, ◌*◌, ◌^◌, false, List, [], ◌∷◌, map, ◌≡◌, ℤ, pos, negsuc, Float}
use Rattle.std.specs.Float.{nan, binary64}
use Rattle.std.specs.Float.Ieee.{round, neg, of_bits}
use Rattle.definitions.specs.Sheet.{allowance}
use Rattle.definitions.specs.Questions.{table_questions}
use Rattle.definitions.specs.Services.{Answer, given, refused, answer, table}

-- A sheet, and what the whole table's call answers where the answer area has room.
pub record Table : Type 0 where
  pub allowed : ℕ
  pub numbers : List Float

pub record Line : Type 0 where
  pub reading : ℕ
  pub n : ℕ
  pub e : ℤ
  pub sheet : List Float
  pub expected : Answer Table

unfoldable pub outcome : Line → Answer Table
outcome line =
    let numbers = table line.reading line.n line.sheet in
    answer (table_questions line.reading line.n line.e line.sheet (line.n * line.n))
    (record { allowed = allowance line.reading line.n; numbers = numbers })

unfoldable pub Claim : List Line → Type 0
Claim lines = map outcome lines ≡ map (λ line. line.expected) lines

-- How numbers are written here: a whole number, a quotient, and its negative.
abbrev pub num : ℕ → Float
num a = round binary64 false a 1

abbrev pub quo : ℕ → ℕ → Float
quo a b = round binary64 false a b

abbrev pub minus : Float → Float
minus x = neg x

abbrev pub word : ℕ → Float
word bits = of_bits binary64 bits

-- A sheet in seconds, and one in another unit.
abbrev pub line : ℕ → ℕ → List Float → Answer Table → Line
line reading n sheet expected = record { reading = reading; n = n; e = pos 0; sheet = sheet; expected = expected }

abbrev pub in_unit : ℤ → Line → Line
in_unit e line = record { reading = line.reading; n = line.n; e = e; sheet = line.sheet; expected = line.expected }

abbrev pub gives : ℕ → List Float → Answer Table
gives allowed numbers = given (record { allowed = allowed; numbers = numbers })

-- The sheets marked *; B and D as document 02, U3 has them.
unfoldable pub starred : List Line
starred =
    -- A, B
    line 1 1 (num 2 ∷ []) (gives 4 (quo 1 2 ∷ []))
    ∷ line 1 1 (num 0 ∷ []) (gives 4 (num 0 ∷ []))
    -- P, C, D
    ∷ line 1 2 (num 1 ∷ minus (num 1) ∷ minus (num 1) ∷ num 0 ∷ []) (gives 32 (num 1 ∷ num 1 ∷ num 1 ∷ num 2 ∷ []))
    ∷ line 1 2 (num 0 ∷ minus (num 1) ∷ minus (num 1) ∷ num 0 ∷ []) (refused 9 1 0)
    ∷ line 1 2 (num 1 ∷ num 0 ∷ num 0 ∷ num 0 ∷ []) (gives 32 (num 1 ∷ num 0 ∷ num 0 ∷ num 0 ∷ []))
    -- E, F
    ∷ line 1 1 (num (2 ^ 1021) ∷ []) (gives 4 (quo 1 (2 ^ 1021) ∷ []))
    ∷ line 1 1 (num (2 ^ 1022) ∷ []) (refused 10 0 0)
    -- G, H, I
    ∷ line 2 1 (num 0 ∷ []) (refused 7 1 1)
    ∷ line 2 2 (num 3 ∷ minus (num 1) ∷ minus (num 4) ∷ num 1 ∷ []) (gives 96 (quo 1 2 ∷ quo 1 4 ∷ num 1 ∷ num 1 ∷ []))
    ∷ line 2 2 (num 2 ∷ num 0 ∷ minus (num 1) ∷ num 4 ∷ []) (gives 96 (quo 1 2 ∷ num 0 ∷ quo 1 8 ∷ quo 1 4 ∷ []))
    -- J
    ∷ line 1 2 (num 1 ∷ nan ∷ num 5 ∷ num 1 ∷ []) (refused 6 1 2)
    ∷ []

-- W, of reading 3 (document 02, U10): [2, −1 | −1, 1.5] and the weights 1 and 2, so that A is [4, −1 | −1, 1.25].
unfoldable pub sheet_w : List Float
sheet_w = num 2 ∷ minus (num 1) ∷ minus (num 1) ∷ quo 3 2 ∷ num 1 ∷ num 2 ∷ []

-- Further sheets, each of which tells the documents from a near misreading.
unfoldable pub further : List Line
further =
    -- each question is asked of the whole sheet before the next: 6 before 7, 7 before 9
    line 1 2 (num 5 ∷ num 1 ∷ nan ∷ num 1 ∷ []) (refused 6 2 1)
    ∷ line 1 2 (num 0 ∷ num 1 ∷ num 0 ∷ num 0 ∷ []) (refused 7 1 2)
    -- the same numbers in every unit; 12 after 2 and before 3
    ∷ in_unit (pos 512) (line 1 1 (num 2 ∷ []) (gives 4 (quo 1 2 ∷ [])))
    ∷ in_unit (negsuc 511) (line 2 1 (num 2 ∷ []) (gives 12 (quo 1 2 ∷ [])))
    ∷ in_unit (pos 513) (line 1 33 [] (refused 2 0 0))
    ∷ in_unit (pos 513) (line 1 2 (nan ∷ []) (refused 12 0 0))
    ∷ in_unit (negsuc 512) (line 2 1 (num 2 ∷ []) (refused 12 0 0))
    -- zeros of either sign; the smallest sizes
    ∷ line 1 2 (num 1 ∷ minus (num 0) ∷ num 0 ∷ num 1 ∷ []) (gives 32 (num 1 ∷ num 0 ∷ num 0 ∷ num 1 ∷ []))
    ∷ line 2 1 (minus (num 0) ∷ []) (refused 7 1 1)
    ∷ line 1 2 (num 1 ∷ minus (quo 1 (2 ^ 1074)) ∷ num 0 ∷ num 1 ∷ []) (refused 8 1 2)
    ∷ line 1 2 (num 1 ∷ minus (quo 1 (2 ^ 1022)) ∷ num 0 ∷ num 1 ∷ []) (refused 10 0 0)
    -- idle stages (document 02, U3): row and column, the diagonal included, zeros of either sign
    ∷ line 1 2 (num 1 ∷ minus (num 1) ∷ num 0 ∷ num 0 ∷ []) (refused 9 2 0)
    ∷ line 1 1 (minus (num 0) ∷ []) (gives 4 (num 0 ∷ []))
    ∷ line 1 3 (num 2 ∷ minus (num 0) ∷ minus (num 1) ∷ num 0 ∷ minus (num 0) ∷ num 0 ∷ num 0 ∷ minus (num 0) ∷ num 4 ∷ [])
    (gives 108 (quo 1 3 ∷ num 0 ∷ word 0x3fb5555555555555 ∷ num 0 ∷ num 0 ∷ num 0 ∷ num 0 ∷ num 0 ∷ quo 1 4 ∷ []))
    -- the others' numbers go through the steps as they are: no product of a size this small is in range
    ∷ line 1 3 (num 0 ∷ num 0 ∷ num 0 ∷ num 0 ∷ num 1 ∷ minus (quo 1 (2 ^ 1022)) ∷ num 0 ∷ num 0 ∷ quo 1 (2 ^ 10) ∷ [])
    (gives 108 (num 0 ∷ num 0 ∷ num 0 ∷ num 0 ∷ num 1 ∷ quo 1 (2 ^ 1012) ∷ num 0 ∷ num 0 ∷ num (2 ^ 10) ∷ []))
    -- sheets with weights (document 02, U10), in every unit; as many numbers as that
    ∷ in_unit (negsuc 9) (line 3 2 sheet_w (gives 48 (quo 5 16 ∷ quo 1 4 ∷ quo 1 4 ∷ num 1 ∷ [])))
    ∷ line 3 1 (num 2 ∷ quo 1 2 ∷ []) (gives 6 (quo 1 4 ∷ []))
    ∷ line 3 1 (num 2 ∷ []) (refused 3 0 0)
    ∷ line 2 1 (num 2 ∷ num 1 ∷ []) (refused 3 0 0)
    ∷ line 4 1 (num 2 ∷ num 1 ∷ []) (refused 1 0 0)
    -- 6 to 8 of the weights, each of them with the whole sheet before the next; diagonals and weights positive
    ∷ line 3 1 (num 0 ∷ nan ∷ []) (refused 6 2 1)
    ∷ line 3 1 (num 0 ∷ num 1 ∷ []) (refused 7 1 1)
    ∷ line 3 1 (num 2 ∷ num 0 ∷ []) (refused 7 2 1)
    ∷ line 3 2 (num 1 ∷ num 0 ∷ num 0 ∷ num 1 ∷ num 1 ∷ minus (num 1) ∷ []) (refused 7 3 2)
    ∷ line 3 1 (num 2 ∷ quo 1 (2 ^ 1074) ∷ []) (refused 8 2 1)
    -- each product with a weight and each division by one is a step, so weights of 1 are not reading 1
    ∷ line 1 2 (num 1 ∷ minus (quo 1 (2 ^ 1022)) ∷ num 0 ∷ quo 1 (2 ^ 10) ∷ []) (gives 32 (num 1 ∷ quo 1 (2 ^ 1012) ∷ num 0 ∷ num (2 ^ 10) ∷ []))
    ∷ line 3 2 (num 1 ∷ minus (quo 1 (2 ^ 1022)) ∷ num 0 ∷ quo 1 (2 ^ 10) ∷ num 1 ∷ num 1 ∷ []) (refused 10 0 0)
    ∷ line 3 1 (num 1 ∷ num (2 ^ 1022) ∷ []) (refused 10 0 0)
    -- "above 2^-1022" is asked of the rounded result
    ∷ line 1 2 (quo (2 ^ 52 + 1) (2 ^ 552) ∷ minus (num 1) ∷ minus (quo (2 ^ 53 - 1) (2 ^ 575)) ∷ num 1 ∷ []) (refused 10 0 0)
    ∷ line 1 1 (num (2 ^ 1022 - 2 ^ 969) ∷ []) (gives 4 (word 0x0010000000000001 ∷ []))
    -- d_j / a_j is taken for each j above some kept i, and for no other
    ∷ line 2 3 (num 1 ∷ num 0 ∷ minus (num 1) ∷ num 0 ∷ quo 1 (2 ^ 1022) ∷ minus (num 1) ∷ num 0 ∷ num 0 ∷ num 1 ∷ []) (refused 10 0 0)
    ∷ line 2 2 (quo 1 (2 ^ 1022) ∷ minus (num 1) ∷ num 0 ∷ num 1 ∷ []) (gives 96 (num 1 ∷ num 1 ∷ num 0 ∷ num 1 ∷ []))
    -- leaving rates over every j > i, kept or not
    ∷ line 2 2 (num 3 ∷ minus (num 1) ∷ num 0 ∷ num 1 ∷ []) (gives 96 (quo 1 4 ∷ quo 1 4 ∷ num 0 ∷ num 1 ∷ []))
    -- a single kept stage goes through the steps
    ∷ line 2 2 (num 1 ∷ minus (num 5) ∷ num 0 ∷ num 1 ∷ [])
    (gives 96 (word 0x3fc5555555555556 ∷ word 0x3feaaaaaaaaaaaac ∷ num 0 ∷ num 1 ∷ []))
    -- t·(d/a), not (t·d)/a
    ∷ line 2 2 (num 4 ∷ minus (num 3) ∷ minus (num 1) ∷ num 1 ∷ [])
    (gives 96 (word 0x3fca1f58d0fac689 ∷ word 0x3fdb6db6db6db6dd ∷ word 0x3fc2492492492493 ∷ num 1 ∷ []))
    -- t/a, not t·(1/a)
    ∷ line 2 2 (num 5 ∷ num 0 ∷ minus (num 3) ∷ num 1 ∷ [])
    (gives 96 (word 0x3fc999999999999a ∷ num 0 ∷ word 0x3fe3333333333333 ∷ num 1 ∷ []))
    -- sums over known stages rise in j, whatever order they joined in
    ∷ line 2 4 (num 1 ∷ num 0 ∷ num 0 ∷ num 0
    ∷ minus (num 7) ∷ num 3 ∷ num 0 ∷ minus (num 3)
    ∷ minus (num 7) ∷ num 0 ∷ num 4 ∷ num 0
    ∷ minus (num 3) ∷ minus (num 5) ∷ minus (num 5) ∷ num 7 ∷ [])
    (gives 768 (num 1 ∷ num 0 ∷ num 0 ∷ num 0
    ∷ word 0x4003618618618619 ∷ word 0x3fccf3cf3cf3cf3d ∷ word 0x3fb6db6db6db6db8 ∷ word 0x3fb2492492492493
    ∷ word 0x3ffc000000000000 ∷ num 0 ∷ word 0x3fd0000000000000 ∷ num 0
    ∷ word 0x4004186186186185 ∷ word 0x3fbe79e79e79e79f ∷ word 0x3fc6db6db6db6db6 ∷ word 0x3fc2492492492492 ∷ []))
    ∷ []
