-- From whole numbers to the accuracy rule: what is to be shown of a matrix and a table in whole numbers, so that the rule
-- over signed fractions follows.
use Rattle.std.specs.Prelude.{◌≡◌, Bool, not, cond, ℕ, suc, ◌+◌, ◌*◌, ◌<◌, max, T, eqb, ℤ, pos, negsuc, Float}
use Rattle.std.proofs.Math.Nat.{le-max_left}
use Rattle.exact.specs.Near.{Near}
use Rattle.exact.specs.Sums.{sum}
use Rattle.exact.specs.Systems.{Equations, diag, Solves, AllOut, with_right}
use Rattle.definitions.specs.Numbers.{units}
use Rattle.definitions.specs.Fractions.{Fraction}
use Rattle.definitions.specs.Matrix.{Stage, every_stage}
use Rattle.definitions.specs.Accuracy.{Within, OnlyInverse, extended, Accurate}
use Rattle.rounding.specs.Good.{Good, one·units}

-- An integer is the difference of its two parts.
abbrev pub plus_part : ℤ → ℕ
plus_part (pos n) = n
plus_part (negsuc n) = 0

abbrev pub minus_part : ℤ → ℕ
minus_part (pos n) = 0
minus_part (negsuc n) = suc n

-- x = (p − q)/d, multiplied across.
pub record Ratio (x : Fraction) (p q d : ℕ) : Type 0 where
  pub across : plus_part x.num * d + q * x.den ≡ p * x.den + minus_part x.num * d

-- c where i = j, and 0 elsewhere.
abbrev pub delta : ℕ → ℕ → ℕ → ℕ
delta i j c = cond (eqb i j) c 0

-- Row i of the matrix, multiplied by c_i: −t_ij off the diagonal and a_i − t_ii on it. Any t_ii will do, with its a_i.
pub record RowForm (n : ℕ) (A : ℕ → ℕ → Fraction) (a : ℕ → ℕ) (t : ℕ → ℕ → ℕ) (c : ℕ → ℕ) : Type 0 where
  pub positive : (i : ℕ) → i < n → 0 < c i
  pub entry : (i j : ℕ) → i < n → j < n → Ratio (A i j) (delta i j (a i)) (t i j) (c i)

-- For each column j a vector z_j over the denominator Z_j, whose image under row i is c_i where i = j, and 0 elsewhere.
pub record Columns
    (n : ℕ) (on : ℕ → Bool) (a : ℕ → ℕ) (t : ℕ → ℕ → ℕ) (c : ℕ → ℕ) (Z : ℕ → ℕ) (z : ℕ → ℕ → ℕ) : Type 0 where
  pub positive : (j : ℕ) → Stage n on j → 0 < Z j
  pub row :
      (i j : ℕ) → Stage n on i → Stage n on j
      → a i * z j i ≡ delta i j (c i) * Z j + sum (λ k. t i k * z j k) 0 n

-- Vectors with equal images are equal; each term stands on the side where it is added.
unfoldable pub Regular : ℕ → (ℕ → Bool) → (ℕ → ℕ) → (ℕ → ℕ → ℕ) → Type 0
Regular n on a t =
    (p q : ℕ → ℕ)
    → ((i : ℕ) → Stage n on i → a i * p i + sum (λ k. t i k * q k) 0 n ≡ a i * q i + sum (λ k. t i k * p k) 0 n)
    → (i : ℕ) → Stage n on i → p i ≡ q i

-- No size leads from a stage that takes part to one that does not.
unfoldable pub Apart : ℕ → (ℕ → Bool) → (ℕ → ℕ → ℕ) → Type 0
Apart n on t = (i j : ℕ) → Stage n on i → j < n → T (not (on j)) → t i j ≡ 0

-- z/d, for a positive d.
abbrev pub fraction : ℕ → ℕ → Fraction
fraction z d = record { num = pos z; den = max 1 d; positive = le-max_left 1 d }

-- Theorem: the matrix of the z_ji / Z_j is the one inverse.
unfoldable pub InverseReduction : Type 0
InverseReduction =
    (n : ℕ) (on : ℕ → Bool) (A : ℕ → ℕ → Fraction)
    (a : ℕ → ℕ) (t : ℕ → ℕ → ℕ) (c : ℕ → ℕ) (Z : ℕ → ℕ) (z : ℕ → ℕ → ℕ)
    → RowForm n A a t c
    → Apart n on t
    → Columns n on a t c Z z
    → Regular n on a t
    → OnlyInverse n on A (λ i j. fraction (z j i) (Z j))

-- A number x beside a fraction y, in whole numbers: y is z/d, and x is good and within E roundings of it.
pub record NearFraction (E : ℕ) (x : Float) (y : Fraction) : Type 0 where
  pub z : ℕ
  pub d : ℕ
  pub positive : 0 < d
  pub ratio : Ratio y z 0 d
  pub good : Good x
  pub near : Near E (units x * d) (z * one·units)

-- Theorem: the rule's words hold of it.
unfoldable pub EntryReduction : Type 0
EntryReduction = (E : ℕ) (x : Float) (y : Fraction) → NearFraction E x y → Within E x y

-- A table of such numbers beside the rule's y, from the one inverse X.
pub record NearInverse (n : ℕ) (on : ℕ → Bool) (E : ℕ) (A : ℕ → ℕ → Fraction) (x : ℕ → ℕ → Float) : Type 0 where
  pub X : ℕ → ℕ → Fraction
  pub exact : OnlyInverse n on A X
  pub entry : (i j : ℕ) → i < n → j < n → NearFraction E (x i j) (extended on X i j)

-- Theorem: the rule holds of it.
unfoldable pub TableReduction : Type 0
TableReduction = (n : ℕ) (on : ℕ → Bool) (E : ℕ) (A : ℕ → ℕ → Fraction) (x : ℕ → ℕ → Float) → NearInverse n on E A x → Accurate n on E A x

-- Each number of the table is good, and within E roundings of z_ji / Z_j.
pub record NearTable (n E : ℕ) (x : ℕ → ℕ → Float) (Z : ℕ → ℕ) (z : ℕ → ℕ → ℕ) : Type 0 where
  pub good : (i j : ℕ) → i < n → j < n → Good (x i j)
  pub near : (i j : ℕ) → i < n → j < n → Near E (units (x i j) * Z j) (z j i * one·units)

-- Theorem: where every stage takes part, these are such numbers.
unfoldable pub Reduction : Type 0
Reduction =
    (n E : ℕ) (A : ℕ → ℕ → Fraction) (x : ℕ → ℕ → Float)
    (a : ℕ → ℕ) (t : ℕ → ℕ → ℕ) (c : ℕ → ℕ) (Z : ℕ → ℕ) (z : ℕ → ℕ → ℕ)
    → RowForm n A a t c
    → Columns n every_stage a t c Z z
    → Regular n every_stage a t
    → NearTable n E x Z z
    → NearInverse n every_stage E A x

-- The columns as solutions of one system, whose right side is column j of the identity, times c_i.
pub record SystemColumns (n : ℕ) (S : Equations) (c : ℕ → ℕ) (Z : ℕ → ℕ) (z : ℕ → ℕ → ℕ) : Type 0 where
  pub positive : (j : ℕ) → j < n → 0 < Z j
  pub solves : (j : ℕ) → j < n → Solves 0 n (with_right S (λ i. delta i j (c i))) (Z j) (z j)

-- Theorem: the one inverse over the stages that take part, from a system that gets out and whose unknowns are divided by weights x: its
-- sizes are t_ij x_j. What the system has in the rows of the other stages does not matter.
unfoldable pub SystemInverse : Type 0
SystemInverse =
    (n : ℕ) (on : ℕ → Bool) (A : ℕ → ℕ → Fraction) (S : Equations) (t : ℕ → ℕ → ℕ) (x : ℕ → ℕ)
    (a : ℕ → ℕ) (c : ℕ → ℕ) (Z : ℕ → ℕ) (z : ℕ → ℕ → ℕ)
    → ((j : ℕ) → j < n → 0 < x j)
    → ((i j : ℕ) → (S i).size j ≡ t i j * x j)
    → RowForm n A a (λ i j. t i j * x i) (λ i. c i * x i)
    → ((i : ℕ) → Stage n on i → diag 0 n (S i) ≡ a i)
    → Apart n on t
    → AllOut 0 n S
    → SystemColumns n S c Z z
    → OnlyInverse n on A (λ i j. fraction (z j i * x i) (Z j))
