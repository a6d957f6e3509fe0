-- How far a solution moves when the numbers of a system move by e roundings, however badly conditioned the system is.
use Rattle.std.specs.Prelude.{◌≡◌, ◌≢◌, ℕ, ◌*◌}
use Rattle.exact.specs.Chains.{In}
use Rattle.exact.specs.Near.{Near}
use Rattle.exact.specs.Systems.{Row, Equations, Solves, AllOut}

-- Two rows of stage r: their sizes to other stages and their exits are within e roundings.
pub record NearMoves (e k m r : ℕ) (x y : Row) : Type 0 where
  pub size : (j : ℕ) → In k m j → r ≢ j → Near e (x.size j) (y.size j)
  pub exit : Near e x.exit y.exit

-- And their right sides.
pub record NearRow (e k m r : ℕ) (x y : Row) : Type 0 where
  pub moves : NearMoves e k m r x y
  pub right : Near e x.right y.right

-- Theorem: one row moves by e roundings, the solution by 2e.
unfoldable pub OneRow : Type 0
OneRow =
    (k m : ℕ) (A B : Equations) (e r c d : ℕ) (y z : ℕ → ℕ) → AllOut k m A → In k m r
    → ((i : ℕ) → In k m i → r ≢ i → A i ≡ B i)
    → NearRow e k m r (A r) (B r)
    → Solves k m A c y → Solves k m B d z
    → (i : ℕ) → In k m i → Near (2 * e) (y i * d) (z i * c)

-- Theorem: all m rows move by e roundings, the solution by 2me.
unfoldable pub AllRows : Type 0
AllRows =
    (k m : ℕ) (A B : Equations) (e c d : ℕ) (y z : ℕ → ℕ) → AllOut k m A
    → ((i : ℕ) → In k m i → NearRow e k m i (A i) (B i))
    → Solves k m A c y → Solves k m B d z
    → (i : ℕ) → In k m i → Near (2 * m * e) (y i * d) (z i * c)
