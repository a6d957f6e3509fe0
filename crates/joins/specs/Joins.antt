-- The stages that are not kept, from n - 1 down, join the table f of sizes t and diagonals a.
use Rattle.std.specs.Prelude.{◌≡◌, ℕ, zero, suc, ◌-◌, Bool, ◌||◌, cond, List, Float}
use Rattle.definitions.specs.Numbers.{all}
use Rattle.tables.specs.RowMajor.{Holds}
use Rattle.joins.specs.StageJoin.{knows, joined_table, join_test}

module _ (n : ℕ) (t : ℕ → ℕ → Float) (a : ℕ → Float) (kept : ℕ → Bool) where
  -- The stage that is due once q stages are done.
  unfoldable pub due_joined : ℕ → (ℕ → ℕ → Float) → ℕ → ℕ → Float
  due_joined q f = let c = n - suc q in cond (kept c) f (joined_table n (knows c kept) c (λ l. t l c) (a c) f)

  unfoldable pub due_test : ℕ → (ℕ → ℕ → Float) → Bool
  due_test q f = let c = n - suc q in kept c || join_test n (knows c kept) (λ l. t l c) (a c) f

  pub record StageJoins (q : ℕ) (f : ℕ → ℕ → Float) (ok : Bool) (xs : List Float) : Type 0 where
    pub range : ok ≡ due_test q f
    pub holds : Holds xs (due_joined q f)

  -- The first q of them.
  unfoldable pub stages_joined : (ℕ → ℕ → Float) → ℕ → ℕ → ℕ → Float
  stages_joined f zero = f
  stages_joined f (suc q) = due_joined q (stages_joined f q)

  unfoldable pub stages_test : (ℕ → ℕ → Float) → ℕ → Bool
  stages_test f m = all (λ q. due_test q (stages_joined f q)) 0 m

  pub record StagesJoin (f : ℕ → ℕ → Float) (q : ℕ) (ok : Bool) (xs : List Float) : Type 0 where
    pub range : ok ≡ stages_test f q
    pub holds : Holds xs (stages_joined f q)
