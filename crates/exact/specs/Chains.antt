-- Chains of moves between stages (document 01, question 9). The stages are the m numbers from k on.
use Rattle.std.specs.Prelude.{ℕ, zero, suc, ◌+◌, ◌≤◌, ◌<◌, Bool, false, ◌&&◌, ◌||◌, ◌↔◌, T}

pub record In (k m i : ℕ) : Type 0 where
  pub low : k ≤ i
  pub high : i < k + m

-- A chain of moves, the empty chain included, leads from i to a stage with an exit.
pub data GetsOut (k m : ℕ) (move : ℕ → ℕ → Bool) (exit : ℕ → Bool) : ℕ → Type 0 where
  stop : {i : ℕ} → T (exit i) → GetsOut k m move exit i
  go : {i j : ℕ} → T (move i j) → In k m j → GetsOut k m move exit j → GetsOut k m move exit i

-- p at some of the m numbers from k on.
unfoldable pub any : (ℕ → Bool) → ℕ → ℕ → Bool
any p k zero = false
any p k (suc m) = any p k m || p (k + m)

-- An exit within q moves: the form that computes.
unfoldable pub out_within : ℕ → ℕ → (ℕ → ℕ → Bool) → (ℕ → Bool) → ℕ → ℕ → Bool
out_within k m move exit zero i = exit i
out_within k m move exit (suc q) i = out_within k m move exit q i || any (λ j. move i j && out_within k m move exit q j) k m

-- Theorem: among m stages, m moves are enough.
unfoldable pub WithinDecidesChains : Type 0
WithinDecidesChains =
    (k m : ℕ) (move : ℕ → ℕ → Bool) (exit : ℕ → Bool) (i : ℕ)
    → In k m i → (T (out_within k m move exit m i) ↔ GetsOut k m move exit i)
