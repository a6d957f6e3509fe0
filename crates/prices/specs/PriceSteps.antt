-- What the steps of prices promise of a working vector, from a table x and prices c of n stages (document 02, U7).
use Rattle.std.specs.Prelude.{◌≡◌, ℕ, ◌<◌, Bool, List, Float}
use Rattle.definitions.specs.Numbers.{all}
use Rattle.definitions.specs.Prices.{request_price, price_in_range}
use Rattle.tables.specs.Vectors.{IsVector, vector}

module _ (n : ℕ) (x : ℕ → ℕ → Float) (c : ℕ → Float) where
  -- The price of each stage.
  pub record Priced (ps : List Float) : Type 0 where
    pub long : IsVector ps
    pub price : (i : ℕ) → i < n → vector ps i ≡ request_price n x c i

  -- And whether the steps are in range.
  pub record PricesGive (ok : Bool) (ps : List Float) : Type 0 where
    pub range : ok ≡ all (price_in_range n x c) 0 n
    pub prices : Priced ps
