-- A test that every known row asks of every known stage may be asked once.
use mathlib.Core.Path.{◌≡◌}
use Prim.Native.Nat.{ℕ, ◌<◌}
use mathlib.Core.Bool.{Bool, true, not, ◌&&◌, ◌||◌}
use lib.Dec.{T}
use lib.Ieee.Fits.{and_i, and_l, and_r}
use Rattle.exact.proofs.Bools.{same_truth, if_in, if_out}
use Rattle.definitions.specs.Numbers.{all}
use Rattle.steps.proofs.All.{each_below, every_below}

module _ (n : ℕ) (known once : ℕ → Bool) (more : ℕ → ℕ → Bool) (rest : ℕ → Bool) where
  ask_once : ℕ → Bool
  ask_once l = not (known l) || once l

  ask_more : ℕ → ℕ → Bool
  ask_more i l = not (known l) || more i l

  ask-row : ℕ → Bool
  ask-row i = not (known i) || (all (ask_more i) 0 n && rest i)

  ask-both : ℕ → ℕ → Bool
  ask-both i l = not (known l) || (once l && more i l)

  ask-whole : ℕ → Bool
  ask-whole i = not (known i) || (all (ask-both i) 0 n && rest i)

  whole_of_parts : T (all ask_once 0 n && all ask-row 0 n) → T (all ask-whole 0 n)
  unfolding ask_once ask_more ask-row ask-both ask-whole
  whole_of_parts t =
      every_below n ask-whole (λ i l. if_in (known i) (all (ask-both i) 0 n && rest i) (λ k.
      let r = if_out (known i) (all (ask_more i) 0 n && rest i) (each_below n ask-row (and_r (all ask_once 0 n) (all ask-row 0 n) t) i l) k in
      and_i (all (ask-both i) 0 n) (rest i)
      (every_below n (ask-both i) (λ j m. if_in (known j) (once j && more i j) (λ e.
      and_i (once j) (more i j)
      (if_out (known j) (once j) (each_below n ask_once (and_l (all ask_once 0 n) (all ask-row 0 n) t) j m) e)
      (if_out (known j) (more i j) (each_below n (ask_more i) (and_l (all (ask_more i) 0 n) (rest i) r) j m) e))))
      (and_r (all (ask_more i) 0 n) (rest i) r)))

  parts_of_whole : T (all ask-whole 0 n) → T (all ask_once 0 n && all ask-row 0 n)
  unfolding ask_once ask_more ask-row ask-both ask-whole
  parts_of_whole t =
      and_i (all ask_once 0 n) (all ask-row 0 n)
      (every_below n ask_once (λ l m. if_in (known l) (once l) (λ e. and_l (once l) (more l l) (asked l l m m e e))))
      (every_below n ask-row (λ i l. if_in (known i) (all (ask_more i) 0 n && rest i) (λ k.
      and_i (all (ask_more i) 0 n) (rest i)
      (every_below n (ask_more i) (λ j m. if_in (known j) (more i j) (λ e. and_r (once j) (more i j) (asked i j l m k e))))
      (and_r (all (ask-both i) 0 n) (rest i) (row i l k)))))
    where
      row : (i : ℕ) → i < n → known i ≡ true → T (all (ask-both i) 0 n && rest i)
      row i l k = if_out (known i) (all (ask-both i) 0 n && rest i) (each_below n ask-whole t i l) k

      asked : (i j : ℕ) → i < n → j < n → known i ≡ true → known j ≡ true → T (once j && more i j)
      asked i j l m k e = if_out (known j) (once j && more i j) (each_below n (ask-both i) (and_l (all (ask-both i) 0 n) (rest i) (row i l k)) j m) e

  pub asked_once :
      (all (λ l. not (known l) || once l) 0 n && all (λ i. not (known i) || (all (λ l. not (known l) || more i l) 0 n && rest i)) 0 n)
      ≡ all (λ i. not (known i) || (all (λ l. not (known l) || (once l && more i l)) 0 n && rest i)) 0 n
  unfolding ask_once ask_more ask-row ask-both ask-whole
  asked_once = same_truth (all ask_once 0 n && all ask-row 0 n) (all ask-whole 0 n) whole_of_parts parts_of_whole
