-- A lent area that is filled from its start with m new numbers, one place after another: the new ones so far, then what was there.
use Prim.Native.Nat.{ℕ, ◌+◌, ◌≤◌, ◌<◌}
use mathlib.Core.List.{List, ◌++◌}
use mathlib.Core.Path.{◌≡◌, refl, ◌∙◌}
use native.Mathlib.Nat.{zero-add}
use native.Mathlib.Numerals.{add-one}
use native.Mathlib.Omega.{arith}
use lib.ListN.{length, take, drop, get_or, set, length-set}
use lib.Seq.{paste-suc, take-length}
use Rattle.definitions.specs.Questions.{pass}
use Rattle.definitions.specs.Services.{filled}

-- After k places are written.
pub record Filling {A : Type 0} (new before area : List A) (m k : ℕ) : Type 0 where
  pub size : length new ≡ m
  pub room : m ≤ length before
  pub same : length area ≡ length before
  pub count : k ≤ m
  pub holds : area ≡ take k new ++ drop k before

module _ {A : Type 0} {new before : List A} {m : ℕ} where
  pub none_yet : length new ≡ m → m ≤ length before → Filling new before before m 0
  none_yet size room = record { size = size; room = room; same = refl; count = omega arith; holds = refl }

  pub one_more : {area : List A} {k : ℕ} (value other : A) → Filling new before area m k → k < m → value ≡ get_or new k other → Filling new before (set area k value) m (k + 1)
  one_more {area} {k} value other f h e =
      let held : 0 + k < length before = omega arith in
      let due : k < length new = omega arith in
      record {
        size = f.size;
        room = f.room;
        same = length-set area k value ∙ f.same;
        count = omega arith;
        holds = rw (f.holds, e, add-one) (simp zero-add at (paste-suc before 0 new k other held due));
      }

  pub all_written : {area : List A} {k : ℕ} → Filling new before area m k → m ≤ k → area ≡ filled pass new before
  all_written {area} {k} f h =
      let all : k ≡ length new = omega arith in
      f.holds ∙ rw (all, take-length)
