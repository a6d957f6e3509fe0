-- A loop over the stages that marks those with q: the stages before i have been looked at, and what was marked with p stays marked.
use mathlib.Core.Path.{◌≡◌, sym, ap, ◌∙◌}
use mathlib.Core.Bool.{Bool, true, false, ◌&&◌, ◌||◌, or-true, or-false}
use Prim.Native.Nat.{ℕ, ◌+◌, ◌≤◌, ◌<◌}
use native.Mathlib.Omega.{arith}
use lib.Dec.{ltb}
use lib.ListN.{length, get_or, set, replicate, length-set, get_or-replicate}
use lib.Seq.{get_or-set_same, get_or-set_other}
use borrow.Author.Tests.{lt-ltb, le-ltb}
use Rattle.exact.proofs.Cases.{by_bool, by_equal, by_order}
use Rattle.marks.specs.declared.Marks.{Marks}
use Rattle.marks.specs.Marks.{is_marked, Marked}
use Rattle.marks.proofs.Counts.{count_none, count_same, count_few, count_more}

pub marked_few : {p : ℕ → Bool} {m : ℕ} {marks : Marks} → Marked p m marks → marks.count ≤ m
marked_few {p} {m} h = rw h.counted (count_few p m)

pub marked_same : {p q : ℕ → Bool} {m : ℕ} {marks : Marks} → ((i : ℕ) → i < m → p i ≡ q i) → Marked p m marks → Marked q m marks
marked_same {p} {q} {m} e h = record { sized = h.sized; each = λ i l. h.each i l ∙ e i l; counted = h.counted ∙ count_same p q m e }

-- No stage is marked.
pub none-marked : {n : ℕ} {marks : Marks} → n ≤ 32 → marks.marked ≡ replicate 32 false → marks.count ≡ 0 → Marked (λ i. false) n marks
none-marked {n} l e c =
    record {
      sized = ap length e;
      each = λ i k. ap (λ m. get_or m i false) e ∙ get_or-replicate 32 i false false (omega arith);
      counted = c ∙ sym (count_none n);
    }

module _ (p q : ℕ → Bool) where
  -- What is marked before the turn at i.
  pub before : ℕ → ℕ → Bool
  before i k = p k || (ltb k i && q k)

  done_all : (n k : ℕ) → k < n → before n k ≡ (p k || q k)
  unfolding before
  done_all n k l = rw (lt-ltb k n l)

  at_turn : (i : ℕ) → before i i ≡ p i
  unfolding before
  at_turn i = rw (le-ltb i i (omega arith)) (or-false (p i))

  next-turn : (i : ℕ) → before (i + 1) i ≡ (p i || q i)
  next-turn i = done_all (i + 1) i (omega arith)

  other_turn : (i k : ℕ) → (k ≡ i → ⊥) → before i k ≡ before (i + 1) k
  unfolding before
  other_turn i k d =
      by_order i k
      (λ g. rw (le-ltb k i g, le-ltb k (i + 1) (omega arith)))
      (λ l. rw (lt-ltb k i l, lt-ltb k (i + 1) (omega arith)))

  module _ {n : ℕ} {marks : Marks} where
    pub first_stage : Marked p n marks → Marked (before 0) n marks
    unfolding before
    first_stage = marked_same (λ k l. rw (le-ltb k 0 (omega arith)) (sym (or-false (p k))))

    pub last-stage : {i : ℕ} → i ≤ n → n ≤ i → Marked (before i) n marks → Marked (λ k. p k || q k) n marks
    last-stage {i} a b = marked_same (λ k l. done_all i k (omega arith))

  module _ {n i : ℕ} {marks : Marks} (h : Marked (before i) n marks) (l : i < n) where
    pub at_stage : is_marked marks i ≡ p i
    at_stage = h.each i l ∙ at_turn i

    -- Stage i is marked already, or lacks q.
    pub leave_stage : (q i ≡ true → is_marked marks i ≡ true) → Marked (before (i + 1)) n marks
    leave_stage f =
        let covered : (p i || q i) ≡ p i = by_bool (q i) (λ t. let s : p i ≡ true = sym at_stage ∙ f t in rw s) (λ e. rw e (or-false (p i))) in
        marked_same
        (λ k b.
        by_equal k i
        (λ s. rw s (at_turn i ∙ sym (next-turn i ∙ covered)))
        (λ d. other_turn i k d))
        h

    -- Stage i is marked now.
    module _ (u : n ≤ 32) (f : is_marked marks i ≡ false) (t : q i ≡ true)
        {next : Marks} (m : next.marked ≡ set marks.marked i true) (c : next.count ≡ marks.count + 1) where
      marked_now : before (i + 1) i ≡ true
      marked_now = next-turn i ∙ rw t (or-true (p i))

      mark_each : (k : ℕ) → k < n → is_marked next k ≡ before (i + 1) k
      mark_each k b =
          ap (λ s. get_or s k false) m
          ∙ by_equal k i
          (λ s. rw s (get_or-set_same marks.marked i true false (omega (arith, h.sized)) ∙ sym marked_now))
          (λ d. get_or-set_other marks.marked i k true false d ∙ h.each k b ∙ other_turn i k d)

      pub mark_stage : Marked (before (i + 1)) n next
      mark_stage =
          record {
            sized = ap length m ∙ length-set marks.marked i true ∙ h.sized;
            each = mark_each;
            counted = c ∙ rw h.counted (sym (count_more (before i) (before (i + 1)) i n l (sym (h.each i l) ∙ f) marked_now (other_turn i)));
          }
