-- Marking backwards from the exits: what is marked gets out, and once every marked stage is done all that get out are marked.
use mathlib.Core.Path.{◌≡◌, refl, sym, ◌∙◌}
use mathlib.Core.Logic.{⊎_elim}
use mathlib.Core.List.{List}
use mathlib.Core.Bool.{Bool, true, false, not, ◌&&◌, ◌||◌}
use Prim.Native.Nat.{ℕ, ◌-◌, ◌≤◌, ◌<◌, zero-le}
use native.Mathlib.Omega.{arith}
use lib.Dec.{T}
use lib.ListN.{length, get_or, set, replicate, length-set, get_or-replicate}
use lib.Seq.{get_or-set_same, get_or-set_other}
use lib.Ieee.{Float}
use lib.Ieee.Bits.{is_true}
use Rattle.exact.specs.Chains.{GetsOut, stop, go}
use Rattle.exact.proofs.Cases.{by_equal}
use Rattle.exact.proofs.Bools.{holds, contrary, same_truth, or_l, or_r, or_cases}
use Rattle.definitions.specs.Questions.{moves, leaves, gets_out}
use Rattle.steps.proofs.Trapped.{out_decided}
use Rattle.marks.specs.declared.Marks.{Marks}
use Rattle.marks.specs.Marks.{is_marked, count_of, Marked, Counted}
use Rattle.marks.proofs.Counts.{count_few, count_more, count_full}
use Rattle.marks.proofs.Marking.{marked_same}

abbrev pub is_done : List Bool → ℕ → Bool
is_done done i = get_or done i false

-- How many stages are left to do.
abbrev pub to_do : ℕ → List Bool → ℕ
to_do n done = n - count_of (is_done done) n

-- The test for the next stage: marked and not done.
pub next_waits : (a b : Bool) → (a && not b) ≡ true → (a ≡ true) × (b ≡ false)
next_waits true true e = absurd (contrary false e refl)
next_waits true false e = (refl, refl)
next_waits false b e = absurd (contrary false e refl)

pub not-next : (a b : Bool) → (a && not b) ≡ false → a ≡ true → b ≡ true
not-next true true e t = refl
not-next true false e t = absurd (contrary true refl e)
not-next false b e t = absurd (contrary false t refl)

module _ (n : ℕ) (sheet : List Float) where
  abbrev Out : ℕ → Type 0
  Out i = GetsOut 0 n (moves n sheet) (leaves n sheet) i

  -- Marked stages get out, stages with an exit are marked, and so are those that move to a stage that is done.
  pub record Reached (marks : Marks) (done : List Bool) : Type 0 where
    pub counted : Counted n marks
    pub sized : length done ≡ 32
    pub sound : (i : ℕ) → i < n → T (is_marked marks i) → Out i
    pub exits : (i : ℕ) → i < n → T (leaves n sheet i) → T (is_marked marks i)
    pub movers : (i j : ℕ) → i < n → j < n → T (is_done done j) → T (moves n sheet i j) → T (is_marked marks i)

  -- Only the stages with an exit are marked, and none is done.
  pub reached_begins : {marks : Marks} → n ≤ 32 → Marked (leaves n sheet) n marks → Reached marks (replicate 32 false)
  reached_begins few h =
      record {
        counted = marked_same (λ i l. sym (h.each i l)) h;
        sized = refl;
        sound = λ i l t. stop (rw (h.each i l) at t);
        exits = λ i l t. rw (h.each i l) t;
        movers = λ i j l k d t. absurd (rw (get_or-replicate 32 j false false (omega arith)) at d);
      }

  module _ {marks : Marks} {done : List Bool} (h : Reached marks done) where
    -- Stage j is done: all that move to it are marked.
    module _ {j : ℕ} {next : Marks} (few : n ≤ 32) (l : j < n) (w : (is_marked marks j ≡ true) × (is_done done j ≡ false))
        (g : Marked (λ i. is_marked marks i || moves n sheet i j) n next) where
      more_sound : (i : ℕ) → i < n → T (is_marked next i) → Out i
      more_sound i b t =
          ⊎_elim
          (λ m. h.sound i b m)
          (λ m. go m (record { low = zero-le; high = omega arith }) (h.sound j l (holds w.0)))
          (or_cases (is_marked marks i) (moves n sheet i j) (rw (g.each i b) at t))

      keeps : (i : ℕ) → i < n → T (is_marked marks i) → T (is_marked next i)
      keeps i b t = rw (g.each i b) (or_l (is_marked marks i) (moves n sheet i j) t)

      adds : (i : ℕ) → i < n → T (moves n sheet i j) → T (is_marked next i)
      adds i b t = rw (g.each i b) (or_r (is_marked marks i) (moves n sheet i j) t)

      now_done : is_done (set done j true) j ≡ true
      now_done = get_or-set_same done j true false (omega (arith, h.sized))

      others_done : (k : ℕ) → (k ≡ j → ⊥) → is_done (set done j true) k ≡ is_done done k
      others_done k d = get_or-set_other done j k true false d

      pub reached_turns : Reached next (set done j true)
      reached_turns =
          record {
            counted = marked_same (λ i b. sym (g.each i b)) g;
            sized = length-set done j true ∙ h.sized;
            sound = more_sound;
            exits = λ i b t. keeps i b (h.exits i b t);
            movers = λ i k b c d t.
                by_equal k j
                (λ s. adds i b (rw s at t))
                (λ f. keeps i b (h.movers i k b c (rw (others_done k f) at d) t));
          }

      pub fewer_to_do : to_do n (set done j true) < to_do n done
      fewer_to_do =
          let more = count_more (is_done done) (is_done (set done j true)) j n l w.1 now_done (λ k d. sym (others_done k d)) in
          let most = count_few (is_done (set done j true)) n in
          omega arith

    -- Marked are those that get out, if all that get out are marked.
    marked_out : ((i : ℕ) → i < n → Out i → T (is_marked marks i)) → Marked (gets_out n sheet) n marks
    marked_out f =
        marked_same
        (λ i l. same_truth (is_marked marks i) (gets_out n sheet i) (λ t. (out_decided n sheet i l).1 (h.sound i l t)) (λ t. f i l ((out_decided n sheet i l).0 t)))
        h.counted

    pub reached_all : marks.count ≡ n → Marked (gets_out n sheet) n marks
    reached_all e = marked_out (λ i l o. holds (count_full (is_marked marks) n (sym h.counted.counted ∙ e) i l))

    module _ (closed : (i : ℕ) → i < n → is_marked marks i ≡ true → is_done done i ≡ true) where
      chain_marked : (i : ℕ) → i < n → Out i → T (is_marked marks i)
      chain_marked i l (stop t) = h.exits i l t
      chain_marked i l (go {j = j} t b c) =
          let k : j < n = omega (arith, b.high) in
          h.movers i j l k (holds (closed j k (is_true (is_marked marks j) (chain_marked j k c)))) t

      pub reached_closed : Marked (gets_out n sheet) n marks
      reached_closed = marked_out chain_marked
