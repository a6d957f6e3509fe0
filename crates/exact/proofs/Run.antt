-- The accuracy of a run: each level by perturbation, each row by its own law.
use mathlib.Core.Path.{◌≡◌, ap, subst, subst₂}
use mathlib.Core.Logic.{◌≢◌}
use Prim.Native.Nat.{ℕ, zero, suc, ◌+◌, ◌*◌, ◌^◌, ◌≤◌, ◌<◌}
use native.Mathlib.Nat.{mul-pos, zero-add, one-mul, pow-suc, pow-zero}
use native.Mathlib.Omega.{arith}
use Rattle.exact.specs.Chains.{In}
use Rattle.exact.specs.Near.{Near}
use Rattle.exact.specs.Systems.{Equations, mix, Solves, AllOut}
use Rattle.exact.specs.Elimination.{pivot, eliminate, Back, Elimination, EliminationGetsOut, Existence}
use Rattle.exact.specs.Perturbation.{NearRow, AllRows}
use Rattle.exact.specs.Run.{Step, RightStep, SharedSteps, ColumnSteps, total, RunAccuracy, level_count, row_count, RunBound, WeightedRunBound}
use Rattle.exact.proofs.Sums.{none_in, on_range}
use Rattle.exact.proofs.Near.{near_refl, near_sym, near_trans, near_grow, near_scale, near_scale_left, near_cancel, near_through, near_add, near_sum, near_pos, pos-left}
use Rattle.exact.proofs.Systems.{mix_scale, multiplied, solves_multiplied, all_out_mono}
use Rattle.exact.proofs.Elimination.{elimination, elimination_gets_out, existence}
use Rattle.exact.proofs.Perturbation.{all-rows}

-- One level's step: the next system gets out, and multiplied by the pivot it is near the exact elimination.
module _ (e k m : ℕ) (A B : Equations) (o : AllOut k (suc m) A) (s : Step e k m A B) where
  step_out : AllOut (suc k) m B
  unfolding EliminationGetsOut eliminate
  step_out = all_out_mono (elimination_gets_out k m A o).1 move_kept exit_kept
    where
      move_kept :
          (i j : ℕ) → In (suc k) m i → In (suc k) m j → i ≢ j → 0 < (eliminate k m A i).size j → 0 < (B i).size j
      move_kept i j li lj n p = pos-left ((B i).size j) (pivot k m A) (near_pos (near_sym (s.size i j li lj n)) p)

      exit_kept : (i : ℕ) → In (suc k) m i → 0 < (eliminate k m A i).exit → 0 < (B i).exit
      exit_kept i li p = pos-left (B i).exit (pivot k m A) (near_pos (near_sym (s.exit i li)) p)

  multiplied_out : AllOut (suc k) m (λ i. multiplied (pivot k m A) (B i))
  unfolding EliminationGetsOut
  multiplied_out =
      let p = (elimination_gets_out k m A o).0 in
      all_out_mono step_out (λ i j li lj n h. mul-pos h p) (λ i li h. mul-pos h p)

  -- So its solution is near the exact elimination's.
  next_near :
      RightStep e k m A B → (b c : ℕ) (v z : ℕ → ℕ) → Solves (suc k) m B b v → Solves (suc k) m (eliminate k m A) c z
      → (i : ℕ) → In (suc k) m i → Near (2 * m * e) (v i * c) (z i * b)
  unfolding eliminate AllRows
  next_near right b c v z hv hz =
      all-rows (suc k) m scaled (eliminate k m A) e b c v z multiplied_out rows (solves_multiplied (pivot k m A) hv) hz
    where
      scaled : Equations
      scaled i = multiplied (pivot k m A) (B i)

      rows : (i : ℕ) → In (suc k) m i → NearRow e (suc k) m i (scaled i) (eliminate k m A i)
      rows i l = record { moves = record { size = λ j lj n. s.size i j l lj n; exit = s.exit i l }; right = right i l }

  -- And answers that are near its solution are near the exact elimination's.
  answers_near :
      RightStep e k m A B → (f c d : ℕ) (w z : ℕ → ℕ) → Solves (suc k) m (eliminate k m A) c z
      → ((b : ℕ) (v : ℕ → ℕ) → Solves (suc k) m B b v → (i : ℕ) → In (suc k) m i → Near f (w i * b) (v i * d))
      → (i : ℕ) → In (suc k) m i → Near (f + 2 * m * e) (w i * c) (z i * d)
  unfolding Existence
  answers_near right f c d w z hz far i l =
      let (b, v, q, hv) = existence (suc k) m B step_out in
      near_through d c (w i) (v i) (z i) q (far b v hv i l) (next_near right b c v z hv hz i l)

-- Every level's system gets out.
pub level_out :
    {level : ℕ → ℕ} {n : ℕ} {A : ℕ → Equations} {q : ℕ} → AllOut zero n (A zero) → SharedSteps level n A q
    → (k m : ℕ) → k + m ≡ n → k ≤ q → AllOut k m (A k)
level_out {A = A} o s zero m e l = subst (λ x. AllOut zero x (A zero)) (omega arith) o
level_out {level} {n} {A} o s (suc k) m e l =
    let o' = level_out o s k (suc m) (omega arith) (omega arith) in
    step_out (level (suc m)) k m (A k) (A (suc k)) o' (s.step k m (omega arith) l)

-- Row k: its answer is near, where the answers after it are.
module _
    (e f k m : ℕ) (A : Equations) (c d : ℕ) (w z : ℕ → ℕ) (p : 0 < pivot k m A) (back : Back k m A c z)
    (up : Near f (pivot k m A * w k) ((A k).right * d + mix (suc k) m (A k) w))
    (rest : (i : ℕ) → In (suc k) m i → Near e (w i * c) (z i * d)) where
  mix_near : Near e (mix (suc k) m (A k) w * c) (mix (suc k) m (A k) z * d)
  unfolding mix
  mix_near =
      rw (← (mix_scale (suc k) m (A k) w c), ← (mix_scale (suc k) m (A k) z d))
      (near_sum (λ j. (A k).size j * (w j * c)) (λ j. (A k).size j * (z j * d)) (suc k) m term)
    where
      term : (j : ℕ) → In (suc k) m j → Near e ((A k).size j * (w j * c)) ((A k).size j * (z j * d))
      term j l = near_scale_left ((A k).size j) (rest j l)

  row_near : Near (f + e) (w k * c) (z k * d)
  unfolding Back
  row_near =
      let between = (A k).right * d * c + mix (suc k) m (A k) w * c in
      let exact = (A k).right * d * c + mix (suc k) m (A k) z * d in
      let a : Near f (w k * c * pivot k m A) between = subst₂ (Near f) (omega arith) (omega arith) (near_scale c up) in
      let b : Near e between exact = near_add near_refl mix_near in
      let z-row : exact ≡ z k * d * pivot k m A = omega (arith, ap (λ x. x * d) back) in
      near_cancel p (near_trans a (rw z-row at b))

-- The levels from k on.
module _
    (level row : ℕ → ℕ) (n : ℕ) (A : ℕ → Equations) (d : ℕ) (w : ℕ → ℕ)
    (s : SharedSteps level n A n) (u : ColumnSteps level row n A d w) where
  from-level :
      (m k : ℕ) → k + m ≡ n → AllOut k m (A k) → (c : ℕ) (z : ℕ → ℕ) → Solves k m (A k) c z
      → (i : ℕ) → In k m i → Near (total level row m) (w i * c) (z i * d)
  unfolding total EliminationGetsOut Elimination
  from-level zero k e o c z h = λ i l. absurd (none_in l)
  from-level (suc m) k e o c z h =
      let e' : suc (k + m) ≡ n = omega arith in
      let f = total level row m + 2 * m * level (suc m) in
      let st = s.step k m e' (omega arith) in
      let (hz, back) = (elimination k m (A k) c z (elimination_gets_out k m (A k) o).0).0 h in
      let far = from-level m (suc k) (omega arith) (step_out (level (suc m)) k m (A k) (A (suc k)) o st) in
      let rest = answers_near (level (suc m)) k m (A k) (A (suc k)) o st (u.down k m e') (total level row m) c d w z hz far in
      let head = row_near f (row (suc m)) k m (A k) c d w z (elimination_gets_out k m (A k) o).0 back (u.up k m e') rest in
      on_range
      (λ i. Near (total level row (suc m)) (w i * c) (z i * d))
      (near_grow {e = row (suc m) + f} (omega arith) head)
      (λ i l. near_grow {e = f} (omega arith) (rest i l))

pub run_accuracy : RunAccuracy
unfolding RunAccuracy
run_accuracy level row n A c d w z o s u h i l =
    from-level level row n A d w s u n zero (zero-add n) o c z h i (omega arith)

-- The total of an engine's counts, summed up.
total-sum :
    (r a b q : ℕ)
    → 3 * total (level_count a) (row_count r b) (suc q)
    ≡ 3 * r + q * (q + 1) * (2 * q + 1) + 3 * (2 + a) * (q * (q + 1)) + 3 * (2 + b) * q
unfolding total level_count row_count
total-sum r a b zero = omega arith
total-sum r a b (suc q) = let h = total-sum r a b q in omega arith

square : (q : ℕ) → q ≤ q * q
square zero = omega arith
square (suc q) = omega arith

pub cube : (n : ℕ) → n ^ 3 ≡ n * n * n
cube n = rw (pow-suc, pow-suc, pow-suc, pow-zero, one-mul)

pub run_bound : RunBound
unfolding RunBound
run_bound zero p = omega arith
run_bound (suc q) p = omega (arith, total-sum 0 2 0 q, square q)

pub weighted_run_bound : WeightedRunBound
unfolding WeightedRunBound
weighted_run_bound zero p = omega arith
weighted_run_bound (suc q) p = omega (arith, total-sum 1 4 2 q, square q)
