-- Two moves are one.
use Prim.Native.Nat.{ℕ, ◌*◌, ◌≤◌}
use mathlib.Core.List.{List, [], ◌∷◌, ◌++◌, map}
use mathlib.Core.Path.{◌≡◌, refl, sym, ap, ap₂, ◌∙◌, subst}
use lib.Dec.{T}
use lib.IntN.{ℤ, ◌+ℤ◌, +ℤ_assoc}
use lib.ListN.{length, get_or, take, drop}
use lib.Seq.{take_at, drop_at}
use lib.Ieee.{Float, nan}
use Rattle.definitions.specs.Questions.{pass, exponent_in_range}
use Rattle.definitions.specs.Services.{given, filled}
use Rattle.definitions.specs.Moving.{times_power, has_room, rates_have_room, move_answer, moved_sheet, moved_area}
use Rattle.rounding.proofs.TimesPower.{times-power_twice}
use Rattle.steps.proofs.All.{all-below}
use Rattle.commuting.specs.Commuting.{Moved, TwoMovesAreOne}
use Rattle.commuting.proofs.Moves.{PassedMove, passes_again, rates_length, passed, unit_is, rates_are_held, sheet_is, rate_is}

rates_twice : (a b : ℤ) (rates : List Float) → map (λ number. times_power b number) (map (λ number. times_power a number) rates) ≡ map (λ number. times_power (a +ℤ b) number) rates
rates_twice a b [] = refl
rates_twice a b (x ∷ xs) = ap₂ (λ y ys. y ∷ ys) (times-power_twice a b x) (rates_twice a b xs)

sheet_twice : (n : ℕ) (a b : ℤ) (sheet : List Float) → n * n ≤ length sheet → moved_sheet n b (moved_sheet n a sheet) ≡ moved_sheet n (a +ℤ b) sheet
unfolding moved_sheet
sheet_twice n a b sheet h =
    let rates = map (λ number. times_power a number) (take (n * n) sheet) in
    let few = rates_length n a sheet h in
    rw (take_at rates (drop (n * n) sheet) (n * n) few, drop_at rates (drop (n * n) sheet) (n * n) few) (ap (λ new. new ++ drop (n * n) sheet) (rates_twice a b (take (n * n) sheet)))

module _ {reading n : ℕ} {e : ℤ} {sheet : List Float} {a e' : ℤ} {sheet' : List Float} {b e'' : ℤ} {sheet'' : List Float}
    (first : Moved reading n e sheet a e' sheet') (second : Moved reading n e' sheet' b e'' sheet'') where
  unit_twice : e' +ℤ b ≡ e +ℤ (a +ℤ b)
  unit_twice = ap (λ u. u +ℤ b) (unit_is first) ∙ +ℤ_assoc e a b

  room_twice : rates_have_room n b sheet' ≡ rates_have_room n (a +ℤ b) sheet
  unfolding rates_have_room
  room_twice =
      all-below {n = n * n} (λ at. has_room (times_power b (get_or sheet' at nan))) (λ at. has_room (times_power (a +ℤ b) (get_or sheet at nan)))
      (λ at l. ap has_room (ap (times_power b) (rate_is first at l) ∙ times-power_twice a b (get_or sheet at nan)))

  pub single : T (exponent_in_range (a +ℤ b)) → PassedMove reading n e sheet (a +ℤ b)
  single t =
      record {
        shape = (passed first).shape;
        places = (passed first).places;
        exponent = t;
        unit = subst (λ u. T (exponent_in_range u)) unit_twice (passed second).unit;
        room = subst T room_twice (passed second).room;
      }

pub two-moves_are_one : TwoMovesAreOne
unfolding TwoMovesAreOne move_answer moved_area
two-moves_are_one reading n e sheet a e' sheet' b e'' sheet'' area first second room t =
    let alone = passes_again reading n e sheet (a +ℤ b) (length area) (single first second t) room in
    let again = passes_again reading n e' sheet' b (length area) (passed second) room in
    let same : moved_sheet n (a +ℤ b) sheet ≡ moved_sheet n b sheet' = sym (ap (moved_sheet n b) (sheet_is first) ∙ sheet_twice n a b sheet (rates_are_held first)) in
    (rw alone (ap given (sym (unit_is second ∙ unit_twice first second))), rw (alone, again) (ap (λ new. filled pass new area) same))
