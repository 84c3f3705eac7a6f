-- Turns made in rounds, and turns spent.
use Rattle.std.proofs.Common.{◌≡◌, ◌⊎◌, inl, inr, ℕ, suc, ◌+◌, ◌-◌, ◌*◌, ◌<◌, ◌≤◌, ◌==◌, min, List, [], ◌∷◌, length, refl, ap, subst, ◌∙◌, arith}
use Rattle.std.specs.Prelude.{Some, slice_get}
use Rattle.std.proofs.lemmas.Bool.{cases_lt}
use Rattle.std.proofs.Math.Nat.{min-eq_left, le-min}
use Rattle.std.proofs.lemmas.List.{length-append}
use Rattle.std.proofs.lemmas.List.Elements.{filter-append}
use Rattle.pop_crowd.specs.declared.crowd.Meeting.{Meeting}
use Rattle.run_spec.specs.declared.spec.RunSpec.{RunSpec}
use Rattle.run_picks.specs.Run.{IsRound, joined, meetings_of, made_by, turns_in}
use Rattle.run_picks.specs.WatchedRun.{IsWatchedRound, AreSpent}

pub joined_made : (w : ℕ) (r : List Meeting) (rounds : List (List Meeting)) → made_by w (joined (r ∷ rounds)) ≡ made_by w r + made_by w (joined rounds)
joined_made w r rounds = ap length (filter-append (λ (m : Meeting). m.worker == w) r (joined rounds)) ∙ length-append (meetings_of w r) (meetings_of w (joined rounds))

-- the turns of a round and those after it
pub turns_on : (turns k : ℕ) → min 4096 (turns - 4096 * k) + (turns - 4096 * (k + 1)) ≡ turns - 4096 * k
turns_on turns k = by_size (cases_lt (turns - 4096 * k) 4096)
  where
    by_size : (turns - 4096 * k < 4096) ⊎ (4096 ≤ turns - 4096 * k) → min 4096 (turns - 4096 * k) + (turns - 4096 * (k + 1)) ≡ turns - 4096 * k
    by_size (inl l) =
        let left = turns - 4096 * k in
        let most : min 4096 left ≤ left = omega arith in
        let all : left ≤ min 4096 left = (let m : left ≤ 4096 = omega (arith, l) in let n : left ≤ left = omega arith in le-min m n) in
        omega (arith, l, most, all)
    by_size (inr l) = let all = min-eq_left l in omega (arith, l, all)

module _ (spec : RunSpec) (w : ℕ) (within : w < spec.workers) where
  -- whole rounds from round k on make the turns that are left
  all_turns : (rounds : List (List Meeting)) (k : ℕ) → ((i : ℕ) (r : List Meeting) → slice_get rounds i ≡ Some r → IsRound spec (k + i + 1) r) → spec.turns ≤ 4096 * (k + length rounds) → made_by w (joined rounds) ≡ spec.turns - 4096 * k
  all_turns [] k each over = omega (arith, over)
  all_turns (r ∷ rounds) k each over =
      let first : made_by w r ≡ min 4096 (spec.turns - 4096 * k) = (each 0 r refl).each_worker w within ∙ ap (λ (n : ℕ). min 4096 (spec.turns - 4096 * n)) (let e : k + 0 + 1 - 1 ≡ k = omega arith in e) in
      let rest = all_turns rounds (k + 1) (λ i s h. subst (λ n. IsRound spec n s) (let e : k + suc i + 1 ≡ k + 1 + i + 1 = omega arith in e) (each (suc i) s h)) (omega (arith, over)) in
      joined_made w r rounds
      ∙ ap (λ (n : ℕ). n + made_by w (joined rounds)) first
      ∙ ap (λ (n : ℕ). min 4096 (spec.turns - 4096 * k) + n) rest
      ∙ turns_on spec.turns k

module _ (spec : RunSpec) (w : ℕ) where
  -- rounds from round k on in which the worker makes at most its turns
  abbrev pub HasTurns : ℕ → List (List Meeting) → Type 0
  HasTurns k rounds = (i : ℕ) (r : List Meeting) → slice_get rounds i ≡ Some r → made_by w r ≤ turns_in spec (k + i + 1)

  pub first_turns : (k : ℕ) (r : List Meeting) (rounds : List (List Meeting)) → HasTurns k (r ∷ rounds) → made_by w r ≤ min 4096 (spec.turns - 4096 * k)
  first_turns k r rounds each = subst (λ (n : ℕ). made_by w r ≤ min 4096 (spec.turns - 4096 * n)) (let e : k + 0 + 1 - 1 ≡ k = omega arith in e) (each 0 r refl)

  pub next_turns : (k : ℕ) (r : List Meeting) (rounds : List (List Meeting)) → HasTurns k (r ∷ rounds) → HasTurns (k + 1) rounds
  next_turns k r rounds each i s h = subst (λ (n : ℕ). made_by w s ≤ turns_in spec n) (let e : k + suc i + 1 ≡ k + 1 + i + 1 = omega arith in e) (each (suc i) s h)

  -- rounds from round k on have no more meetings than turns are left
  pub made_most : (k : ℕ) (rounds : List (List Meeting)) → HasTurns k rounds → made_by w (joined rounds) ≤ spec.turns - 4096 * k
  made_most k [] each = omega arith
  made_most k (r ∷ rounds) each =
      let first = first_turns k r rounds each in
      let rest = made_most (k + 1) rounds (next_turns k r rounds each) in
      let all = turns_on spec.turns k in
      let sum = joined_made w r rounds in omega (arith, first, rest, all, sum)

  made_few : (k : ℕ) (rounds : List (List Meeting)) → HasTurns k rounds → made_by w (joined rounds) ≤ 4096 * length rounds
  made_few k [] each = omega arith
  made_few k (r ∷ rounds) each =
      let first = first_turns k r rounds each in
      let few : min 4096 (spec.turns - 4096 * k) ≤ 4096 = omega arith in
      let rest = made_few (k + 1) rounds (next_turns k r rounds each) in
      let sum = joined_made w r rounds in omega (arith, first, few, rest, sum)

-- the number of rounds says whether their turns are spent, and so do the meetings of each worker
module _ (spec : RunSpec) (rounds : List (List Meeting)) where
  module _ (each : (i : ℕ) (r : List Meeting) → slice_get rounds i ≡ Some r → IsRound spec (i + 1) r) where
    pub all_spent : spec.turns ≤ 4096 * length rounds → AreSpent spec rounds
    all_spent over w within =
        all_turns spec w within rounds 0 (λ i r h. subst (λ n. IsRound spec n r) (let e : i + 1 ≡ 0 + i + 1 = omega arith in e) (each i r h)) (omega (arith, over))
        ∙ omega arith

    pub over_by_meetings : {P : Type 0} → P ⊎ (spec.turns ≤ 4096 * length rounds) → P ⊎ AreSpent spec rounds
    over_by_meetings (inl p) = inl p
    over_by_meetings (inr over) = inr (all_spent over)

  module _ (each : (i : ℕ) (r : List Meeting) → slice_get rounds i ≡ Some r → IsWatchedRound spec (i + 1) r) where
    pub has_turns : (w : ℕ) → w < spec.workers → HasTurns spec w 0 rounds
    has_turns w l i r h = subst (λ (n : ℕ). made_by w r ≤ turns_in spec n) (let e : i + 1 ≡ 0 + i + 1 = omega arith in e) ((each i r h).each_worker w l)

    pub spent_rounds : 1 ≤ spec.workers → AreSpent spec rounds → spec.turns ≤ 4096 * length rounds
    spent_rounds some spent =
        let first : 0 < spec.workers = omega (arith, some) in
        let few = made_few spec 0 0 rounds (has_turns 0 first) in let all = spent 0 first in omega (arith, few, all)

    pub over_by_rounds : {P : Type 0} → 1 ≤ spec.workers → P ⊎ AreSpent spec rounds → P ⊎ (spec.turns ≤ 4096 * length rounds)
    over_by_rounds some (inl p) = inl p
    over_by_rounds some (inr spent) = inr (spent_rounds some spent)
