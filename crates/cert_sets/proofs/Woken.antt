-- What the search for a woken move says of a set.
use Rattle.std.proofs.Common.{◌≡◌, ◌⊎◌, inl, inr, ℕ, ◌<◌, ◌≤◌, Bool, true, false, not, ◌&&◌, List, length, refl, ap, sym, ◌∙◌}
use Rattle.std.specs.Prelude.{Option, Some, None, slice_get, Contains}
use Rattle.std.proofs.lemmas.Bool.{and_parts, and_cases, and_from, and_left, and_right, cases_Bool, cases_lt, false≢true}
use Rattle.std.proofs.lemmas.Option.{slice_get_past}
use Rattle.pop_leaf.specs.declared.leaf.Move.{Move}
use Rattle.pop_leaf.specs.LeafModel.{LeafModel, IsLeaf, IsMoveBelow, silent_move}
use Rattle.pop_leaf.specs.FirstFault.{first_below}
use Rattle.pop_leaf.proofs.FirstFault.{none_below}
use Rattle.pop_leaf.proofs.Quiet.{All-slice_get}
use Rattle.cert_base.specs.FactsAndCases.{can_meet_in}
use Rattle.cert_layers.specs.LayerFaults.{Each, IsFirstFailing}
use Rattle.cert_layers.specs.Search.{some_move}
use Rattle.cert_layers.specs.Waking.{wakes_states, may_wake_any, FindsFirst}
use Rattle.cert_layers.proofs.Asleep.{asleep_pair, right_false}
use Rattle.cert_layers.proofs.Firsts.{first_below-Some}
use Rattle.cert_layers.proofs.NotLower.{some_move-true, some_move-false}
use Rattle.pop_leaf.specs.Hushed.{is_kept, hushed}
use Rattle.pop_leaf.proofs.Kept.{kept_listed}
use Rattle.pop_leaf.proofs.HushedMoves.{hush_silent, hushed_move, kept_move, other_move}
use Rattle.theory_sets.specs.Stays.{takes_within, WasPossible, SleepsFor, SleepIn}
use Rattle.cert_sets.specs.SetTests.{is_rest_within, wakes_within, wakes_awake, is_silent_move, wakes_one, FindsWoken}
use Rattle.cert_sets.proofs.Awake.{asleep, awake, rest_is, rest_isnt, met_by}

-- a move that isn't kept is silent in the hushed leaf
pub other_silent : (leaf : LeafModel) (moves : List ℕ) (n : ℕ) (t : Move) → slice_get leaf.moves n ≡ Some t → ¬ Contains moves n → is_silent_move (slice_get (hushed leaf moves).moves n) ≡ true
other_silent leaf moves n t h other = elim (cases_Bool (is_kept moves n)) [
  | inl kept ↦ absurd (other (kept_listed moves n kept))
  | inr none ↦ ap is_silent_move (other_move leaf moves n t h none) ∙ hush_silent t
]

-- and one that isn't silent there is kept
pub silent_other : (leaf : LeafModel) (moves : List ℕ) (n : ℕ) (t : Move) → slice_get leaf.moves n ≡ Some t → silent_move t ≡ false → is_silent_move (slice_get (hushed leaf moves).moves n) ≡ true → ¬ Contains moves n
silent_other leaf moves n t h loud silent kept =
    let k = kept_move leaf moves n t (record { kept_is = kept; move_is = h; non_silent = loud }) in
    false≢true (sym loud ∙ sym (ap is_silent_move k.0) ∙ silent)

module _ (leaf : LeafModel) (moves set : List ℕ) (n m : ℕ) where
  pub sleeps-no : wakes_one leaf (hushed leaf moves) set n m ≡ false → SleepsFor leaf set moves n m
  sleeps-no e t u h loud between other inside rest = by_rest (and_cases (wakes_states (can_meet_in (hushed leaf moves)) t u.p u.q) (is_rest_within set t u.p u.q) asleep_pair_is) (cases_Bool (wakes_states (can_meet_in (hushed leaf moves)) t u.p u.q))
    where
      k : (slice_get (hushed leaf moves).moves m ≡ Some u) × (silent_move u ≡ false)
      k = kept_move leaf moves m u inside

      tested : ((takes_within set t && is_silent_move (slice_get (hushed leaf moves).moves n)) && wakes_awake (hushed leaf moves) set t m) ≡ false
      tested = some_move-false (λ v. (takes_within set v && is_silent_move (slice_get (hushed leaf moves).moves n)) && wakes_awake (hushed leaf moves) set v m) (slice_get leaf.moves n) t e h loud

      none : wakes_awake (hushed leaf moves) set t m ≡ false
      none = right_false (takes_within set t && is_silent_move (slice_get (hushed leaf moves).moves n)) (wakes_awake (hushed leaf moves) set t m) (and_from (takes_within set t) (is_silent_move (slice_get (hushed leaf moves).moves n)) between (other_silent leaf moves n t h other)) tested

      asleep_pair_is : wakes_within (hushed leaf moves) set t u.p u.q ≡ false
      asleep_pair_is = some_move-false (λ v. wakes_within (hushed leaf moves) set t v.p v.q) (slice_get (hushed leaf moves).moves m) u none k.0 k.1

      by_rest : (wakes_states (can_meet_in (hushed leaf moves)) t u.p u.q ≡ false) ⊎ (is_rest_within set t u.p u.q ≡ false) → (wakes_states (can_meet_in (hushed leaf moves)) t u.p u.q ≡ true) ⊎ (wakes_states (can_meet_in (hushed leaf moves)) t u.p u.q ≡ false) → WasPossible leaf moves t u
      by_rest (inl none) _ = asleep leaf moves t m u inside none
      by_rest (inr out) (inl wakes) = absurd (rest_isnt set t u (can_meet_in (hushed leaf moves)) wakes out rest)
      by_rest (inr out) (inr none) = asleep leaf moves t m u inside none

  pub sleeps-yes : wakes_one leaf (hushed leaf moves) set n m ≡ true → SleepsFor leaf set moves n m → ⊥
  sleeps-yes e sleeps =
      let f = some_move-true (λ v. (takes_within set v && is_silent_move (slice_get (hushed leaf moves).moves n)) && wakes_awake (hushed leaf moves) set v m) (slice_get leaf.moves n) e in
      let t = f.0 in
      let parts = and_parts (takes_within set t && is_silent_move (slice_get (hushed leaf moves).moves n)) (wakes_awake (hushed leaf moves) set t m) f.3 in
      let first = and_parts (takes_within set t) (is_silent_move (slice_get (hushed leaf moves).moves n)) parts.0 in
      let g = some_move-true (λ v. wakes_within (hushed leaf moves) set t v.p v.q) (slice_get (hushed leaf moves).moves m) parts.1 in
      let u = g.0 in
      let tests = and_parts (wakes_states (can_meet_in (hushed leaf moves)) t u.p u.q) (is_rest_within set t u.p u.q) g.3 in
      awake leaf moves t u tests.0
      (sleeps t u f.1 f.2 first.0 (silent_other leaf moves n t f.1 f.2 first.1) (hushed_move leaf moves m u g.1 g.2) (rest_is set t u (can_meet_in (hushed leaf moves)) tests.0 tests.1))

module _ (leaf : LeafModel) (moves set : List ℕ) where
  pub all_sleep : FindsWoken leaf (hushed leaf moves) set None → SleepIn leaf set moves
  all_sleep none n m = sleeps-no leaf moves set n m (none n m)

  pub first_awake : (found : ℕ × ℕ) → FindsWoken leaf (hushed leaf moves) set (Some found) → IsFirstFailing (λ k. Each (SleepsFor leaf set moves k)) found.0 × IsFirstFailing (SleepsFor leaf set moves found.0) found.1
  first_awake found f = (
    (
      (λ each. sleeps-yes leaf moves set found.0 found.1 f.0.0 (each found.1)),
      (λ k l j. sleeps-no leaf moves set k j (f.1 k l j)),
    ),
    (sleeps-yes leaf moves set found.0 found.1 f.0.0, λ j l. sleeps-no leaf moves set found.0 j (f.0.1 j l)),
  )

  pub not_asleep : (found : ℕ × ℕ) → FindsWoken leaf (hushed leaf moves) set (Some found) → ¬ SleepIn leaf set moves
  not_asleep found f asleep = sleeps-yes leaf moves set found.0 found.1 f.0.0 (asleep found.0 found.1)

-- ---- the search itself

-- if a move wakes nothing by pairs of states, it wakes no move
pub asleep_beside : (awake : LeafModel) (set : List ℕ) (t : Move) → IsLeaf awake → may_wake_any (can_meet_in awake) t (length awake.states) ≡ false → (m : ℕ) → wakes_awake awake set t m ≡ false
asleep_beside awake set t formed none m = by_move (slice_get awake.moves m) refl
  where
    by_silent : (u : Move) → slice_get awake.moves m ≡ Some u → (b : Bool) → silent_move u ≡ b → (not b && wakes_within awake set t u.p u.q) ≡ false
    by_silent u h true e = refl
    by_silent u h false e =
        let below = All-slice_get (IsMoveBelow (length awake.states)) awake.moves m u formed.moves h in
        and_left (wakes_states (can_meet_in awake) t u.p u.q) (is_rest_within set t u.p u.q)
        (asleep_pair (can_meet_in awake) t (length awake.states) u.p u.q below.0 below.1 (met_by awake u.p u.q m u h e (inl (refl, refl))) (met_by awake u.q u.p m u h e (inr (refl, refl))) none)

    by_move : (o : Option Move) → slice_get awake.moves m ≡ o → some_move (λ u. wakes_within awake set t u.p u.q) o ≡ false
    by_move None h = refl
    by_move (Some u) h = by_silent u h (silent_move u) refl

-- the least woken number below the length is the least of all
pub finds_least : (awake : LeafModel) (set : List ℕ) (t : Move) (found : Option ℕ) → first_below (length awake.moves) (wakes_awake awake set t) ≡ found → FindsFirst (wakes_awake awake set t) found
finds_least awake set t None is = λ m. by_size m (cases_lt m (length awake.moves))
  where
    by_size : (m : ℕ) → (m < length awake.moves) ⊎ (length awake.moves ≤ m) → wakes_awake awake set t m ≡ false
    by_size m (inl within) = (none_below (length awake.moves) (wakes_awake awake set t)).0 is m within
    by_size m (inr past) = rw (slice_get_past awake.moves m past) refl
finds_least awake set t (Some u) is =
    let f = first_below-Some (length awake.moves) (wakes_awake awake set t) u is in (f.1, f.2)

module _ (leaf awake : LeafModel) (set : List ℕ) (n : ℕ) (t : Move) (h : slice_get leaf.moves n ≡ Some t) where
  -- a move outside the set, or one that is silent or kept, wakes nothing
  pub finds_none : (not (silent_move t) && (takes_within set t && is_silent_move (slice_get awake.moves n))) ≡ false → FindsFirst (wakes_one leaf awake set n) None
  finds_none e m = ap (λ o. some_move (λ v. (takes_within set v && is_silent_move (slice_get awake.moves n)) && wakes_awake awake set v m) o) h ∙ by (and_cases (not (silent_move t)) (takes_within set t && is_silent_move (slice_get awake.moves n)) e)
    where
      by : (not (silent_move t) ≡ false) ⊎ ((takes_within set t && is_silent_move (slice_get awake.moves n)) ≡ false) → (not (silent_move t) && ((takes_within set t && is_silent_move (slice_get awake.moves n)) && wakes_awake awake set t m)) ≡ false
      by (inl silent) = and_left (not (silent_move t)) ((takes_within set t && is_silent_move (slice_get awake.moves n)) && wakes_awake awake set t m) silent
      by (inr out) = and_right (not (silent_move t)) ((takes_within set t && is_silent_move (slice_get awake.moves n)) && wakes_awake awake set t m) (and_left (takes_within set t && is_silent_move (slice_get awake.moves n)) (wakes_awake awake set t m) out)

  module _ (loud : silent_move t ≡ false) (between : takes_within set t ≡ true) (other : is_silent_move (slice_get awake.moves n) ≡ true) where
    wakes_alike : (m : ℕ) → wakes_one leaf awake set n m ≡ wakes_awake awake set t m
    wakes_alike m = rw (h, loud, between, other) refl

    pub finds_beside : (found : Option ℕ) → FindsFirst (wakes_awake awake set t) found → FindsFirst (wakes_one leaf awake set n) found
    finds_beside None first = λ m. wakes_alike m ∙ first m
    finds_beside (Some u) first = (wakes_alike u ∙ first.0, λ m l. wakes_alike m ∙ first.1 m l)
