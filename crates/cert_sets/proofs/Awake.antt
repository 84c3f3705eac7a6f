-- What a move between agents of a set wakes, by the pairs of states that the moves that are to sleep take.
use Rattle.std.proofs.Common.{◌≡◌, ◌≢◌, ◌⊎◌, inl, inr, ℕ, ◌+◌, ◌-◌, ◌<◌, ◌≤◌, Bool, true, false, not, ◌&&◌, ◌||◌, List, refl, ap, sym, subst, ◌∙◌, arith}
use Rattle.std.specs.Prelude.{Some, slice_get, Contains, ◌==◌}
use Rattle.std.proofs.lemmas.Bool.{and_parts, and_cases, or_parts, or_cases, not-true, not-false, cases_Bool, false≢true}
use Rattle.std.proofs.lemmas.Bool.Decides.{eqb_tells}
use Rattle.std.proofs.lemmas.Option.{slice_get_within, slice_get-get_or, get_or_from_slice_get}
use Rattle.pop_leaf.specs.declared.leaf.Move.{Move}
use Rattle.pop_leaf.specs.LeafModel.{LeafModel, one_at, times_in_pair, same_pair, pre, post, silent_move}
use Rattle.pop_leaf.specs.Reaction.{takes_states}
use Rattle.pop_leaf.proofs.Reactions.{or_right}
use Rattle.pop_leaf.proofs.Silent.{same_pair_cases, same-self, same-other, one_self}
use Rattle.cert_base.specs.FactsAndCases.{is_in, can_meet_in}
use Rattle.cert_base.proofs.ListTests.{list_any-contains}
use Rattle.cert_base.proofs.WeightedSums.{list_any-from}
use Rattle.cert_layers.specs.Waking.{IsPair, brings_state, brings_two_states, wakes_with_state, wakes_states}
use Rattle.cert_layers.proofs.Asleep.{wakes-brought, wakes-other, right_false}
use Rattle.cert_layers.proofs.Covers.{Like, times-like, within_two, within_three, left_none, left_one, left_both}
use Rattle.pop_leaf.specs.Hushed.{hushed}
use Rattle.pop_leaf.specs.Laws.{IsKeptMove}
use Rattle.pop_leaf.proofs.Kept.{kept_listed, listed_kept}
use Rattle.pop_leaf.proofs.HushedMoves.{hushed_move, kept_move}
use Rattle.theory_sets.specs.Stays.{IsRestWithin, WasPossible}
use Rattle.cert_sets.specs.SetTests.{is_other_within, is_rest_within}

-- a move that isn't silent takes its states, in one order or the other
pub takes_pair : (x y : ℕ) (u : Move) → silent_move u ≡ false → IsPair x y u → takes_states x y u ≡ true
takes_pair x y u loud (inl h) = rw (loud, h.0, h.1) (same-self u.p u.q)
takes_pair x y u loud (inr h) = rw (loud, h.0, h.1) (same-other u.q u.p)

contained : {A : Type 0} (xs : List A) (n : ℕ) (x : A) → slice_get xs n ≡ Some x → Contains xs x
contained xs n x h = (n, slice_get_within xs n x h, get_or_from_slice_get xs n x x h)

-- two states can meet if a move takes them that isn't silent
pub met_by : (leaf : LeafModel) (x y n : ℕ) (u : Move) → slice_get leaf.moves n ≡ Some u → silent_move u ≡ false → IsPair x y u → can_meet_in leaf x y ≡ true
met_by leaf x y n u h loud pair = list_any-from (takes_states x y) leaf.moves u (contained leaf.moves n u h) (takes_pair x y u loud pair)

module _ (leaf : LeafModel) (moves : List ℕ) where
  -- a kept move that takes x and y
  abbrev KeptMove : ℕ → ℕ → Type 0
  KeptMove x y = (n : ℕ) × (u : Move) × IsKeptMove leaf moves n u × IsPair x y u

  kept_met : (x y : ℕ) → can_meet_in (hushed leaf moves) x y ≡ true → KeptMove x y
  kept_met x y e =
      let f = list_any-contains (takes_states x y) (hushed leaf moves).moves e in
      let at = f.1 in
      let parts = and_parts (not (silent_move f.0)) (same_pair x y f.0.p f.0.q) f.2 in
      let listed : slice_get (hushed leaf moves).moves at.0 ≡ Some f.0 = slice_get-get_or (hushed leaf moves).moves at.0 f.0 at.1 ∙ ap Some at.2 in
      (at.0, f.0, hushed_move leaf moves at.0 f.0 listed (not-true (silent_move f.0) parts.0), same_pair_cases x y f.0.p f.0.q parts.1)

  met_kept : (x y n : ℕ) (u : Move) → IsKeptMove leaf moves n u → IsPair x y u → can_meet_in (hushed leaf moves) x y ≡ true
  met_kept x y n u inside pair =
      let k = kept_move leaf moves n u inside in met_by (hushed leaf moves) x y n u k.0 k.1 pair

  module _ (t : Move) where
    -- u' takes two states that were present before t, where u takes m and o
    abbrev Was : ℕ → ℕ → Move → Type 0
    Was m o u' = (z : ℕ) → pre u' z ≤ pre t z + (times_in_pair m o z - post t z)

    abbrev Sleeps : ℕ → ℕ → Type 0
    Sleeps m o = (k : ℕ) × (u' : Move) × IsKeptMove leaf moves k u' × Was m o u'

    asleep_with : (m o : ℕ) → brings_state t m ≡ true → wakes_with_state (can_meet_in (hushed leaf moves)) t m o ≡ false → Sleeps m o
    asleep_with m o b e = by_pair (or_cases (can_meet_in (hushed leaf moves) t.p t.q) (not (brings_two_states t m o) && (can_meet_in (hushed leaf moves) t.p o || can_meet_in (hushed leaf moves) t.q o)) (not-false _ e))
      where
        there : (x y : ℕ) → can_meet_in (hushed leaf moves) x y ≡ true → ((z : ℕ) → times_in_pair x y z ≤ pre t z + (times_in_pair m o z - post t z)) → Sleeps m o
        there x y met within =
            let f = kept_met x y met in
            (f.0, f.1, f.2, λ z. (let l : pre f.1 z ≤ pre t z + (times_in_pair m o z - post t z) = omega (arith, times-like f.1.p f.1.q x y z f.3, within z) in l))

        by_other : brings_two_states t m o ≡ false → (can_meet_in (hushed leaf moves) t.p o ≡ true) ⊎ (can_meet_in (hushed leaf moves) t.q o ≡ true) → Sleeps m o
        by_other both (inl met) = there t.p o met (λ z. (let l : times_in_pair t.p o z ≤ pre t z + (times_in_pair m o z - post t z) = omega (arith, left_one t m o b both z) in l))
        by_other both (inr met) = there t.q o met (λ z. (let l : times_in_pair t.q o z ≤ pre t z + (times_in_pair m o z - post t z) = omega (arith, left_one t m o b both z) in l))

        by_pair : (can_meet_in (hushed leaf moves) t.p t.q ≡ true) ⊎ ((not (brings_two_states t m o) && (can_meet_in (hushed leaf moves) t.p o || can_meet_in (hushed leaf moves) t.q o)) ≡ true) → Sleeps m o
        by_pair (inl met) = there t.p t.q met (λ z. (let l : times_in_pair t.p t.q z ≤ pre t z + (times_in_pair m o z - post t z) = omega arith in l))
        by_pair (inr rest) =
            let parts = and_parts (not (brings_two_states t m o)) (can_meet_in (hushed leaf moves) t.p o || can_meet_in (hushed leaf moves) t.q o) rest in
            by_other (not-true (brings_two_states t m o) parts.0) (or_cases (can_meet_in (hushed leaf moves) t.p o) (can_meet_in (hushed leaf moves) t.q o) parts.1)

    awake_with : (m o : ℕ) → brings_state t m ≡ true → wakes_with_state (can_meet_in (hushed leaf moves)) t m o ≡ true → (k : ℕ) (u' : Move) → IsKeptMove leaf moves k u' → Was m o u' → ⊥
    awake_with m o b e k u' inside was = by_both (cases_Bool (brings_two_states t m o))
      where
        parts : (can_meet_in (hushed leaf moves) t.p t.q ≡ false) × ((not (brings_two_states t m o) && (can_meet_in (hushed leaf moves) t.p o || can_meet_in (hushed leaf moves) t.q o)) ≡ false)
        parts = or_parts (can_meet_in (hushed leaf moves) t.p t.q) (not (brings_two_states t m o) && (can_meet_in (hushed leaf moves) t.p o || can_meet_in (hushed leaf moves) t.q o)) (not-true _ e)

        clash : (x y : ℕ) → can_meet_in (hushed leaf moves) x y ≡ false → Like u'.p u'.q x y → ⊥
        clash x y none like = false≢true (sym none ∙ met_kept x y k u' inside like)

        by_three : brings_two_states t m o ≡ false → Like u'.p u'.q t.p t.q ⊎ (Like u'.p u'.q t.p o ⊎ Like u'.p u'.q t.q o) → ⊥
        by_three both (inl like) = clash t.p t.q parts.0 like
        by_three both (inr rest) = by_other rest (or_parts (can_meet_in (hushed leaf moves) t.p o) (can_meet_in (hushed leaf moves) t.q o) (others (and_cases (not (brings_two_states t m o)) (can_meet_in (hushed leaf moves) t.p o || can_meet_in (hushed leaf moves) t.q o) parts.1)))
          where
            others : (not (brings_two_states t m o) ≡ false) ⊎ ((can_meet_in (hushed leaf moves) t.p o || can_meet_in (hushed leaf moves) t.q o) ≡ false) → (can_meet_in (hushed leaf moves) t.p o || can_meet_in (hushed leaf moves) t.q o) ≡ false
            others (inl f) = absurd (false≢true (sym both ∙ not-false (brings_two_states t m o) f))
            others (inr f) = f

            by_other : Like u'.p u'.q t.p o ⊎ Like u'.p u'.q t.q o → (can_meet_in (hushed leaf moves) t.p o ≡ false) × (can_meet_in (hushed leaf moves) t.q o ≡ false) → ⊥
            by_other (inl like) none = clash t.p o none.0 like
            by_other (inr like) none = clash t.q o none.1 like

        by_both : (brings_two_states t m o ≡ true) ⊎ (brings_two_states t m o ≡ false) → ⊥
        by_both (inl both) = clash t.p t.q parts.0 (within_two u'.p u'.q t.p t.q (λ z. (let l : times_in_pair u'.p u'.q z ≤ times_in_pair t.p t.q z = omega (arith, was z, left_none t m o b both z) in l)))
        by_both (inr both) = by_three both (within_three u'.p u'.q t.p t.q o (λ z. (let l : times_in_pair u'.p u'.q z ≤ times_in_pair t.p t.q z + one_at o z = omega (arith, was z, left_one t m o b both z) in l)))

    pub asleep : (n : ℕ) (u : Move) → IsKeptMove leaf moves n u → wakes_states (can_meet_in (hushed leaf moves)) t u.p u.q ≡ false → WasPossible leaf moves t u
    asleep n u inside e = by_first (cases_Bool (brings_state t u.p)) (cases_Bool (brings_state t u.q))
      where
        by_first : (brings_state t u.p ≡ true) ⊎ (brings_state t u.p ≡ false) → (brings_state t u.q ≡ true) ⊎ (brings_state t u.q ≡ false) → WasPossible leaf moves t u
        by_first (inl b) c =
            let f = asleep_with u.p u.q b (sym (wakes-brought (can_meet_in (hushed leaf moves)) t u.p u.q b) ∙ e) in
            record { number = f.0; taken = f.1; inside = f.2; enabled = f.3 }
        by_first (inr b) (inl c) =
            let f = asleep_with u.q u.p c (right_false (brings_state t u.q) (wakes_with_state (can_meet_in (hushed leaf moves)) t u.q u.p) c (sym (wakes-other (can_meet_in (hushed leaf moves)) t u.p u.q b) ∙ e)) in
            record { number = f.0; taken = f.1; inside = f.2; enabled = λ z. (let l : pre f.1 z ≤ pre t z + (pre u z - post t z) = omega (arith, f.3 z) in l) }
        by_first (inr b) (inr c) = record { number = n; taken = u; inside = inside; enabled = λ z. (let l : pre u z ≤ pre t z + (pre u z - post t z) = omega (arith, left_both t u.p u.q b c z) in l) }

    pub awake : (u : Move) → wakes_states (can_meet_in (hushed leaf moves)) t u.p u.q ≡ true → WasPossible leaf moves t u → ⊥
    awake u e was = by_first (cases_Bool (brings_state t u.p))
      where
        by_first : (brings_state t u.p ≡ true) ⊎ (brings_state t u.p ≡ false) → ⊥
        by_first (inl b) = awake_with u.p u.q b (sym (wakes-brought (can_meet_in (hushed leaf moves)) t u.p u.q b) ∙ e) was.number was.taken was.inside was.enabled
        by_first (inr b) =
            let parts = and_parts (brings_state t u.q) (wakes_with_state (can_meet_in (hushed leaf moves)) t u.q u.p) (sym (wakes-other (can_meet_in (hushed leaf moves)) t u.p u.q b) ∙ e) in
            let enabled = was.enabled in
            awake_with u.q u.p parts.0 parts.1 was.number was.taken was.inside (λ z. (let l : pre was.taken z ≤ pre t z + (times_in_pair u.q u.p z - post t z) = omega (arith, enabled z) in l))

-- what is taken beside a state that t brings
module _ (set : List ℕ) (t : Move) (m o : ℕ) (b : brings_state t m ≡ true) where
  abbrev RestWithin : Type 0
  RestWithin = (z : ℕ) → post t z < times_in_pair m o z → Contains set z

  rest_yes : is_other_within set t m o ≡ true → RestWithin
  rest_yes e z l = by (cases_Bool (brings_two_states t m o)) (eqb_tells o z)
    where
      by : (brings_two_states t m o ≡ true) ⊎ (brings_two_states t m o ≡ false) → ((o == z) ≡ true) × (o ≡ z) ⊎ ((o == z) ≡ false) × (o ≢ z) → Contains set z
      by (inl both) _ = absurd (let none = left_none t m o b both z in omega (arith, none, l))
      by (inr both) (inl same) =
          subst (λ k. Contains set k) same.1 (kept_listed set o (or_right (brings_two_states t m o) (is_in set o) e both))
      by (inr both) (inr ne) =
          absurd (let one = left_one t m o b both z in let none : one_at o z ≡ 0 = rw ne.0 refl in omega (arith, one, none, l))

  rest_no : is_other_within set t m o ≡ false → RestWithin → ⊥
  rest_no e rest =
      let parts = or_parts (brings_two_states t m o) (is_in set o) e in
      let one = left_one t m o b parts.0 o in
      let self = one_self o in
      false≢true (sym parts.1 ∙ listed_kept set o (rest o (omega (arith, one, self))))

-- what the test of the other agent says of a move that t wakes
module _ (set : List ℕ) (t u : Move) (early : ℕ → ℕ → Bool) (wakes : wakes_states early t u.p u.q ≡ true) where
  turned : (brings_state t u.p ≡ false) → brings_state t u.q ≡ true
  turned b = (and_parts (brings_state t u.q) (wakes_with_state early t u.q u.p) (sym (wakes-other early t u.p u.q b) ∙ wakes)).0

  pub rest_is : is_rest_within set t u.p u.q ≡ true → IsRestWithin set t u
  rest_is e = by (cases_Bool (brings_state t u.p))
    where
      by : (brings_state t u.p ≡ true) ⊎ (brings_state t u.p ≡ false) → IsRestWithin set t u
      by (inl b) = rest_yes set t u.p u.q b (let f : is_rest_within set t u.p u.q ≡ is_other_within set t u.p u.q = rw b refl in sym f ∙ e)
      by (inr b) = λ z l. rest_yes set t u.q u.p (turned b) (let f : is_rest_within set t u.p u.q ≡ is_other_within set t u.q u.p = rw b refl in sym f ∙ e) z (omega (arith, l))

  pub rest_isnt : is_rest_within set t u.p u.q ≡ false → IsRestWithin set t u → ⊥
  rest_isnt e rest = by (cases_Bool (brings_state t u.p))
    where
      by : (brings_state t u.p ≡ true) ⊎ (brings_state t u.p ≡ false) → ⊥
      by (inl b) = rest_no set t u.p u.q b (let f : is_rest_within set t u.p u.q ≡ is_other_within set t u.p u.q = rw b refl in sym f ∙ e) rest
      by (inr b) = rest_no set t u.q u.p (turned b) (let f : is_rest_within set t u.p u.q ≡ is_other_within set t u.q u.p = rw b refl in sym f ∙ e) (λ z l. rest z (omega (arith, l)))
