-- Crowds in which no move of a set of moves is possible, and what keeps them so.
use Rattle.std.proofs.Common.{◌≡◌, ◌⊎◌, inl, inr, ℕ, ◌+◌, ◌-◌, ◌≤◌, true, ◌&&◌, List, refl, ap, sym, subst, ◌∙◌, arith}
use Rattle.std.specs.Prelude.{slice_set, Contains}
use Rattle.std.proofs.lemmas.Bool.{and_from, and_parts, cases_Bool}
use Rattle.std.proofs.lemmas.List.Elements.{All-set}
use Rattle.pop_leaf.specs.declared.leaf.Move.{Move}
use Rattle.pop_leaf.specs.LeafModel.{LeafModel, pre, post}
use Rattle.pop_leaf.specs.Step.{Follows, LeafMove, LeafStep}
use Rattle.pop_leaf.proofs.Quiet.{All-slice_get, set_same}
use Rattle.cert_base.specs.FactsAndCases.{is_in}
use Rattle.cert_base.specs.GoalEnds.{IsWithin}
use Rattle.cert_base.proofs.Agents.{agents_of, enabled_test-true, one_agent}
use Rattle.cert_base.proofs.Dead.{IsEnabledIn, two_there}
use Rattle.cert_base.proofs.Numbers.{number_in, number_in-meets, before_pre, after_post}
use Rattle.pop_leaf.specs.Laws.{IsKeptMove}
use Rattle.pop_leaf.proofs.Crowds.{terminal_none, none_terminal}
use Rattle.pop_leaf.proofs.Kept.{kept_listed, listed_kept}
use Rattle.theory_sets.specs.Stays.{takes_within, escapes, IsRestWithin, SleepIn}
use Rattle.theory_sets.specs.Reached.{IsDeadFor}
use Rattle.theory_sets.proofs.Escapes.{is_escape}

module _ (leaf : LeafModel) (moves crowd : List ℕ) where
  pub dead_none : IsDeadFor leaf moves crowd → (n : ℕ) (u : Move) → IsKeptMove leaf moves n u → IsEnabledIn crowd u → ⊥
  dead_none dead n u inside enabled =
      let two = agents_of crowd u (enabled_test-true crowd u enabled) in
      terminal_none leaf moves crowd dead n two.0 two.1 u inside two.2 two.3 two.4

  pub none_dead : ((n : ℕ) (u : Move) → IsKeptMove leaf moves n u → IsEnabledIn crowd u → ⊥) → IsDeadFor leaf moves crowd
  none_dead none =
      none_terminal leaf moves crowd (λ n a b t inside ne ha hb. none n t inside (λ z. two_there z crowd a b t.p t.q ne ha hb))

-- a step in which both agents stay
pub unchanged : (leaf : LeafModel) (before after : List ℕ) (s : LeafStep leaf before after) → (s.x' ≡ s.x) × (s.y' ≡ s.y) → after ≡ before
unchanged leaf before after s stay =
    s.others_stay
    ∙ ap (λ x. slice_set (slice_set before s.a x) s.b s.y') stay.0
    ∙ ap (λ y. slice_set (slice_set before s.a s.x) s.b y) stay.1
    ∙ ap (λ c. slice_set c s.b s.y) (set_same before s.a s.x s.a_had)
    ∙ set_same before s.b s.y s.b_had

module _ (leaf : LeafModel) (before after : List ℕ) (s : LeafStep leaf before after) (m : LeafMove leaf s.x s.y s.x' s.y') where
  -- the move of a step is possible before it
  pub was_possible : IsEnabledIn before m.taken
  was_possible z =
      let b = before_pre m.taken s.x s.y s.x' s.y' z m.followed in
      let two = two_there z before s.a s.b s.x s.y s.different s.a_had s.b_had in
      (let l : pre m.taken z ≤ number_in z before = omega (arith, b, two) in l)

  module _ (u : Move) (enabled : IsEnabledIn after u) where
    -- what was there before the step of the states that a move takes behind it
    was_there : (z : ℕ) → pre m.taken z + (pre u z - post m.taken z) ≤ number_in z before
    was_there z =
        let e = number_in-meets leaf z before after s in
        let b = before_pre m.taken s.x s.y s.x' s.y' z m.followed in
        let a = after_post m.taken s.x s.y s.x' s.y' z m.followed in
        let two = two_there z before s.a s.b s.x s.y s.different s.a_had s.b_had in
        let there = enabled z in
        (let l : pre m.taken z + (pre u z - post m.taken z) ≤ number_in z before = omega (arith, e, b, a, two, there) in l)

    rest_there : (set : List ℕ) → IsWithin set before → IsRestWithin set m.taken u
    rest_there set within z l =
        let there = was_there z in
        let agent = one_agent z before (omega (arith, there, l)) in
        All-slice_get (Contains set) before agent.0 z within agent.1

  module _ (set : List ℕ) (within : IsWithin set before) where
    by_order : Follows m.taken s.x s.y s.x' s.y' ⊎ Follows m.taken s.y s.x s.y' s.x' → Contains set m.taken.p × Contains set m.taken.q
    by_order (inl f) = (subst (λ k. Contains set k) f.0 (All-slice_get (Contains set) before s.a s.x within s.a_had), subst (λ k. Contains set k) f.1 (All-slice_get (Contains set) before s.b s.y within s.b_had))
    by_order (inr f) = (subst (λ k. Contains set k) f.0 (All-slice_get (Contains set) before s.b s.y within s.b_had), subst (λ k. Contains set k) f.1 (All-slice_get (Contains set) before s.a s.x within s.a_had))

    pub between : takes_within set m.taken ≡ true
    between =
        let both = by_order m.followed in
        and_from (is_in set m.taken.p) (is_in set m.taken.q) (listed_kept set m.taken.p both.0) (listed_kept set m.taken.q both.1)

    -- moves that sleep in a set stay impossible while another move is made there
    pub stay_impossible : (moves : List ℕ) → SleepIn leaf set moves → IsDeadFor leaf moves before → ¬ Contains moves m.number → IsDeadFor leaf moves after
    stay_impossible moves asleep dead other = none_dead leaf moves after none
      where
        none : (n : ℕ) (u : Move) → IsKeptMove leaf moves n u → IsEnabledIn after u → ⊥
        none n u inside enabled =
            let w = asleep m.number n m.taken u m.listed m.non_silent between other inside (rest_there u enabled set within) in
            let first = w.enabled in
            dead_none leaf moves before dead w.number w.taken w.inside (λ z. (let low = first z in let there = was_there u enabled z in let l : pre w.taken z ≤ number_in z before = omega (arith, low, there) in l))

    -- a move that doesn't lead out leaves all agents in the set
    pub stay_within : ¬ Contains (escapes leaf set) m.number → IsWithin set after
    stay_within other = subst (λ c. IsWithin set c) (sym s.others_stay) (All-set (Contains set) (slice_set before s.a s.x') s.b s.y' (put.1) (All-set (Contains set) before s.a s.x' (put.0) within))
      where
        brought : (is_in set m.taken.r && is_in set m.taken.s) ≡ true
        brought = elim (cases_Bool (is_in set m.taken.r && is_in set m.taken.s)) [
          | inl both ↦ both
          | inr out ↦ absurd (other (is_escape leaf set m.number (rw (m.listed, m.non_silent, between, out) refl)))
        ]

        put_by : Follows m.taken s.x s.y s.x' s.y' ⊎ Follows m.taken s.y s.x s.y' s.x' → (is_in set m.taken.r ≡ true) × (is_in set m.taken.s ≡ true) → Contains set s.x' × Contains set s.y'
        put_by (inl f) both = (subst (λ k. Contains set k) (sym f.2) (kept_listed set m.taken.r both.0), subst (λ k. Contains set k) (sym f.3) (kept_listed set m.taken.s both.1))
        put_by (inr f) both = (subst (λ k. Contains set k) (sym f.3) (kept_listed set m.taken.s both.1), subst (λ k. Contains set k) (sym f.2) (kept_listed set m.taken.r both.0))

        put : Contains set s.x' × Contains set s.y'
        put = put_by m.followed (and_parts (is_in set m.taken.r) (is_in set m.taken.s) brought)
