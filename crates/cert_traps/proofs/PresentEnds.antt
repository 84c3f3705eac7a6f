-- At a terminal end the counts meet all facts of one of the cases of a `Present` or a `Twin` node.
use Rattle.std.proofs.Common.{◌≡◌, ◌≢◌, ◌⊎◌, inl, inr, ℕ, zero, suc, ◌+◌, ◌*◌, ◌<◌, ◌≤◌, Bool, true, false, not, ◌&&◌, List, [], ◌∷◌, ◌++◌, length, map, get_or, refl, ap, sym, ◌∙◌, arith}
use Rattle.std.specs.Prelude.{Some, pos, negsuc, ◌+ℤ◌, ◌≤ℤ◌, ◌*ℤ◌, ◌==◌, if◌then◌else◌, slice_get, slice_set, filter, All}
use Rattle.std.specs.List.{range_with_len}
use Rattle.std.proofs.Math.IntN.{pos-*ℤ-pos, *ℤ-zero}
use Rattle.std.proofs.lemmas.Int.{ints}
use Rattle.std.proofs.lemmas.Bool.{eq-eqb, cases_lt, not-true}
use Rattle.std.proofs.lemmas.Bool.Decides.{eqb_tells}
use Rattle.std.proofs.lemmas.List.Elements.{All-nil, All-cons, All-map, All-append}
use Rattle.pop_leaf.specs.declared.leaf.Move.{Move}
use Rattle.pop_leaf.specs.LeafModel.{LeafModel, one_at, pre, silent_move}
use Rattle.pop_leaf.specs.Step.{LeafStep}
use Rattle.pop_leaf.specs.Terminal.{IsTerminal}
use Rattle.pop_leaf.specs.Reaction.{takes_states}
use Rattle.pop_leaf.proofs.Reactions.{and_left, and_right}
use Rattle.cert_base.specs.Rows.{state_variable}
use Rattle.cert_base.specs.Valuation.{Valuation, MeetsFact}
use Rattle.cert_base.specs.FactsAndCases.{states_of, can_meet_in, absent_fact, occurs_fact, alone_fact, not_twice, cases_of_present}
use Rattle.cert_base.proofs.Agents.{agents_of, enabled_test-true, move_step}
use Rattle.cert_base.proofs.Dead.{IsEnabledIn}
use Rattle.cert_base.proofs.Numbers.{number_in}
use Rattle.cert_base.proofs.Openings.{in_first, in_rest}
use Rattle.cert_base.specs.Ends.{MeetsOne}
use Rattle.cert_base.proofs.ListTests.{list_any-contains}
use Rattle.base_laws.proofs.Lists.{slice_get-set_same, slice_get-set_other, all_filtered}
use Rattle.std.proofs.lemmas.Option.{same_Some}
use Rattle.pop_leaf.proofs.Silent.{stays-silent, same_pair_cases}

-- in a terminal crowd no non-silent move is enabled
pub terminal_dead : (leaf : LeafModel) (crowd : List ℕ) → IsTerminal (LeafStep leaf) crowd → (n : ℕ) (t : Move) → slice_get leaf.moves n ≡ Some t → silent_move t ≡ false → IsEnabledIn crowd t → ⊥
terminal_dead leaf crowd terminal n t m s enabled =
    let two = agents_of crowd t (enabled_test-true crowd t enabled) in
    let a = two.0 in
    let b = two.1 in
    let after = slice_set (slice_set crowd a t.r) b t.s in
    let stays : after ≡ crowd = terminal after (move_step leaf crowd n t a b m s two.2 two.3 two.4) in
    let there : slice_get (slice_set crowd a t.r) b ≡ Some t.q = slice_get-set_other crowd a b t.r t.q two.2 two.4 in
    let second : t.s ≡ t.q = same_Some t.s t.q (sym (slice_get-set_same (slice_set crowd a t.r) b t.q t.s there) ∙ ap (λ c. slice_get c b) stays ∙ two.4) in
    let here : slice_get after a ≡ Some t.r = slice_get-set_other (slice_set crowd a t.r) b a t.s t.r (λ e. two.2 (sym e)) (slice_get-set_same crowd a t.p t.r two.3) in
    let first : t.r ≡ t.p = same_Some t.r t.p (sym here ∙ ap (λ c. slice_get c a) stays ∙ two.3) in
    let f : true ≡ false = sym (stays-silent t first second) ∙ s in
    cc

pre_pair : (t : Move) (p q z : ℕ) → ((p ≡ t.p) × (q ≡ t.q)) ⊎ ((p ≡ t.q) × (q ≡ t.p)) → pre t z ≡ one_at p z + one_at q z
pre_pair t p q z (inl e) = rw (e.0, e.1) refl
pre_pair t p q z (inr e) = rw (e.0, e.1) (omega arith)

-- two states that can meet are not both present in a terminal crowd
pub cannot_meet : (leaf : LeafModel) (crowd : List ℕ) (p q : ℕ) → IsTerminal (LeafStep leaf) crowd → can_meet_in leaf p q ≡ true → ((z : ℕ) → one_at p z + one_at q z ≤ number_in z crowd) → ⊥
cannot_meet leaf crowd p q terminal e there =
    let found = list_any-contains (takes_states p q) leaf.moves e in
    let t = found.0 in
    let pair = same_pair_cases p q t.p t.q (and_right (not (silent_move t)) _ found.2) in
    terminal_dead leaf crowd terminal found.1.0 t (listed leaf.moves found.1.0 t found.1.1 found.1.2) (not-true _ (and_left _ _ found.2)) (λ z. rw (pre_pair t p q z pair) (there z))
  where
    listed : (moves : List Move) (k : ℕ) (t : Move) → k < length moves → get_or moves k t ≡ t → slice_get moves k ≡ Some t
    listed [] k t l e = absurd (omega arith)
    listed (u ∷ moves) zero t l e = ap Some e
    listed (u ∷ moves) (suc k) t l e = listed moves k t (omega arith) e

pub one_times : (n : ℕ) → (pos 1 *ℤ pos n) ≡ pos n
one_times n = pos-*ℤ-pos 1 n ∙ ap pos (let e : 1 * n ≡ n = omega arith in e)

-- ---- what the facts on one state say

absent_met : (leaf : LeafModel) (count : Valuation) (q : ℕ) → count (state_variable leaf q) ≡ 0 → MeetsFact count (absent_fact leaf q)
absent_met leaf count q e = let o = one_times (count (state_variable leaf q)) in omega (arith, ints, o, e)

pub occurs_met : (leaf : LeafModel) (count : Valuation) (q : ℕ) → 1 ≤ count (state_variable leaf q) → MeetsFact count (occurs_fact leaf q)
occurs_met leaf count q l = let o = one_times (count (state_variable leaf q)) in omega (arith, ints, o, l)

alone_met : (leaf : LeafModel) (count : Valuation) (q : ℕ) → count (state_variable leaf q) ≡ 1 → MeetsFact count (alone_fact leaf q)
alone_met leaf count q e = let o = one_times (count (state_variable leaf q)) in omega (arith, ints, o, e)

minus_one_times : (n : ℕ) → n ≤ 1 → pos 0 ≤ℤ ((negsuc 0 *ℤ pos n) +ℤ pos 1)
minus_one_times zero l = rw (*ℤ-zero (negsuc 0)) (omega (arith, ints))
minus_one_times (suc zero) l = omega (arith, ints)
minus_one_times (suc (suc n)) l = absurd (omega arith)

not_twice_met : (leaf : LeafModel) (count : Valuation) (q : ℕ) → count (state_variable leaf q) ≤ 1 → MeetsFact count (not_twice leaf q)
not_twice_met leaf count q l =
    let one = minus_one_times (count (state_variable leaf q)) l in omega (arith, ints, one)

in_range : (a n : ℕ) → All (λ q. q < a + n) (range_with_len a n)
in_range a zero = All-nil (λ (q : ℕ). q < a + 0)
in_range a (suc n) =
    All-cons (λ (q : ℕ). q < a + suc n) a (range_with_len (a + 1) n) (omega arith)
    (λ k d l. omega (arith, in_range (a + 1) n k d l))

-- the counts of the states are those of a crowd
abbrev pub CountsStates : LeafModel → Valuation → List ℕ → Type 0
CountsStates leaf count end = (q : ℕ) → q < length leaf.states → count (state_variable leaf q) ≡ number_in q end

two_kinds : (crowd : List ℕ) (p q : ℕ) → p ≢ q → 1 ≤ number_in p crowd → 1 ≤ number_in q crowd → (z : ℕ) → one_at p z + one_at q z ≤ number_in z crowd
two_kinds crowd p q ne lp lq z = go (eqb_tells p z) (eqb_tells q z)
  where
    go : ((p == z) ≡ true) × (p ≡ z) ⊎ ((p == z) ≡ false) × (p ≢ z) → ((q == z) ≡ true) × (q ≡ z) ⊎ ((q == z) ≡ false) × (q ≢ z) → one_at p z + one_at q z ≤ number_in z crowd
    go (inl e) (inl f) = absurd (ne (e.1 ∙ sym f.1))
    go (inl e) (inr f) = let l : 1 ≤ number_in z crowd = rw (← e.1) lp in rw (e.0, f.0) l
    go (inr e) (inl f) = let l : 1 ≤ number_in z crowd = rw (← f.1) lq in rw (e.0, f.0) l
    go (inr e) (inr f) = rw (e.0, f.0) (omega arith)

twice : (crowd : List ℕ) (p : ℕ) → 2 ≤ number_in p crowd → (z : ℕ) → one_at p z + one_at p z ≤ number_in z crowd
twice crowd p l z = go (eqb_tells p z)
  where
    go : ((p == z) ≡ true) × (p ≡ z) ⊎ ((p == z) ≡ false) × (p ≢ z) → one_at p z + one_at p z ≤ number_in z crowd
    go (inl e) = let m : 2 ≤ number_in z crowd = rw (← e.1) l in rw e.0 m
    go (inr e) = rw e.0 (omega arith)

-- a state that can meet itself occurs at most once
pub once_at_most : (leaf : LeafModel) (crowd : List ℕ) (p : ℕ) → IsTerminal (LeafStep leaf) crowd → can_meet_in leaf p p ≡ true → number_in p crowd ≤ 1
once_at_most leaf crowd p terminal e = go (cases_lt 1 (number_in p crowd))
  where
    go : (1 < number_in p crowd) ⊎ (number_in p crowd ≤ 1) → number_in p crowd ≤ 1
    go (inl l) = absurd (cannot_meet leaf crowd p p terminal e (twice crowd p (let m : 2 ≤ number_in p crowd = omega (arith, l) in m)))
    go (inr l) = l

module _ (leaf : LeafModel) (count : Valuation) (end : List ℕ) (counts : CountsStates leaf count end) (terminal : IsTerminal (LeafStep leaf) end) (p : ℕ) (lp : p < length leaf.states) where
  -- whether a state differs from p, and p can meet it
  abbrev meets : ℕ → Bool
  meets q = not (q == p) && can_meet_in leaf p q

  other_absent : 1 ≤ number_in p end → (q : ℕ) → q < length leaf.states → meets q ≡ true → MeetsFact count (absent_fact leaf q)
  other_absent some q lq e = absent_met leaf count q (counts q lq ∙ zero_there (cases_lt 0 (number_in q end)))
    where
      zero_there : (0 < number_in q end) ⊎ (number_in q end ≤ 0) → number_in q end ≡ 0
      zero_there (inr none) = omega (arith, none)
      zero_there (inl l) =
          absurd (cannot_meet leaf end p q terminal (and_right (not (q == p)) _ e) (two_kinds end p q (apart (and_left _ _ e)) some (let m : 1 ≤ number_in q end = omega (arith, l) in m)))
        where
          apart : not (q == p) ≡ true → p ≢ q
          apart h same = let f : true ≡ false = sym (eq-eqb q p (sym same)) ∙ not-true _ h in cc

  others_met : 1 ≤ number_in p end → All (MeetsFact count) (map (absent_fact leaf) (filter meets (states_of leaf)))
  others_met some =
      All-map (MeetsFact count) (absent_fact leaf) (filter meets (states_of leaf))
      (all_filtered meets (λ q. MeetsFact count (absent_fact leaf q)) (states_of leaf)
      (λ k d l. other_absent some (get_or (states_of leaf) k d) (let low = in_range 0 (length leaf.states) k d l in omega (arith, low))))

  alone_if : 1 ≤ number_in p end → (b : Bool) → can_meet_in leaf p p ≡ b → All (MeetsFact count) (if b then (alone_fact leaf p ∷ []) else [])
  alone_if some true e =
      All-cons (MeetsFact count) (alone_fact leaf p) [] (alone_met leaf count p (omega (arith, some, counts p lp, once_at_most leaf end p terminal e))) (All-nil (MeetsFact count))
  alone_if some false e = All-nil (MeetsFact count)

  -- the counts of a terminal end meet all facts of one of the cases
  pub present_met : MeetsOne count (cases_of_present leaf p)
  present_met = go (cases_lt 0 (number_in p end))
    where
      go : (0 < number_in p end) ⊎ (number_in p end ≤ 0) → MeetsOne count (cases_of_present leaf p)
      go (inr none) =
          in_first count (absent_fact leaf p ∷ []) ((occurs_fact leaf p ∷ map (absent_fact leaf) (filter meets (states_of leaf)) ++ (if can_meet_in leaf p p then (alone_fact leaf p ∷ []) else [])) ∷ [])
          (All-cons (MeetsFact count) (absent_fact leaf p) [] (absent_met leaf count p (omega (arith, none, counts p lp))) (All-nil (MeetsFact count)))
      go (inl l) =
          let some : 1 ≤ number_in p end = omega (arith, l) in
          in_rest count (absent_fact leaf p ∷ []) ((occurs_fact leaf p ∷ map (absent_fact leaf) (filter meets (states_of leaf)) ++ (if can_meet_in leaf p p then (alone_fact leaf p ∷ []) else [])) ∷ [])
          (in_first count (occurs_fact leaf p ∷ map (absent_fact leaf) (filter meets (states_of leaf)) ++ (if can_meet_in leaf p p then (alone_fact leaf p ∷ []) else [])) []
          (All-append (MeetsFact count) (occurs_fact leaf p ∷ map (absent_fact leaf) (filter meets (states_of leaf))) (if can_meet_in leaf p p then (alone_fact leaf p ∷ []) else [])
          (All-cons (MeetsFact count) (occurs_fact leaf p) (map (absent_fact leaf) (filter meets (states_of leaf))) (occurs_met leaf count p (omega (arith, some, counts p lp))) (others_met some))
          (alone_if some (can_meet_in leaf p p) refl)))

  -- if the state can meet itself, they meet its one fact
  pub twin_met : can_meet_in leaf p p ≡ true → MeetsOne count ((not_twice leaf p ∷ []) ∷ [])
  twin_met e =
      in_first count (not_twice leaf p ∷ []) []
      (All-cons (MeetsFact count) (not_twice leaf p) [] (not_twice_met leaf count p (omega (arith, counts p lp, once_at_most leaf end p terminal e))) (All-nil (MeetsFact count)))
