-- Every end meets a case of a `First` node, or its set was entered before.
use Rattle.std.proofs.Common.{◌≡◌, ◌≢◌, ◌⊎◌, inl, inr, ℕ, zero, suc, ◌+◌, ◌<◌, ◌≤◌, Bool, true, false, not, ◌&&◌, cond, List, [], ◌∷◌, ◌++◌, length, map, refl, ap, sym, subst, ◌∙◌, arith}
use Rattle.std.specs.Prelude.{Some, pos, negsuc, ◌-ℤ◌, ◌==◌, slice_get, All, Contains, filter, if◌then◌else◌}
use Rattle.std.proofs.lemmas.Int.{ints}
use Rattle.std.proofs.lemmas.Bool.{eq-eqb, eqb-true, cases_lt, or_from}
use Rattle.std.proofs.lemmas.List.Elements.{All-nil, All-cons, All-append}
use Rattle.pop_leaf.specs.declared.leaf.Move.{Move}
use Rattle.pop_leaf.specs.LeafModel.{LeafModel, IsLeaf, one_at}
use Rattle.pop_leaf.specs.InputCrowd.{leaf_input_crowd}
use Rattle.pop_leaf.specs.Reachable.{Leads}
use Rattle.pop_leaf.specs.Step.{Follows, LeafMove, LeafChange, LeafStep}
use Rattle.pop_leaf.proofs.Quiet.{All-slice_get}
use Rattle.pop_leaf.proofs.Crowds.{none_terminal}
use Rattle.cert_base.specs.declared.fact.Fact.{Fact}
use Rattle.cert_base.specs.declared.fact.Fact.TheVariants.{Ge, Eq}
use Rattle.cert_base.specs.Rows.{single_row, input_row, state_variable}
use Rattle.cert_base.specs.Valuation.{Valuation, MeetsFact, is_by, times_taken, IsOfExecution}
use Rattle.cert_base.specs.FactsAndCases.{indicator, states_of, flow, is_in, takes_from, puts_into, touches, enters, helpers_among, no_moves, no_start_facts, no_helper_facts, count_row, occurs_fact, is_about_inputs, is_possible, before_entry, cases_of_first, cases_of_entry}
use Rattle.cert_base.specs.Ends.{IsEndFor, MeetsAll, MeetsOne}
use Rattle.cert_base.specs.FirstEntry.{IsEntered, CoverFirst}
use Rattle.cert_base.proofs.Agents.{InRange}
use Rattle.cert_base.proofs.Dead.{one_there, two_there}
use Rattle.cert_base.proofs.Numbers.{number_in}
use Rattle.cert_base.proofs.Executions.{count_for, execution_has, flows_met, about_inputs-same}
use Rattle.cert_base.proofs.Indicators.{sum_if}
use Rattle.cert_base.proofs.InRange.{end_in_range}
use Rattle.cert_base.proofs.Openings.{in_first, in_rest}
use Rattle.cert_traps.proofs.PresentEnds.{one_times, occurs_met}
use Rattle.cert_traps.proofs.TakenMoves.{sum_zero, others_untaken, untaken_met}
use Rattle.cert_traps.proofs.TrapEnds.{NoneIn, not_started, not_helped}
use Rattle.cert_traps.proofs.SiphonEnds.{NoneInside, takes_by, both_outside, x_outside, y_outside, nobody_after, none_at_start, second_met, outside_met, empty_met}
use Rattle.base_laws.proofs.Lists.{has_first, has_later, has_map, all_filtered}

-- two agents can take a move that enters the set
record CanEnter (leaf : LeafModel) (set crowd : List ℕ) : Type 0 where
  number : ℕ
  taken : Move
  listed : slice_get leaf.moves number ≡ Some taken
  entering : enters set taken ≡ true
  a : ℕ
  b : ℕ
  different : a ≢ b
  a_had : slice_get crowd a ≡ Some taken.p
  b_had : slice_get crowd b ≡ Some taken.q

-- no move that touches the set is taken
abbrev IsUntouched : (leaf : LeafModel) (set start : List ℕ) (path : List (List ℕ)) (end : List ℕ) → Leads (LeafStep leaf) start path end → Type 0
IsUntouched leaf set start path end way =
    (n : ℕ) (t : Move) → slice_get leaf.moves n ≡ Some t → touches set t ≡ true → times_taken leaf n start path end way ≡ 0

-- the way to the first crowd in which such a move is possible
record FirstEntry (leaf : LeafModel) (set start : List ℕ) : Type 0 where
  path : List (List ℕ)
  crowd : List ℕ
  way : Leads (LeafStep leaf) start path crowd
  outside : NoneInside set crowd
  untouched : IsUntouched leaf set start path crowd way
  entry : CanEnter leaf set crowd

enters_by : (a b : Bool) → a ≡ true → b ≡ false → a && not b ≡ true
enters_by a b e f = rw (e, f) refl

module _ (leaf : LeafModel) (set before after : List ℕ) (s : LeafStep leaf before after) (none : NoneInside set before) where
  agents_of : (m : LeafMove leaf s.x s.y s.x' s.y') → enters set m.taken ≡ true → Follows m.taken s.x s.y s.x' s.y' ⊎ Follows m.taken s.y s.x s.y' s.x' → CanEnter leaf set before
  agents_of m e (inl f) = record {
    number = m.number;
    taken = m.taken;
    listed = m.listed;
    entering = e;
    a = s.a;
    b = s.b;
    different = s.different;
    a_had = s.a_had ∙ ap Some f.0;
    b_had = s.b_had ∙ ap Some f.1;
  }
  agents_of m e (inr f) = record {
    number = m.number;
    taken = m.taken;
    listed = m.listed;
    entering = e;
    a = s.b;
    b = s.a;
    different = λ same. s.different (sym same);
    a_had = s.b_had ∙ ap Some f.0;
    b_had = s.a_had ∙ ap Some f.1;
  }

  -- a step from outside the set enters it, or stays outside and takes no move that touches it
  step_first : (c : LeafChange leaf s.x s.y s.x' s.y') → (NoneInside set after × ((n : ℕ) (t : Move) → slice_get leaf.moves n ≡ Some t → touches set t ≡ true → is_by n c ≡ 0)) ⊎ CanEnter leaf set before
  step_first (inl stay) =
      inl (
        nobody_after leaf set before after s none (ap (is_in set) stay.0 ∙ x_outside leaf set before after s none, ap (is_in set) stay.1 ∙ y_outside leaf set before after s none),
        λ n t h e. refl,
      )
  step_first (inr m) = by_puts (puts_into set m.taken) refl
    where
      takes : takes_from set m.taken ≡ false
      takes =
          takes_by set m.taken s.x s.y s.x' s.y' m.followed (x_outside leaf set before after s none) (y_outside leaf set before after s none)

      by_puts : (b : Bool) → puts_into set m.taken ≡ b → (NoneInside set after × ((n : ℕ) (t : Move) → slice_get leaf.moves n ≡ Some t → touches set t ≡ true → one_at m.number n ≡ 0)) ⊎ CanEnter leaf set before
      by_puts true puts = inr (agents_of m (enters_by _ _ puts takes) m.followed)
      by_puts false puts =
          inl (
            nobody_after leaf set before after s none (both_outside set m.taken s.x s.y s.x' s.y' m.followed puts),
            others_untaken leaf (touches set) m.number m.taken m.listed (or_from _ _ takes puts),
          )

both_none : (a b : ℕ) → a ≡ 0 → b ≡ 0 → a + b ≡ 0
both_none a b e f = omega (arith, e, f)

-- a step that doesn't touch the set, and what comes then
onward : (leaf : LeafModel) (set start next : List ℕ) (path : List (List ℕ)) (end : List ℕ) (way : Leads (LeafStep leaf) start (next ∷ path) end) → ((n : ℕ) (t : Move) → slice_get leaf.moves n ≡ Some t → touches set t ≡ true → is_by n way.0.change ≡ 0) → (NoneInside set end × IsUntouched leaf set next path end way.1) ⊎ FirstEntry leaf set next → (NoneInside set end × IsUntouched leaf set start (next ∷ path) end way) ⊎ FirstEntry leaf set start
onward leaf set start next path end way step (inl rest) =
    inl (rest.0, λ n t h l. both_none (is_by n way.0.change) (times_taken leaf n next path end way.1) (step n t h l) (rest.1 n t h l))
onward leaf set start next path end way step (inr e) = inr (record {
  path = next ∷ e.path;
  crowd = e.crowd;
  way = (way.0, e.way);
  outside = e.outside;
  untouched = λ n t h l. both_none (is_by n way.0.change) (times_taken leaf n next e.path e.crowd e.way) (step n t h l) (e.untouched n t h l);
  entry = e.entry;
})

-- from outside the set it is entered, or nobody ever is in it
walk_first : (leaf : LeafModel) (set start : List ℕ) (path : List (List ℕ)) (end : List ℕ) (way : Leads (LeafStep leaf) start path end) → NoneInside set start → (NoneInside set end × IsUntouched leaf set start path end way) ⊎ FirstEntry leaf set start
walk_first leaf set start [] end way none =
    inl (subst (λ (c : List ℕ). NoneInside set c) (sym way) none, λ n t h e. refl)
walk_first leaf set start (next ∷ path) end way none =
    elim (step_first leaf set start next way.0 none way.0.change) [
      | inl f ↦ onward leaf set start next path end way f.1 (walk_first leaf set next path end way.1 f.0)
      | inr e ↦
          inr (record {
            path = [];
            crowd = start;
            way = refl;
            outside = none;
            untouched = λ n t h l. refl;
            entry = e;
          })
    ]

filtered_has : {A : Type 0} (test : A → Bool) (xs : List A) (k : ℕ) (x : A) → slice_get xs k ≡ Some x → test x ≡ true → Contains (filter test xs) x
filtered_has test [] k x h e = cc
filtered_has {A} test (y ∷ xs) k x h e =
    go k h (λ j there. filtered_has test xs j x there e) (test y) refl
  where
    go : (k : ℕ) → slice_get (y ∷ xs) k ≡ Some x → ((j : ℕ) → slice_get xs j ≡ Some x → Contains (filter test xs) x) → (b : Bool) → test y ≡ b → Contains (cond b (y ∷ filter test xs) (filter test xs)) x
    go zero h later true f = let same : y ≡ x = cc in subst (λ z. Contains (z ∷ filter test xs) x) (sym same) (has_first x (filter test xs))
    go zero h later false f = let same : y ≡ x = cc in let g : true ≡ false = sym e ∙ ap test (sym same) ∙ f in cc
    go (suc j) h later true f = has_later x y (filter test xs) (later j h)
    go (suc j) h later false f = later j h

module _ (leaf dead : LeafModel) (set : List ℕ) (facts : List Fact) (count : Valuation) (is : IsLeaf leaf) (end : IsEndFor leaf dead count) (met : MeetsAll count facts) (start_none : NoneInside set (leaf_input_crowd leaf end.counts)) (e : FirstEntry leaf set (leaf_input_crowd leaf end.counts)) where
  abbrev before : Valuation
  before =
      count_for leaf end.counts e.crowd (λ t. times_taken leaf t (leaf_input_crowd leaf end.counts) e.path e.crowd e.way)

  execution : IsOfExecution leaf before end.counts e.path e.crowd e.way
  execution = execution_has leaf end.counts e.path e.crowd e.way

  range : InRange leaf e.crowd
  range = end_in_range leaf is end.counts e.path e.crowd end.input.one_each e.way

  start_in : NoneIn set (leaf_input_crowd leaf end.counts)
  start_in a x h =
      All-slice_get (λ (q : ℕ). is_in set q ≡ false) (leaf_input_crowd leaf end.counts) a x start_none h

  same_inputs : (i : ℕ) → i < length leaf.inputs → before i ≡ count i
  same_inputs i l = execution.inputs i l ∙ sym (end.execution.inputs i l)

  about_met : All (MeetsFact before) (filter (is_about_inputs leaf) facts)
  about_met =
      all_filtered (is_about_inputs leaf) (MeetsFact before) facts
      (λ k d l. about_inputs-same leaf count before same_inputs _ (met k d l))

  before_met : MeetsAll before (before_entry leaf set facts)
  before_met =
      All-append (MeetsFact before)
      (map (flow leaf) (states_of leaf) ++ filter (is_about_inputs leaf) facts ++ no_moves leaf (touches set) ++ no_start_facts leaf set) (Eq (count_row leaf set (pos 0)) ∷ no_helper_facts leaf set)
      (All-append (MeetsFact before) (map (flow leaf) (states_of leaf) ++ filter (is_about_inputs leaf) facts ++ no_moves leaf (touches set)) (no_start_facts leaf set)
      (All-append (MeetsFact before) (map (flow leaf) (states_of leaf) ++ filter (is_about_inputs leaf) facts) (no_moves leaf (touches set))
      (All-append (MeetsFact before) (map (flow leaf) (states_of leaf)) (filter (is_about_inputs leaf) facts) (flows_met leaf before end.counts e.path e.crowd e.way end.input.one_each execution) about_met)
      (untaken_met leaf before (touches set) (λ n. times_taken leaf n (leaf_input_crowd leaf end.counts) e.path e.crowd e.way) execution.moves e.untouched))
      (not_started leaf set before end.counts e.path e.crowd e.way execution range start_in))
      (All-cons (MeetsFact before) (Eq (count_row leaf set (pos 0))) (no_helper_facts leaf set)
      (empty_met leaf set before end.counts e.path e.crowd e.way end.input.one_each execution e.outside)
      (not_helped leaf set before end.counts e.path e.crowd e.way execution range start_in))

  abbrev t : Move
  t = e.entry.taken

  there : (q a : ℕ) → slice_get e.crowd a ≡ Some q → (q < length leaf.states) × (before (state_variable leaf q) ≡ number_in q e.crowd) × (1 ≤ number_in q e.crowd)
  there q a h =
      let below = All-slice_get (λ (q : ℕ). q < length leaf.states) e.crowd a q range h in
      let one : one_at q q ≡ 1 = rw (eq-eqb q q refl) refl in
      let some = one_there q e.crowd a q h in
      (below, execution.states q below, (let l : 1 ≤ number_in q e.crowd = omega (arith, one, some) in l))

  both_met : t.p ≡ t.q → MeetsFact before (Ge (single_row (state_variable leaf t.p) (pos 1) (negsuc 1)))
  both_met same =
      let here = there t.p e.entry.a e.entry.a_had in
      let two = two_there t.p e.crowd e.entry.a e.entry.b t.p t.q e.entry.different e.entry.a_had e.entry.b_had in
      let one : one_at t.p t.p ≡ 1 = rw (eq-eqb t.p t.p refl) refl in
      let other : one_at t.q t.p ≡ 1 = rw (eq-eqb t.q t.p (sym same)) refl in
      let counted = here.1 in
      let times = one_times (before (state_variable leaf t.p)) in
      omega (arith, ints, two, one, other, counted, times)

  each_met : (q a : ℕ) → slice_get e.crowd a ≡ Some q → MeetsFact before (occurs_fact leaf q)
  each_met q a h =
      let here = there q a h in
      let counted = here.1 in
      let some = here.2 in
      occurs_met leaf before q (omega (arith, counted, some))

  possible_met : (b : Bool) → (t.p == t.q) ≡ b → MeetsAll before (if b then (Ge (single_row (state_variable leaf t.p) (pos 1) (negsuc 1)) ∷ []) else (occurs_fact leaf t.p ∷ occurs_fact leaf t.q ∷ []))
  possible_met true same =
      All-cons (MeetsFact before) (Ge (single_row (state_variable leaf t.p) (pos 1) (negsuc 1))) [] (both_met (eqb-true t.p t.q same)) (All-nil (MeetsFact before))
  possible_met false differ =
      All-cons (MeetsFact before) (occurs_fact leaf t.p) (occurs_fact leaf t.q ∷ []) (each_met t.p e.entry.a e.entry.a_had)
      (All-cons (MeetsFact before) (occurs_fact leaf t.q) [] (each_met t.q e.entry.b e.entry.b_had) (All-nil (MeetsFact before)))

  entry_met : MeetsOne before (cases_of_entry leaf set)
  entry_met = (
    is_possible leaf t,
    has_map (is_possible leaf) (filter (enters set) leaf.moves) t (filtered_has (enters set) leaf.moves e.entry.number t e.entry.listed e.entry.entering),
    possible_met (t.p == t.q) refl,
  )

  is_entered : IsEntered leaf set facts
  is_entered = record {
    count = before;
    reached =
        record {
          counts = end.counts;
          path = e.path;
          end = e.crowd;
          way = e.way;
          input = end.input;
          terminal = none_terminal leaf [] e.crowd (λ number a b u m. absurd (omega (arith, m.kept_is.1)));
          execution = execution;
        };
    before = before_met;
    entry = entry_met;
  }

abbrev started_case : LeafModel → List ℕ → List Fact
started_case leaf set =
    Ge (input_row (map (λ start. indicator (is_in set start)) leaf.inputs) (pos (helpers_among leaf set) -ℤ pos 1)) ∷ []

abbrev never_case : LeafModel → List ℕ → List Fact
never_case leaf set = no_moves leaf (touches set) ++ Eq (count_row leaf set (pos 0)) ∷ []

pub first-cover : (leaf : LeafModel) (set : List ℕ) → IsLeaf leaf → CoverFirst leaf set
first-cover leaf set is dead facts count end met =
    by_start (cases_lt 0 (sum_if count (is_in set) 0 leaf.inputs + helpers_among leaf set))
  where
    by_walk : (none : NoneInside set (leaf_input_crowd leaf end.counts)) → (NoneInside set end.end × IsUntouched leaf set (leaf_input_crowd leaf end.counts) end.path end.end end.way) ⊎ FirstEntry leaf set (leaf_input_crowd leaf end.counts) → MeetsOne count (cases_of_first leaf set) ⊎ IsEntered leaf set facts
    by_walk none (inr e) = inr (is_entered leaf dead set facts count is end met none e)
    by_walk none (inl f) =
        inl (in_rest count (started_case leaf set) (never_case leaf set ∷ []) (in_first count (never_case leaf set) [] (outside_met leaf set count end.counts end.path end.end end.way end.input.one_each end.execution (touches set) f.0 f.1)))

    by_start : (0 < sum_if count (is_in set) 0 leaf.inputs + helpers_among leaf set) ⊎ (sum_if count (is_in set) 0 leaf.inputs + helpers_among leaf set ≤ 0) → MeetsOne count (cases_of_first leaf set) ⊎ IsEntered leaf set facts
    by_start (inl l) =
        inl (in_first count (started_case leaf set) (never_case leaf set ∷ []) (second_met leaf set count end.counts end.path end.end end.way end.input.one_each end.execution l))
    by_start (inr l) =
        let given = sum_zero (sum_if count (is_in set) 0 leaf.inputs) (helpers_among leaf set) (omega (arith, l)) in
        let none = none_at_start leaf set count end.counts end.path end.end end.way end.input.one_each end.execution given.0 given.1 in
        by_walk none (walk_first leaf set (leaf_input_crowd leaf end.counts) end.path end.end end.way none)
