-- At the end of an execution the counts meet all facts of one of the cases of a `Siphon` node.
use Rattle.std.proofs.Common.{◌≡◌, ◌≢◌, ◌⊎◌, inl, inr, ℕ, suc, ◌+◌, ◌<◌, ◌≤◌, Bool, true, false, List, [], ◌∷◌, ◌++◌, length, map, replicate, refl, ap, sym, subst, ◌∙◌, zero-add, arith}
use Rattle.std.specs.Prelude.{Some, pos, negsuc, ◌==◌, slice_get, slice_set, slice_index, All, count_by, ◌-ℤ◌}
use Rattle.std.proofs.lemmas.Int.{ints}
use Rattle.std.proofs.lemmas.Bool.{cases_lt, or_from, or_parts}
use Rattle.std.proofs.lemmas.Bool.Decides.{eqb_tells}
use Rattle.std.proofs.lemmas.List.Elements.{All-nil, All-cons, All-append, All-replicate, All-set}
use Rattle.std.proofs.lemmas.List.FromFn.{length-range_with_len}
use Rattle.std.proofs.lemmas.List.Sums.{sum_by-cons}
use Rattle.std.proofs.lemmas.Option.{slice_get_within, slice_get-get_or}
use Rattle.pop_leaf.specs.declared.leaf.Move.{Move}
use Rattle.pop_leaf.specs.LeafModel.{LeafModel, one_at}
use Rattle.pop_leaf.specs.InputCrowd.{starts_from, leaf_input_crowd}
use Rattle.pop_leaf.specs.Reachable.{Leads}
use Rattle.pop_leaf.specs.Step.{Follows, LeafChange, LeafStep}
use Rattle.pop_leaf.proofs.Quiet.{All-slice_get}
use Rattle.cert_base.specs.declared.fact.Fact.{Fact}
use Rattle.cert_base.specs.declared.fact.Fact.TheVariants.{Ge, Eq}
use Rattle.cert_base.specs.Rows.{input_row}
use Rattle.cert_base.specs.Valuation.{Valuation, MeetsFact, is_by, times_taken, IsOfExecution}
use Rattle.cert_base.specs.FactsAndCases.{indicator, states_of, is_in, takes_from, puts_into, enters, helpers_among, no_moves, some_taken_fact, count_row, cases_of_siphon}
use Rattle.cert_base.specs.Ends.{MeetsOne}
use Rattle.cert_base.proofs.Dead.{number_in-cons}
use Rattle.cert_base.proofs.Numbers.{number_in}
use Rattle.cert_base.proofs.FlowFacts.{terms_value-terms_from}
use Rattle.cert_base.proofs.Indicators.{sum_if, dot-indicators, row_value-behind, sum_if-none, sum_if-zero}
use Rattle.cert_base.proofs.WrongEnds.{range_get}
use Rattle.cert_base.proofs.Openings.{in_first, in_rest}
use Rattle.cert_traps.proofs.TakenMoves.{sum_zero, taken_fails, others_untaken, untaken_met}
use Rattle.cert_traps.proofs.TrapEnds.{takes_none, bit}

-- no agent is in a state of the set
abbrev pub NoneInside : List ℕ → List ℕ → Type 0
NoneInside set crowd = All (λ q. is_in set q ≡ false) crowd

pub takes_by : (set : List ℕ) (t : Move) (x y x' y' : ℕ) → Follows t x y x' y' ⊎ Follows t y x y' x' → is_in set x ≡ false → is_in set y ≡ false → takes_from set t ≡ false
takes_by set t x y x' y' (inl f) e g = or_from _ _ (ap (is_in set) (sym f.0) ∙ e) (ap (is_in set) (sym f.1) ∙ g)
takes_by set t x y x' y' (inr f) e g = or_from _ _ (ap (is_in set) (sym f.0) ∙ g) (ap (is_in set) (sym f.1) ∙ e)

pub both_outside : (set : List ℕ) (t : Move) (x y x' y' : ℕ) → Follows t x y x' y' ⊎ Follows t y x y' x' → puts_into set t ≡ false → (is_in set x' ≡ false) × (is_in set y' ≡ false)
both_outside set t x y x' y' (inl f) e = (ap (is_in set) f.2 ∙ (or_parts _ _ e).0, ap (is_in set) f.3 ∙ (or_parts (is_in set t.r) _ e).1)
both_outside set t x y x' y' (inr f) e = (ap (is_in set) f.3 ∙ (or_parts (is_in set t.r) _ e).1, ap (is_in set) f.2 ∙ (or_parts _ _ e).0)

module _ (leaf : LeafModel) (set : List ℕ) (before after : List ℕ) (s : LeafStep leaf before after) (none : NoneInside set before) where
  pub x_outside : is_in set s.x ≡ false
  x_outside = All-slice_get (λ (q : ℕ). is_in set q ≡ false) before s.a s.x none s.a_had

  pub y_outside : is_in set s.y ≡ false
  y_outside = All-slice_get (λ (q : ℕ). is_in set q ≡ false) before s.b s.y none s.b_had

  -- if neither agent goes into the set, nobody is in it
  pub nobody_after : (is_in set s.x' ≡ false) × (is_in set s.y' ≡ false) → NoneInside set after
  nobody_after e =
      subst (λ (c : List ℕ). NoneInside set c) (sym s.others_stay)
      (All-set (λ (q : ℕ). is_in set q ≡ false) (slice_set before s.a s.x') s.b s.y' e.1 (All-set (λ (q : ℕ). is_in set q ≡ false) before s.a s.x' e.0 none))

  -- a step from outside the set takes nothing from it, and stays outside unless it enters
  step_on : (c : LeafChange leaf s.x s.y s.x' s.y') → ((n : ℕ) (t : Move) → slice_get leaf.moves n ≡ Some t → enters set t ≡ true → is_by n c ≡ 0) → NoneInside set after × ((n : ℕ) (t : Move) → slice_get leaf.moves n ≡ Some t → takes_from set t ≡ true → is_by n c ≡ 0)
  step_on (inl stay) untaken = (nobody_after (ap (is_in set) stay.0 ∙ x_outside, ap (is_in set) stay.1 ∙ y_outside), λ n t h e. refl)
  step_on (inr m) untaken =
      let takes = takes_by set m.taken s.x s.y s.x' s.y' m.followed x_outside y_outside in
      let stays = taken_fails leaf (enters set) m.number m.taken m.listed untaken in
      let puts = takes_none (puts_into set m.taken) (takes_from set m.taken) stays takes in
      (nobody_after (both_outside set m.taken s.x s.y s.x' s.y' m.followed puts), others_untaken leaf (takes_from set) m.number m.taken m.listed takes)

-- the same over a whole path
way_on : (leaf : LeafModel) (set : List ℕ) (start : List ℕ) (path : List (List ℕ)) (end : List ℕ) (way : Leads (LeafStep leaf) start path end) → NoneInside set start → ((n : ℕ) (t : Move) → slice_get leaf.moves n ≡ Some t → enters set t ≡ true → times_taken leaf n start path end way ≡ 0) → NoneInside set end × ((n : ℕ) (t : Move) → slice_get leaf.moves n ≡ Some t → takes_from set t ≡ true → times_taken leaf n start path end way ≡ 0)
way_on leaf set start [] end way none enters = (subst (λ (c : List ℕ). NoneInside set c) (sym way) none, λ n t h e. refl)
way_on leaf set start (next ∷ path) end way none enters =
    let first = step_on leaf set start next way.0 none way.0.change (λ n t h e. (sum_zero (is_by n way.0.change) (times_taken leaf n next path end way.1) (enters n t h e)).0) in
    let later = way_on leaf set next path end way.1 first.0 (λ n t h e. (sum_zero (is_by n way.0.change) (times_taken leaf n next path end way.1) (enters n t h e)).1) in
    (later.0, λ n t h e. (let a = first.1 n t h e in let b = later.1 n t h e in let f : is_by n way.0.change + times_taken leaf n next path end way.1 ≡ 0 = omega (arith, a, b) in f))

-- if no input that starts in the set is given, nobody starts in it
starts_outside : (set : List ℕ) (start : ℕ → ℕ) (k : ℕ) (counts : List ℕ) → ((i : ℕ) → i < length counts → is_in set (start (k + i)) ≡ true → slice_index counts i ≡ 0) → NoneInside set (starts_from start k counts)
starts_outside set start k [] f = All-nil (λ (q : ℕ). is_in set q ≡ false)
starts_outside set start k (n ∷ counts) f =
    All-append (λ (q : ℕ). is_in set q ≡ false) (replicate n (start k)) (starts_from start (k + 1) counts)
    (copies n (is_in set (start k)) refl (λ e. f 0 (omega arith) (ap (λ j. is_in set (start j)) (let g : k + 0 ≡ k = omega arith in g) ∙ e)))
    (starts_outside set start (k + 1) counts (λ i l e. f (suc i) (omega arith) (ap (λ j. is_in set (start j)) (let g : k + suc i ≡ k + 1 + i = omega arith in g) ∙ e)))
  where
    copies : (n : ℕ) (b : Bool) → is_in set (start k) ≡ b → (is_in set (start k) ≡ true → n ≡ 0) → All (λ q. is_in set q ≡ false) (replicate n (start k))
    copies n false e g = All-replicate (λ (q : ℕ). is_in set q ≡ false) n (start k) e
    copies n true e g =
        subst (λ (m : ℕ). All (λ q. is_in set q ≡ false) (replicate m (start k))) (sym (g e)) (All-nil (λ (q : ℕ). is_in set q ≡ false))

-- if no items that pass a test are counted, all fail it
none_pass : {A : Type 0} (test : A → Bool) (xs : List A) → count_by test xs ≡ 0 → All (λ x. test x ≡ false) xs
none_pass test [] e = All-nil (λ x. test x ≡ false)
none_pass {A} test (x ∷ xs) e =
    let both = sum_zero (bit (test x)) (count_by test xs) (sym (sum_by-cons (λ y. bit (test y)) x xs) ∙ e) in
    All-cons (λ y. test y ≡ false) x xs (fails (test x) both.0) (none_pass test xs both.1)
  where
    fails : (b : Bool) → bit b ≡ 0 → b ≡ false
    fails false e = refl
    fails true e = absurd (omega (arith, e))

-- nobody is in a state of the set
number-outside : (set : List ℕ) (q : ℕ) (crowd : List ℕ) → is_in set q ≡ true → NoneInside set crowd → number_in q crowd ≡ 0
number-outside set q [] e none = refl
number-outside set q (x ∷ crowd) e none =
    let rest = number-outside set q crowd e (λ k d l. none (suc k) d (omega (arith, l))) in
    let first : is_in set x ≡ false = none 0 x (omega arith) in
    number_in-cons q x crowd ∙ go first rest (eqb_tells x q)
  where
    go : is_in set x ≡ false → number_in q crowd ≡ 0 → ((x == q) ≡ true) × (x ≡ q) ⊎ ((x == q) ≡ false) × (x ≢ q) → one_at x q + number_in q crowd ≡ 0
    go first rest (inl k) = let f : true ≡ false = sym e ∙ ap (is_in set) (sym k.1) ∙ first in cc
    go first rest (inr k) = rw k.0 (omega (arith, rest))

module _ (leaf : LeafModel) (set : List ℕ) (count : Valuation) (counts : List ℕ) (path : List (List ℕ)) (end : List ℕ) (way : Leads (LeafStep leaf) (leaf_input_crowd leaf counts) path end) (long : length counts ≡ length leaf.inputs) (is : IsOfExecution leaf count counts path end way) where
  abbrev places : ℕ
  places = length leaf.inputs + length leaf.states

  -- if no move entered the set, no such move was taken
  not_entered : sum_if count (enters set) places leaf.moves ≡ 0 → (n : ℕ) (t : Move) → slice_get leaf.moves n ≡ Some t → enters set t ≡ true → times_taken leaf n (leaf_input_crowd leaf counts) path end way ≡ 0
  not_entered e n t h l =
      sym (is.moves n (slice_get_within leaf.moves n t h)) ∙ sum_if-none count (enters set) places leaf.moves e n t h l

  -- if no input of the set is counted, no agent of an input starts in it
  given_outside : sum_if count (is_in set) 0 leaf.inputs ≡ 0 → NoneInside set (starts_from (λ variable. slice_index leaf.inputs variable) 0 counts)
  given_outside e =
      starts_outside set (λ variable. slice_index leaf.inputs variable) 0 counts
      (λ i l h. let m : i < length leaf.inputs = omega (arith, l, long) in
      let there : slice_get leaf.inputs i ≡ Some (slice_index leaf.inputs i) = slice_get-get_or leaf.inputs i 0 m in
      sym (is.inputs i m) ∙ ap count (sym (zero-add i)) ∙ sum_if-none count (is_in set) 0 leaf.inputs e i (slice_index leaf.inputs i) there (ap (λ j. is_in set (slice_index leaf.inputs j)) (sym (zero-add i)) ∙ h))

  -- if no input of the set is counted and no helper is in it, nobody starts in it
  pub none_at_start : sum_if count (is_in set) 0 leaf.inputs ≡ 0 → helpers_among leaf set ≡ 0 → NoneInside set (leaf_input_crowd leaf counts)
  none_at_start e none =
      All-append (λ (q : ℕ). is_in set q ≡ false) (starts_from (λ variable. slice_index leaf.inputs variable) 0 counts) leaf.helpers (given_outside e) (none_pass (is_in set) leaf.helpers none)

  pub none_counted : NoneInside set end → sum_if count (is_in set) (length leaf.inputs) (states_of leaf) ≡ 0
  none_counted none =
      sum_if-zero count (is_in set) (length leaf.inputs) (states_of leaf)
      (λ j q h e. let state = range_state j q h in
      ap (λ z. count (length leaf.inputs + z)) (sym state.1) ∙ is.states q state.0 ∙ number-outside set q end e none)
    where
      range_state : (j q : ℕ) → slice_get (states_of leaf) j ≡ Some q → (q < length leaf.states) × (q ≡ j)
      range_state j q h =
          let within : j < length leaf.states = omega (arith, slice_get_within (states_of leaf) j q h, length-range_with_len 0 (length leaf.states)) in
          let there = range_get (length leaf.states) j within in
          let same : q ≡ j = cc in
          (omega (arith, within, same), same)

  pub empty_met : NoneInside set end → MeetsFact count (Eq (count_row leaf set (pos 0)))
  empty_met none =
      let row = row_value-behind count (is_in set) (length leaf.inputs) (states_of leaf) (pos 0) in
      let zero_sum = none_counted none in
      omega (arith, ints, row, zero_sum)

  abbrev first_case : List Fact
  first_case = some_taken_fact leaf (enters set) ∷ []

  abbrev pub second_case : List Fact
  second_case = Ge (input_row (map (λ start. indicator (is_in set start)) leaf.inputs) (pos (helpers_among leaf set) -ℤ pos 1)) ∷ []

  pub second_met : 0 < sum_if count (is_in set) 0 leaf.inputs + helpers_among leaf set → All (MeetsFact count) second_case
  second_met l =
      let terms = terms_value-terms_from count 0 (map (λ start. indicator (is_in set start)) leaf.inputs) in
      let sum = dot-indicators count (is_in set) 0 leaf.inputs in
      All-cons (MeetsFact count) (Ge (input_row (map (λ start. indicator (is_in set start)) leaf.inputs) (pos (helpers_among leaf set) -ℤ pos 1))) [] (omega (arith, ints, terms, sum, l)) (All-nil (MeetsFact count))

  abbrev third_case : List Fact
  third_case = no_moves leaf (takes_from set) ++ Eq (count_row leaf set (pos 0)) ∷ []

  -- if nobody is in the set, and no move that passes a test was taken
  pub outside_met : (test : Move → Bool) → NoneInside set end → ((n : ℕ) (t : Move) → slice_get leaf.moves n ≡ Some t → test t ≡ true → times_taken leaf n (leaf_input_crowd leaf counts) path end way ≡ 0) → All (MeetsFact count) (no_moves leaf test ++ Eq (count_row leaf set (pos 0)) ∷ [])
  outside_met test none untaken =
      All-append (MeetsFact count) (no_moves leaf test) (Eq (count_row leaf set (pos 0)) ∷ []) (untaken_met leaf count test (λ n. times_taken leaf n (leaf_input_crowd leaf counts) path end way) is.moves untaken)
      (All-cons (MeetsFact count) (Eq (count_row leaf set (pos 0))) [] (empty_met none) (All-nil (MeetsFact count)))

  third_met : sum_if count (enters set) places leaf.moves ≡ 0 → sum_if count (is_in set) 0 leaf.inputs + helpers_among leaf set ≡ 0 → All (MeetsFact count) third_case
  third_met e f =
      let given = sum_zero (sum_if count (is_in set) 0 leaf.inputs) (helpers_among leaf set) f in
      let on = way_on leaf set (leaf_input_crowd leaf counts) path end way (none_at_start given.0 given.1) (not_entered e) in
      outside_met (takes_from set) on.0 on.1

  -- the counts of an execution meet all facts of one of the cases
  pub siphon_met : MeetsOne count (cases_of_siphon leaf set)
  siphon_met = first (cases_lt 0 (sum_if count (enters set) places leaf.moves))
    where
      second : sum_if count (enters set) places leaf.moves ≡ 0 → (0 < sum_if count (is_in set) 0 leaf.inputs + helpers_among leaf set) ⊎ (sum_if count (is_in set) 0 leaf.inputs + helpers_among leaf set ≤ 0) → MeetsOne count (cases_of_siphon leaf set)
      second e (inl l) =
          in_rest count first_case (second_case ∷ third_case ∷ []) (in_first count second_case (third_case ∷ []) (second_met l))
      second e (inr l) =
          in_rest count first_case (second_case ∷ third_case ∷ []) (in_rest count second_case (third_case ∷ []) (in_first count third_case [] (third_met e (let f : sum_if count (is_in set) 0 leaf.inputs + helpers_among leaf set ≡ 0 = omega (arith, l) in f))))

      first : (0 < sum_if count (enters set) places leaf.moves) ⊎ (sum_if count (enters set) places leaf.moves ≤ 0) → MeetsOne count (cases_of_siphon leaf set)
      first (inl l) =
          let value = row_value-behind count (enters set) places leaf.moves (negsuc 0) in
          in_first count first_case (second_case ∷ third_case ∷ []) (All-cons (MeetsFact count) (some_taken_fact leaf (enters set)) [] (omega (arith, ints, value, l)) (All-nil (MeetsFact count)))
      first (inr l) =
          second (let e : sum_if count (enters set) places leaf.moves ≡ 0 = omega (arith, l) in e) (cases_lt 0 (sum_if count (is_in set) 0 leaf.inputs + helpers_among leaf set))
