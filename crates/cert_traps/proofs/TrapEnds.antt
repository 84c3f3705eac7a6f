-- At the end of an execution the counts meet all facts of one of the cases of a `Trap` node.
use Rattle.std.proofs.Common.{◌≡◌, ◌≢◌, ◌⊎◌, inl, inr, ℕ, zero, suc, ◌+◌, ◌<◌, ◌≤◌, Bool, true, false, not, ◌&&◌, List, [], ◌∷◌, ◌++◌, length, replicate, refl, ap, sym, subst, ◌∙◌, zero-add, arith}
use Rattle.std.specs.Prelude.{Some, pos, negsuc, ◌==◌, slice_get, slice_set, slice_index, All, count_by, if◌then◌else◌}
use Rattle.std.specs.List.{range_with_len}
use Rattle.std.proofs.lemmas.Int.{ints}
use Rattle.std.proofs.lemmas.Bool.{eq-eqb, cases_lt, or_from, or_parts}
use Rattle.std.proofs.lemmas.Bool.Decides.{eqb_tells}
use Rattle.std.proofs.lemmas.List.Elements.{All-nil, All-cons, All-map, All-append}
use Rattle.std.proofs.lemmas.List.Sums.{sum_by-cons}
use Rattle.std.proofs.lemmas.Option.{slice_get_within, get_or_from_slice_get, same_Some}
use Rattle.pop_leaf.specs.declared.leaf.Move.{Move}
use Rattle.pop_leaf.specs.LeafModel.{LeafModel, one_at}
use Rattle.pop_leaf.specs.InputCrowd.{starts_from, leaf_input_crowd}
use Rattle.pop_leaf.specs.Reachable.{Leads}
use Rattle.pop_leaf.specs.Step.{Follows, LeafChange, LeafStep}
use Rattle.pop_leaf.proofs.Quiet.{All-slice_get}
use Rattle.cert_base.specs.declared.fact.Fact.{Fact}
use Rattle.cert_base.specs.declared.fact.Fact.TheVariants.{Ge, Eq}
use Rattle.cert_base.specs.Rows.{single_row, constant_row, input_variable}
use Rattle.cert_base.specs.Valuation.{Valuation, MeetsFact, is_by, times_taken, IsOfExecution}
use Rattle.cert_base.specs.FactsAndCases.{states_of, is_in, takes_from, puts_into, helpers_among, no_moves, no_start_facts, no_helper_facts, some_taken_fact, count_row, cases_of_trap}
use Rattle.cert_base.proofs.Agents.{InRange}
use Rattle.cert_base.proofs.Dead.{one_there}
use Rattle.cert_base.proofs.Indicators.{sum_if, row_value-behind, sum_if-none, all_places}
use Rattle.cert_base.specs.Ends.{MeetsOne}
use Rattle.cert_base.proofs.Openings.{in_first, in_rest}
use Rattle.cert_traps.proofs.TakenMoves.{sum_zero, taken_fails, others_untaken, single_none, untaken_met}
use Rattle.base_laws.proofs.Lists.{slice_get-set_same, slice_get-set_other, at_front, at_end}

-- no agent is in a state of the set
abbrev pub NoneIn : List ℕ → List ℕ → Type 0
NoneIn set crowd = (a x : ℕ) → slice_get crowd a ≡ Some x → is_in set x ≡ false

-- a move that takes from the set and puts nothing into it
abbrev pub leaves_set : List ℕ → Move → Bool
leaves_set set t = takes_from set t && not (puts_into set t)

pub takes_none : (a b : Bool) → a && not b ≡ false → b ≡ false → a ≡ false
takes_none true b e f = let g : not b ≡ true = rw f refl in let h : true ≡ false = sym g ∙ e in cc
takes_none false b e f = refl

-- the states of a move, and those of the two agents that take it
both_after : (set : List ℕ) (t : Move) (x y x' y' : ℕ) → Follows t x y x' y' ⊎ Follows t y x y' x' → is_in set x' ≡ false → is_in set y' ≡ false → puts_into set t ≡ false
both_after set t x y x' y' (inl f) e g = or_from _ _ (ap (is_in set) (sym f.2) ∙ e) (ap (is_in set) (sym f.3) ∙ g)
both_after set t x y x' y' (inr f) e g = or_from _ _ (ap (is_in set) (sym f.2) ∙ g) (ap (is_in set) (sym f.3) ∙ e)

pub both_before : (set : List ℕ) (t : Move) (x y x' y' : ℕ) → Follows t x y x' y' ⊎ Follows t y x y' x' → takes_from set t ≡ false → (is_in set x ≡ false) × (is_in set y ≡ false)
both_before set t x y x' y' (inl f) e = (ap (is_in set) f.0 ∙ (or_parts _ _ e).0, ap (is_in set) f.1 ∙ (or_parts (is_in set t.p) _ e).1)
both_before set t x y x' y' (inr f) e = (ap (is_in set) f.1 ∙ (or_parts (is_in set t.p) _ e).1, ap (is_in set) f.0 ∙ (or_parts _ _ e).0)

module _ (leaf : LeafModel) (set : List ℕ) (before after : List ℕ) (s : LeafStep leaf before after) (none : NoneIn set after) where
  after_a : slice_get after s.a ≡ Some s.x'
  after_a =
      ap (λ c. slice_get c s.a) s.others_stay
      ∙ slice_get-set_other (slice_set before s.a s.x') s.b s.a s.y' s.x' (λ e. s.different (sym e)) (slice_get-set_same before s.a s.x s.x' s.a_had)

  after_b : slice_get after s.b ≡ Some s.y'
  after_b =
      ap (λ c. slice_get c s.b) s.others_stay
      ∙ slice_get-set_same (slice_set before s.a s.x') s.b s.y s.y' (slice_get-set_other before s.a s.b s.x' s.y s.different s.b_had)

  after_other : (c z : ℕ) → c ≢ s.a → c ≢ s.b → slice_get before c ≡ Some z → slice_get after c ≡ Some z
  after_other c z ne me h =
      ap (λ k. slice_get k c) s.others_stay
      ∙ slice_get-set_other (slice_set before s.a s.x') s.b c s.y' z (λ e. me (sym e)) (slice_get-set_other before s.a c s.x' z (λ e. ne (sym e)) h)

  -- if the two agents weren't in the set, nobody was
  nobody : is_in set s.x ≡ false → is_in set s.y ≡ false → NoneIn set before
  nobody e f c z h = at (eqb_tells c s.a) (eqb_tells c s.b)
    where
      at : ((c == s.a) ≡ true) × (c ≡ s.a) ⊎ ((c == s.a) ≡ false) × (c ≢ s.a) → ((c == s.b) ≡ true) × (c ≡ s.b) ⊎ ((c == s.b) ≡ false) × (c ≢ s.b) → is_in set z ≡ false
      at (inl k) m = ap (is_in set) (same_Some z s.x (sym h ∙ ap (slice_get before) k.1 ∙ s.a_had)) ∙ e
      at (inr k) (inl m) = ap (is_in set) (same_Some z s.y (sym h ∙ ap (slice_get before) m.1 ∙ s.b_had)) ∙ f
      at (inr k) (inr m) = none c z (after_other c z k.1 m.1 h)

  -- if nobody is in the set after a step that doesn't leave it, nobody was before, and the step put nothing into it
  step_back : (c : LeafChange leaf s.x s.y s.x' s.y') → ((n : ℕ) (t : Move) → slice_get leaf.moves n ≡ Some t → leaves_set set t ≡ true → is_by n c ≡ 0) → NoneIn set before × ((n : ℕ) (t : Move) → slice_get leaf.moves n ≡ Some t → puts_into set t ≡ true → is_by n c ≡ 0)
  step_back (inl stay) leaves = (
    nobody (ap (is_in set) (sym stay.0) ∙ none s.a s.x' after_a) (ap (is_in set) (sym stay.1) ∙ none s.b s.y' after_b),
    λ n t h e. refl,
  )
  step_back (inr m) leaves =
      let puts = both_after set m.taken s.x s.y s.x' s.y' m.followed (none s.a s.x' after_a) (none s.b s.y' after_b) in
      let stays = taken_fails leaf (leaves_set set) m.number m.taken m.listed leaves in
      let were = both_before set m.taken s.x s.y s.x' s.y' m.followed (takes_none (takes_from set m.taken) (puts_into set m.taken) stays puts) in
      (nobody were.0 were.1, others_untaken leaf (puts_into set) m.number m.taken m.listed puts)

-- the same over a whole path
way_back : (leaf : LeafModel) (set : List ℕ) (start : List ℕ) (path : List (List ℕ)) (end : List ℕ) (way : Leads (LeafStep leaf) start path end) → NoneIn set end → ((n : ℕ) (t : Move) → slice_get leaf.moves n ≡ Some t → leaves_set set t ≡ true → times_taken leaf n start path end way ≡ 0) → NoneIn set start × ((n : ℕ) (t : Move) → slice_get leaf.moves n ≡ Some t → puts_into set t ≡ true → times_taken leaf n start path end way ≡ 0)
way_back leaf set start [] end way none leaves = (subst (λ (c : List ℕ). NoneIn set c) way none, λ n t h e. refl)
way_back leaf set start (next ∷ path) end way none leaves =
    let later = way_back leaf set next path end way.1 none (λ n t h e. (sum_zero (is_by n way.0.change) (times_taken leaf n next path end way.1) (leaves n t h e)).1) in
    let first = step_back leaf set start next way.0 later.0 way.0.change (λ n t h e. (sum_zero (is_by n way.0.change) (times_taken leaf n next path end way.1) (leaves n t h e)).0) in
    (first.0, λ n t h e. (let a = first.1 n t h e in let b = later.1 n t h e in let f : is_by n way.0.change + times_taken leaf n next path end way.1 ≡ 0 = omega (arith, a, b) in f))

-- an input that is given starts an agent
abbrev Starts : (ℕ → ℕ) → ℕ → List ℕ → ℕ → Type 0
Starts start k counts i = (a : ℕ) × (slice_get (starts_from start k counts) a ≡ Some (start (k + i)))

start_has : (start : ℕ → ℕ) (k : ℕ) (counts : List ℕ) (i : ℕ) → 1 ≤ slice_index counts i → Starts start k counts i
start_has start k [] i l = absurd (omega (arith, l))
start_has start k (zero ∷ counts) zero l = absurd (omega (arith, l))
start_has start k (suc n ∷ counts) zero l =
    (0, ap (λ j. Some (start j)) (let e : k ≡ k + 0 = omega arith in e))
start_has start k (n ∷ counts) (suc i) l =
    let m = start_has start (k + 1) counts i l in (
      length (replicate n (start k)) + m.0,
      at_end (replicate n (start k)) (starts_from start (k + 1) counts) (length (replicate n (start k))) m.0 refl ∙ m.1 ∙ ap (λ j. Some (start j)) (let e : k + 1 + i ≡ k + suc i = omega arith in e),
    )

-- an agent of an input that is given
start_state : (leaf : LeafModel) (counts : List ℕ) (j : ℕ) → 1 ≤ slice_index counts j → (a : ℕ) × (slice_get (leaf_input_crowd leaf counts) a ≡ Some (slice_index leaf.inputs (0 + j)))
start_state leaf counts j l =
    let start = λ (variable : ℕ). slice_index leaf.inputs variable in
    let s = start_has start 0 counts j l in
    (s.0, at_front (starts_from start 0 counts) leaf.helpers s.0 (slice_get_within (starts_from start 0 counts) s.0 (slice_index leaf.inputs (0 + j)) s.1) ∙ s.1)

-- 1 when a test passes, and 0 otherwise
abbrev pub bit : Bool → ℕ
bit passes = if passes then 1 else 0

bit_none : (b : Bool) → b ≡ false → bit b ≡ 0
bit_none b e = ap bit e

-- if all items fail a test, none is counted
count_by-none : {A : Type 0} (test : A → Bool) (xs : List A) → ((a : ℕ) (x : A) → slice_get xs a ≡ Some x → test x ≡ false) → count_by test xs ≡ 0
count_by-none test [] f = refl
count_by-none test (x ∷ xs) f =
    let rest = count_by-none test xs (λ a y h. f (suc a) y h) in
    let here = bit_none (test x) (f 0 x refl) in
    let all : count_by test (x ∷ xs) ≡ bit (test x) + count_by test xs = sum_by-cons (λ y. bit (test y)) x xs in
    omega (arith, all, here, rest)

-- if nobody starts in the set, no helper does
helps-none : (leaf : LeafModel) (set counts : List ℕ) → NoneIn set (leaf_input_crowd leaf counts) → helpers_among leaf set ≡ 0
helps-none leaf set counts none =
    let starts = starts_from (λ variable. slice_index leaf.inputs variable) 0 counts in
    count_by-none (is_in set) leaf.helpers (λ a x h. none (length starts + a) x (at_end starts leaf.helpers (length starts) a refl ∙ h))

pub range_get : (a n j : ℕ) → j < n → slice_get (range_with_len a n) j ≡ Some (a + j)
range_get a zero j l = absurd (omega arith)
range_get a (suc n) zero l = ap Some (let e : a ≡ a + 0 = omega arith in e)
range_get a (suc n) (suc j) l =
    range_get (a + 1) n j (omega arith) ∙ ap Some (let e : a + 1 + j ≡ a + suc j = omega arith in e)

module _ (leaf : LeafModel) (set : List ℕ) (count : Valuation) (counts : List ℕ) (path : List (List ℕ)) (end : List ℕ) (way : Leads (LeafStep leaf) (leaf_input_crowd leaf counts) path end) (is : IsOfExecution leaf count counts path end way) (range : InRange leaf end) where
  abbrev places : ℕ
  places = length leaf.inputs + length leaf.states

  -- if no move left the set, no such move was taken
  not_left : sum_if count (leaves_set set) places leaf.moves ≡ 0 → (n : ℕ) (t : Move) → slice_get leaf.moves n ≡ Some t → leaves_set set t ≡ true → times_taken leaf n (leaf_input_crowd leaf counts) path end way ≡ 0
  not_left e n t h l =
      sym (is.moves n (slice_get_within leaf.moves n t h)) ∙ sum_if-none count (leaves_set set) places leaf.moves e n t h l

  -- if no state of the set is counted, no agent is in the set
  none_at_end : sum_if count (is_in set) (length leaf.inputs) (states_of leaf) ≡ 0 → NoneIn set end
  none_at_end e a x h = go (is_in set x) refl
    where
      below : x < length leaf.states
      below = All-slice_get (λ (q : ℕ). q < length leaf.states) end a x range h

      go : (b : Bool) → is_in set x ≡ b → b ≡ false
      go false k = refl
      go true k =
          let state : slice_get (states_of leaf) x ≡ Some x = range_get 0 (length leaf.states) x below ∙ ap Some (zero-add x) in
          let none = sum_if-none count (is_in set) (length leaf.inputs) (states_of leaf) e x x state k in
          let there = one_there x end a x h in
          let one : one_at x x ≡ 1 = rw (eq-eqb x x refl) refl in
          let counted = is.states x below in
          absurd (omega (arith, none, there, one, counted))

  pub not_started : NoneIn set (leaf_input_crowd leaf counts) → All (MeetsFact count) (no_start_facts leaf set)
  not_started none =
      All-map (MeetsFact count) (λ i. Eq (single_row (input_variable leaf i) (pos 1) (pos 0))) _
      (all_places (λ i. MeetsFact count (Eq (single_row (input_variable leaf i) (pos 1) (pos 0)))) (is_in set) 0 leaf.inputs
      (λ j q h e. single_none count (input_variable leaf (0 + j)) (ap (λ n. count (input_variable leaf n)) (zero-add j) ∙ is.inputs j (slice_get_within leaf.inputs j q h) ∙ zero_count j q h e (cases_lt 0 (slice_index counts j)))))
    where
      zero_count : (j q : ℕ) → slice_get leaf.inputs j ≡ Some q → is_in set q ≡ true → (0 < slice_index counts j) ⊎ (slice_index counts j ≤ 0) → slice_index counts j ≡ 0
      zero_count j q h e (inr l) = omega (arith, l)
      zero_count j q h e (inl l) =
          let s = start_state leaf counts j (let m : 1 ≤ slice_index counts j = omega (arith, l) in m) in
          let state : slice_index leaf.inputs (0 + j) ≡ q = ap (slice_index leaf.inputs) (zero-add j) ∙ get_or_from_slice_get leaf.inputs j q 0 h in
          let f : true ≡ false = sym e ∙ ap (is_in set) (sym state) ∙ none s.0 (slice_index leaf.inputs (0 + j)) s.1 in
          cc

  abbrev first_case : List Fact
  first_case = some_taken_fact leaf (leaves_set set) ∷ []

  abbrev second_case : List Fact
  second_case = no_moves leaf (puts_into set) ++ no_start_facts leaf set ++ Eq (count_row leaf set (pos 0)) ∷ no_helper_facts leaf set

  pub not_helped : NoneIn set (leaf_input_crowd leaf counts) → All (MeetsFact count) (no_helper_facts leaf set)
  not_helped none =
      let zero_helpers : (helpers_among leaf set == 0) ≡ true = eq-eqb (helpers_among leaf set) 0 (helps-none leaf set counts none) in
      subst (λ (b : Bool). All (MeetsFact count) (if b then [] else (Eq (constant_row (pos (helpers_among leaf set))) ∷ []))) (sym zero_helpers) (All-nil (MeetsFact count))

  abbrev third_case : List Fact
  third_case = Ge (count_row leaf set (negsuc 0)) ∷ []

  -- the counts of an execution meet all facts of one of the cases
  pub trap_met : MeetsOne count (cases_of_trap leaf set)
  trap_met = first (cases_lt 0 (sum_if count (leaves_set set) places leaf.moves))
    where
      third : sum_if count (leaves_set set) places leaf.moves ≡ 0 → (0 < sum_if count (is_in set) (length leaf.inputs) (states_of leaf)) ⊎ (sum_if count (is_in set) (length leaf.inputs) (states_of leaf) ≤ 0) → MeetsOne count (cases_of_trap leaf set)
      third e (inl l) =
          let value = row_value-behind count (is_in set) (length leaf.inputs) (states_of leaf) (negsuc 0) in
          in_rest count first_case (second_case ∷ third_case ∷ []) (in_rest count second_case (third_case ∷ []) (in_first count third_case [] (All-cons (MeetsFact count) (Ge (count_row leaf set (negsuc 0))) [] (omega (arith, ints, value, l)) (All-nil (MeetsFact count)))))
      third e (inr l) =
          let zero_sum : sum_if count (is_in set) (length leaf.inputs) (states_of leaf) ≡ 0 = omega (arith, l) in
          let back = way_back leaf set (leaf_input_crowd leaf counts) path end way (none_at_end zero_sum) (not_left e) in
          let value = row_value-behind count (is_in set) (length leaf.inputs) (states_of leaf) (pos 0) in
          in_rest count first_case (second_case ∷ third_case ∷ [])
          (in_first count second_case (third_case ∷ [])
          (All-append (MeetsFact count) (no_moves leaf (puts_into set) ++ no_start_facts leaf set) (Eq (count_row leaf set (pos 0)) ∷ no_helper_facts leaf set)
          (All-append (MeetsFact count) (no_moves leaf (puts_into set)) (no_start_facts leaf set) (untaken_met leaf count (puts_into set) (λ n. times_taken leaf n (leaf_input_crowd leaf counts) path end way) is.moves back.1) (not_started back.0))
          (All-cons (MeetsFact count) (Eq (count_row leaf set (pos 0))) (no_helper_facts leaf set) (omega (arith, ints, value, zero_sum)) (not_helped back.0))))

      first : (0 < sum_if count (leaves_set set) places leaf.moves) ⊎ (sum_if count (leaves_set set) places leaf.moves ≤ 0) → MeetsOne count (cases_of_trap leaf set)
      first (inl l) =
          let value = row_value-behind count (leaves_set set) places leaf.moves (negsuc 0) in
          in_first count first_case (second_case ∷ third_case ∷ []) (All-cons (MeetsFact count) (some_taken_fact leaf (leaves_set set)) [] (omega (arith, ints, value, l)) (All-nil (MeetsFact count)))
      first (inr l) =
          third (let e : sum_if count (leaves_set set) places leaf.moves ≡ 0 = omega (arith, l) in e) (cases_lt 0 (sum_if count (is_in set) (length leaf.inputs) (states_of leaf)))
