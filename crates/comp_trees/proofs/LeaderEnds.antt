-- The two kinds of nodes that end a leader's branch.
use Rattle.std.proofs.Common.{◌≡◌, ◌≢◌, ◌⊎◌, inl, inr, ℕ, ◌+◌, ◌<◌, ◌≤◌, Bool, true, false, ◌&&◌, ◌||◌, List, [], ◌∷◌, ◌++◌, length, map, get_or, refl, ap, sym, ◌∙◌, zero-add, arith}
use Rattle.std.specs.Prelude.{ℤ, pos, negsuc, neg_ℤ, ◌+ℤ◌, ◌-ℤ◌, ◌*ℤ◌, ◌≤ℤ◌, if◌then◌else◌, not, ◌==◌, filter, cond, slice_index_or, All}
use Rattle.std.specs.Ordering.{int_eq}
use Rattle.std.specs.List.{range_with_len}
use Rattle.std.proofs.lemmas.Int.{ints}
use Rattle.std.proofs.Math.IntN.{*ℤ-zero, zero-*ℤ, *ℤ_comm}
use Rattle.std.proofs.Math.ListN.{get_or-append}
use Rattle.std.proofs.lemmas.Bool.Decides.{eqb_tells}
use Rattle.std.proofs.lemmas.List.{length-append, get_or-append-add, get_or_past, length-replicate, get_or-replicate}
use Rattle.std.proofs.lemmas.List.FromFn.{get_or-map-range_with_len, length-map-range_with_len}
use Rattle.pop_leaf.specs.declared.leaf.Move.{Move}
use Rattle.pop_leaf.specs.LeafModel.{LeafModel, IsMoveBelow}
use Rattle.pres_ast.specs.PredModel.{PredModel}
use Rattle.cert_base.specs.declared.fact.Row.{Row}
use Rattle.cert_base.specs.declared.fact.Fact.{Fact}
use Rattle.cert_base.specs.declared.fact.Fact.TheVariants.{Ge, Eq, Holds}
use Rattle.cert_base.specs.Rows.{terms_from, zeros, input_row}
use Rattle.cert_base.specs.ClosingTests.{coefficient_in, row_of, closes_by_sum, may_add}
use Rattle.cert_base.specs.FactsAndCases.{indicator, states_of, flow, base_list, two_agents_fact, wrong_output_fact, differs, absent_fact, occurs_fact, alone_fact, can_meet_in, count_row}
use Rattle.cert_base.specs.WeightedSums.{sum_of_facts, coefficient, constant_of, may_weigh}
use Rattle.cert_base.specs.WeightedSums.{total}
use Rattle.comp_trees.specs.LeaderTree.{leaders, company_of, facts_of_trap, facts_without, facts_of_leader, LeaderMix, mix_of_trap, mix_of_leader, wrong_mix, value_mix}
use Rattle.cert_base.proofs.WeightedSums.{may_weigh-append, may_weigh-zeros, linear_closes-weighted}
use Rattle.cert_base.proofs.FlowSums.{coefficient-dense, total-same, total-none, total-none_range, total-one, weighted_sum-map, valued, law-input, law-state, law-move, law-past, each_variable, like, times-one, mul-neg}
use Rattle.comp_trees.proofs.HelperSums.{constant-helpers}
use Rattle.comp_trees.proofs.LeaderSums.{leader_sum, as_long}
use Rattle.std.proofs.lemmas.Bool.{ne_eqb, or_right}

-- ---- totals over a filtered list

pub total-filter : {A : Type 0} (f : A → ℤ) (test : A → Bool) (xs : List A) → total f (filter test xs) ≡ total (λ x. if test x then f x else pos 0) xs
total-filter f test [] = refl
total-filter {A} f test (x ∷ xs) = go (test x) (total-filter f test xs)
  where
    go : (b : Bool) → total f (filter test xs) ≡ total (λ x. if test x then f x else pos 0) xs → total f (cond b (x ∷ filter test xs) (filter test xs)) ≡ ((if b then f x else pos 0) +ℤ total (λ x. if test x then f x else pos 0) xs)
    go true e = ap (λ z. f x +ℤ z) e
    go false e = e ∙ (let h : total (λ x. if test x then f x else pos 0) xs ≡ (pos 0 +ℤ total (λ x. if test x then f x else pos 0) xs) = omega (arith, ints) in h)

-- ---- the coefficients of the other facts

-- of the fact that a state is absent
pub absent-at : (leaf : LeafModel) (q x : ℕ) → coefficient x (absent_fact leaf q) ≡ indicator ((length leaf.inputs + q) == x)
absent-at leaf q x = go ((length leaf.inputs + q) == x)
  where
    go : (b : Bool) → ((if b then pos 1 else pos 0) +ℤ pos 0) ≡ (if b then pos 1 else pos 0)
    go true = refl
    go false = refl

alone-at : (leaf : LeafModel) (q x : ℕ) → coefficient x (alone_fact leaf q) ≡ indicator ((length leaf.inputs + q) == x)
alone-at leaf q x = absent-at leaf q x

pub shifted : (n q z : ℕ) → ((n + q) == (n + z)) ≡ (z == q)
shifted n q z = go (eqb_tells z q)
  where
    go : ((z == q) ≡ true) × (z ≡ q) ⊎ ((z == q) ≡ false) × (z ≢ q) → ((n + q) == (n + z)) ≡ (z == q)
    go (inl h) = like (n + q) (n + z) (omega (arith, h.1)) ∙ sym h.0
    go (inr h) = ne_eqb (n + q) (n + z) (λ e. h.1 (omega arith)) ∙ sym h.0

-- a wrong output
abbrev pub is_wrong : LeafModel → Bool → ℕ → Bool
is_wrong leaf b q = differs b (slice_index_or leaf.outputs q false)

wrong-state : (leaf : LeafModel) (b : Bool) (z : ℕ) → z < length leaf.states → coefficient (length leaf.inputs + z) (wrong_output_fact leaf b) ≡ indicator (is_wrong leaf b z)
wrong-state leaf b z l =
    let states = map (λ q. indicator (is_wrong leaf b q)) (states_of leaf) in
    coefficient-dense (zeros (length leaf.inputs) ++ states) (length leaf.inputs + z)
    ∙ ap (λ n. get_or (zeros (length leaf.inputs) ++ states) (n + z) (pos 0)) (sym (length-replicate (length leaf.inputs) (pos 0)))
    ∙ get_or-append-add (zeros (length leaf.inputs)) states z (pos 0)
    ∙ get_or-map-range_with_len (λ q. indicator (is_wrong leaf b q)) 0 (length leaf.states) z z (pos 0) l (zero-add z)

wrong-input : (leaf : LeafModel) (b : Bool) (i : ℕ) → i < length leaf.inputs → coefficient i (wrong_output_fact leaf b) ≡ pos 0
wrong-input leaf b i l =
    let states = map (λ q. indicator (is_wrong leaf b q)) (states_of leaf) in
    coefficient-dense (zeros (length leaf.inputs) ++ states) i
    ∙ get_or-append (zeros (length leaf.inputs)) states (pos 0) i (omega (arith, length-replicate (length leaf.inputs) (pos 0)))
    ∙ get_or-replicate (length leaf.inputs) i (pos 0) (pos 0) l

wrong-past : (leaf : LeafModel) (b : Bool) (j : ℕ) → coefficient (length leaf.inputs + length leaf.states + j) (wrong_output_fact leaf b) ≡ pos 0
wrong-past leaf b j =
    let states = map (λ q. indicator (is_wrong leaf b q)) (states_of leaf) in
    coefficient-dense (zeros (length leaf.inputs) ++ states) (length leaf.inputs + length leaf.states + j)
    ∙ get_or_past (zeros (length leaf.inputs) ++ states) (length leaf.inputs + length leaf.states + j) (pos 0) (omega (arith, length-append (zeros (length leaf.inputs)) states, length-replicate (length leaf.inputs) (pos 0), length-map-range_with_len (λ q. indicator (is_wrong leaf b q)) 0 (length leaf.states)))

-- ---- what is ruled out

-- whether a leader's presence rules out a state
abbrev pub rules_out : LeafModel → ℕ → ℕ → Bool
rules_out leaf p q = not (q == p) && can_meet_in leaf p q

-- a leader rules out the states with a wrong output that it can meet, if its own is right
pub wrong_ruled_out : (leaf : LeafModel) (b : Bool) (p : ℕ) (output : ℕ → Bool)
    → ((z : ℕ) → z < length leaf.states → slice_index_or leaf.outputs z false ≡ output z) → differs b (output p) ≡ false
    → ((z : ℕ) → z < length leaf.states → differs b (output z) ≡ true → can_meet_in leaf p z ≡ true)
    → (z : ℕ) → z < length leaf.states → is_wrong leaf b z ≡ true → rules_out leaf p z ≡ true
wrong_ruled_out leaf b p output at right meet z k wrong =
    let wrong_out : differs b (output z) ≡ true = ap (differs b) (sym (at z k)) ∙ wrong in
    let clash : (z ≡ p) → true ≡ false = (λ e. sym wrong_out ∙ ap (λ q. differs b (output q)) e ∙ right) in
    let apart : (z == p) ≡ false = ne_eqb z p (λ e. let g = clash e in cc) in
    let meets = meet z k wrong_out in
    rw (apart, meets) refl

abbrev pub out_total : LeafModel → ℕ → (ℕ → ℤ) → ℕ → ℤ
out_total leaf p f x = total (λ q. f q *ℤ coefficient x (absent_fact leaf q)) (company_of leaf p)

pub none_out : (leaf : LeafModel) (p : ℕ) (f : ℕ → ℤ) (x : ℕ) → ((q : ℕ) → q < length leaf.states → (length leaf.inputs + q) ≢ x) → out_total leaf p f x ≡ pos 0
none_out leaf p f x ne =
    total-filter (λ q. f q *ℤ coefficient x (absent_fact leaf q)) (rules_out leaf p) (states_of leaf)
    ∙ total-none_range (λ q. if rules_out leaf p q then (f q *ℤ coefficient x (absent_fact leaf q)) else pos 0) 0 (length leaf.states) (λ q l. each q (rules_out leaf p q) (ne q (omega arith)))
  where
    each : (q : ℕ) (b : Bool) → (length leaf.inputs + q) ≢ x → (if b then (f q *ℤ coefficient x (absent_fact leaf q)) else pos 0) ≡ pos 0
    each q true n = ap (λ c. f q *ℤ c) (absent-at leaf q x ∙ ap indicator (ne_eqb (length leaf.inputs + q) x n)) ∙ *ℤ-zero (f q)
    each q false n = refl

pub out-state : (leaf : LeafModel) (p : ℕ) (f : ℕ → ℤ) (z : ℕ) → z < length leaf.states → out_total leaf p f (length leaf.inputs + z) ≡ (if rules_out leaf p z then f z else pos 0)
out-state leaf p f z l =
    let w : ℕ → ℤ = λ q. if rules_out leaf p q then f q else pos 0 in
    total-filter (λ q. f q *ℤ coefficient (length leaf.inputs + z) (absent_fact leaf q)) (rules_out leaf p) (states_of leaf)
    ∙ total-same (λ q. if rules_out leaf p q then (f q *ℤ coefficient (length leaf.inputs + z) (absent_fact leaf q)) else pos 0) (λ q. w q *ℤ indicator (z == q)) (states_of leaf) (λ q. each q (rules_out leaf p q))
    ∙ total-one w (length leaf.states) z l
  where
    each : (q : ℕ) (b : Bool) → (if b then (f q *ℤ coefficient (length leaf.inputs + z) (absent_fact leaf q)) else pos 0) ≡ ((if b then f q else pos 0) *ℤ indicator (z == q))
    each q true = ap (λ c. f q *ℤ c) (absent-at leaf q (length leaf.inputs + z) ∙ ap indicator (shifted (length leaf.inputs) q z))
    each q false = sym (zero-*ℤ (indicator (z == q)))

-- ---- which facts may have their multipliers

pub may_weigh-eqs : {A : Type 0} (may : ℤ → Fact → Bool) → ((a : ℤ) (row : Row) → may a (Eq row) ≡ true) → (row : A → Row) (by : A → ℤ) (xs : List A) → may_weigh may (map (λ x. Eq (row x)) xs) (map by xs) ≡ true
may_weigh-eqs may eqs row by [] = refl
may_weigh-eqs may eqs row by (x ∷ xs) =
    let rest = may_weigh-eqs may eqs row by xs in
    let here : (int_eq (by x) (pos 0) || may (by x) (Eq (row x))) ≡ true = or_right (int_eq (by x) (pos 0)) _ (eqs (by x) (row x)) in
    rw (here, rest) refl

pub may_leader : (may : ℤ → Fact → Bool) → ((a : ℤ) (row : Row) → may a (Eq row) ≡ true) → (leaf : LeafModel) (pred : PredModel) (b : Bool) (opened : Fact) (n p : ℕ) (mix : LeaderMix) → can_meet_in leaf p p ≡ true → (int_eq mix.wrong (pos 0) || may mix.wrong (wrong_output_fact leaf b)) ≡ true → (int_eq mix.opened (pos 0) || may mix.opened opened) ≡ true → may_weigh may (facts_of_leader leaf (facts_of_trap leaf (base_list leaf pred b) opened n) p) (mix_of_leader leaf (company_of leaf p) mix p) ≡ true
may_leader may eqs leaf pred b opened n p mix twin wrong_may opened_may =
    let flows = map (flow leaf) (states_of leaf) in
    let base = base_list leaf pred b in
    let trap = Ge (count_row leaf (leaders n) (negsuc 0)) in
    let mf = map mix.flows (states_of leaf) in
    let mb = mf ++ pos 0 ∷ pos 0 ∷ mix.wrong ∷ [] in
    let absents = map (absent_fact leaf) (range_with_len 0 p) in
    let out = map (absent_fact leaf) (company_of leaf p) in
    let facts = facts_of_trap leaf base opened n in
    let long = as_long leaf pred b opened n p mix in
    let m1 = may_weigh-eqs may eqs (λ q. row_of (flow leaf q)) mix.flows (states_of leaf) in
    let w2 : may_weigh may (two_agents_fact leaf ∷ Holds pred b ∷ wrong_output_fact leaf b ∷ []) (pos 0 ∷ pos 0 ∷ mix.wrong ∷ []) ≡ true = rw wrong_may refl in
    let m2 = may_weigh-append may flows (two_agents_fact leaf ∷ Holds pred b ∷ wrong_output_fact leaf b ∷ []) mf (pos 0 ∷ pos 0 ∷ mix.wrong ∷ []) long.flows m1 w2 in
    let w3 : may_weigh may (opened ∷ []) (mix.opened ∷ []) ≡ true = rw opened_may refl in
    let m3 = may_weigh-append may base (opened ∷ []) mb (mix.opened ∷ []) long.base m2 w3 in
    let m4 = may_weigh-append may (base ++ opened ∷ []) (trap ∷ []) (mb ++ mix.opened ∷ []) (pos 0 ∷ []) long.open_too m3 refl in
    let m5 = may_weigh-append may facts absents (mix_of_trap leaf mix) (zeros p) long.trap m4 (may_weigh-zeros may absents p (omega (arith, length-map-range_with_len (absent_fact leaf) 0 p))) in
    let m6 = may_weigh-eqs may eqs (λ q. row_of (absent_fact leaf q)) mix.ruled_out (company_of leaf p) in
    let m7 = may_weigh-eqs may eqs (λ q. row_of (alone_fact leaf q)) (λ q. mix.alone) (p ∷ []) in
    let m8 = may_weigh-append may (occurs_fact leaf p ∷ out) (alone_fact leaf p ∷ []) (pos 0 ∷ map mix.ruled_out (company_of leaf p)) (mix.alone ∷ []) long.out m6 m7 in
    rw twin (may_weigh-append may (facts_without leaf facts p) ((occurs_fact leaf p ∷ out) ++ alone_fact leaf p ∷ []) (mix_of_trap leaf mix ++ zeros p) ((pos 0 ∷ map mix.ruled_out (company_of leaf p)) ++ mix.alone ∷ []) long.without m5 m8)

-- ---- the node by a wrong output

-- a state is given no value
valued-none : (value : Fact → ℤ) (leaf : LeafModel) → sum_of_facts value (map (flow leaf) (states_of leaf)) (map (λ q. pos 0) (states_of leaf)) ≡ pos 0
valued-none value leaf =
    weighted_sum-map value (flow leaf) (λ q. pos 0) (states_of leaf)
    ∙ total-none (λ q. pos 0 *ℤ value (flow leaf q)) (states_of leaf) (λ q. zero-*ℤ (value (flow leaf q)))

-- the alone fact of another variable
alone-none : (leaf : LeafModel) (p x : ℕ) (a : ℤ) → (length leaf.inputs + p) ≢ x → (a *ℤ coefficient x (alone_fact leaf p)) ≡ pos 0
alone-none leaf p x a ne =
    ap (λ c. a *ℤ c) (alone-at leaf p x ∙ ap indicator (ne_eqb (length leaf.inputs + p) x ne)) ∙ *ℤ-zero a

pub apart : (n q i : ℕ) → i < n → (n + q) ≢ i
apart n q i l e = omega arith

pub apart_past : (n m q j : ℕ) → q < m → (n + q) ≢ (n + m + j)
apart_past n m q j l e = omega arith

module _ (leaf : LeafModel) (pred : PredModel) (b : Bool) (opened : Fact) (n p : ℕ) (twin : can_meet_in leaf p p ≡ true) where
  abbrev pub all_facts : List Fact
  all_facts = facts_of_leader leaf (facts_of_trap leaf (base_list leaf pred b) opened n) p

  abbrev wrong_terms : List ℤ
  wrong_terms = mix_of_leader leaf (company_of leaf p) (wrong_mix leaf b) p

  abbrev minus_wrong : ℕ → ℤ
  minus_wrong q = neg_ℤ (indicator (is_wrong leaf b q))

  wrong_sum : (x : ℕ) (a c : ℤ) → coefficient x (wrong_output_fact leaf b) ≡ a → out_total leaf p minus_wrong x ≡ c → sum_of_facts (coefficient x) all_facts wrong_terms ≡ (a +ℤ c)
  wrong_sum x a c e f =
      let sum = leader_sum (coefficient x) leaf pred b opened n p (wrong_mix leaf b) twin in
      let first = valued-none (coefficient x) leaf in
      let second : (pos 1 *ℤ coefficient x (wrong_output_fact leaf b)) ≡ a = *ℤ_comm (pos 1) (coefficient x (wrong_output_fact leaf b)) ∙ times-one (coefficient x (wrong_output_fact leaf b)) ∙ e in
      let third = zero-*ℤ (coefficient x opened) in
      let fifth = zero-*ℤ (coefficient x (alone_fact leaf p)) in
      omega (arith, ints, sum, first, second, third, f, fifth)

  -- the node closes if all wrong states are ruled out
  pub wrong_closes : ((z : ℕ) → z < length leaf.states → is_wrong leaf b z ≡ true → rules_out leaf p z ≡ true) → closes_by_sum all_facts (terms_from 0 wrong_terms) ≡ true
  wrong_closes all =
      linear_closes-weighted all_facts wrong_terms
      (may_leader may_add (λ a row. refl) leaf pred b opened n p (wrong_mix leaf b) twin refl refl)
      (each_variable leaf (λ x. sum_of_facts (coefficient x) all_facts wrong_terms ≤ℤ pos 0) at_input at_state at_move at_past)
      constant
    where
      at_input : (i : ℕ) → i < length leaf.inputs → sum_of_facts (coefficient i) all_facts wrong_terms ≤ℤ pos 0
      at_input i l =
          let e = wrong_sum i (pos 0) (pos 0) (wrong-input leaf b i l) (none_out leaf p minus_wrong i (λ q m. apart (length leaf.inputs) q i l)) in
          omega (arith, ints, e)

      at_late : (j : ℕ) → sum_of_facts (coefficient (length leaf.inputs + length leaf.states + j)) all_facts wrong_terms ≤ℤ pos 0
      at_late j =
          let e = wrong_sum (length leaf.inputs + length leaf.states + j) (pos 0) (pos 0) (wrong-past leaf b j) (none_out leaf p minus_wrong (length leaf.inputs + length leaf.states + j) (λ q m. apart_past (length leaf.inputs) (length leaf.states) q j m)) in
          omega (arith, ints, e)

      at_move : (t : ℕ) → t < length leaf.moves → sum_of_facts (coefficient (length leaf.inputs + length leaf.states + t)) all_facts wrong_terms ≤ℤ pos 0
      at_move t l = at_late t

      at_past : (j : ℕ) → sum_of_facts (coefficient (length leaf.inputs + length leaf.states + (length leaf.moves + j))) all_facts wrong_terms ≤ℤ pos 0
      at_past j = at_late (length leaf.moves + j)

      both : (w r : Bool) → (w ≡ true → r ≡ true) → (indicator w +ℤ (if r then neg_ℤ (indicator w) else pos 0)) ≡ pos 0
      both true r h = rw (h refl) refl
      both false true h = refl
      both false false h = refl

      at_state : (z : ℕ) → z < length leaf.states → sum_of_facts (coefficient (length leaf.inputs + z)) all_facts wrong_terms ≤ℤ pos 0
      at_state z l =
          let e = wrong_sum (length leaf.inputs + z) (indicator (is_wrong leaf b z)) (if rules_out leaf p z then minus_wrong z else pos 0) (wrong-state leaf b z l) (out-state leaf p minus_wrong z l) in
          let f = both (is_wrong leaf b z) (rules_out leaf p z) (all z l) in
          omega (arith, ints, e, f)

      constant : sum_of_facts constant_of all_facts wrong_terms ≤ℤ negsuc 0
      constant =
          let sum = leader_sum constant_of leaf pred b opened n p (wrong_mix leaf b) twin in
          let first = valued-none constant_of leaf in
          let third = zero-*ℤ (constant_of opened) in
          let fourth = total-none (λ q. minus_wrong q *ℤ pos 0) (company_of leaf p) (λ q. *ℤ-zero (minus_wrong q)) in
          omega (arith, ints, sum, first, third, fourth)

  -- ---- the node by values

  abbrev pub value_terms : (ℕ → ℤ) → ℤ → List ℤ
  value_terms w m = mix_of_leader leaf (company_of leaf p) (value_mix w m p) p

  value_sum : (w : ℕ → ℤ) (m : ℤ) (x : ℕ) (a c d e : ℤ) → valued leaf w x ≡ a → (m *ℤ coefficient x opened) ≡ c → out_total leaf p w x ≡ d → (w p *ℤ coefficient x (alone_fact leaf p)) ≡ e → sum_of_facts (coefficient x) all_facts (value_terms w m) ≡ (a +ℤ c +ℤ d +ℤ e)
  value_sum w m x a c d e ha hc hd he =
      let sum = leader_sum (coefficient x) leaf pred b opened n p (value_mix w m p) twin in
      let second = zero-*ℤ (coefficient x (wrong_output_fact leaf b)) in
      omega (arith, ints, sum, ha, hc, hd, he, second)

  -- the opened fact is a row over the inputs
  pub record IsOpened (coefs : List ℤ) (constant : ℤ) : Type 0 where
    pub long : length coefs ≡ length leaf.inputs
    pub row : row_of opened ≡ input_row coefs constant

  pub opened-at : (coefs : List ℤ) (constant : ℤ) (x : ℕ) → IsOpened coefs constant → coefficient x opened ≡ get_or coefs x (pos 0)
  opened-at coefs constant x is = ap (λ (row : Row). coefficient_in row.terms x) is.row ∙ coefficient-dense coefs x

  pub opened-past : (coefs : List ℤ) (constant m : ℤ) (x : ℕ) → IsOpened coefs constant → length leaf.inputs ≤ x → (m *ℤ coefficient x opened) ≡ pos 0
  opened-past coefs constant m x is l =
      ap (λ c. m *ℤ c) (opened-at coefs constant x is ∙ get_or_past coefs x (pos 0) (omega (arith, is.long))) ∙ *ℤ-zero m

  -- what the value node adds up to, variable by variable
  pub value-input : (w : ℕ → ℤ) (m : ℤ) (coefs : List ℤ) (constant : ℤ) (i : ℕ) → IsOpened coefs constant → i < length leaf.inputs → get_or leaf.inputs i 0 < length leaf.states → sum_of_facts (coefficient i) all_facts (value_terms w m) ≡ (w (get_or leaf.inputs i 0) +ℤ (m *ℤ get_or coefs i (pos 0)))
  value-input w m coefs constant i is l below =
      let e = value_sum w m i (w (get_or leaf.inputs i 0)) (m *ℤ get_or coefs i (pos 0)) (pos 0) (pos 0) (law-input leaf w i l below) (ap (λ c. m *ℤ c) (opened-at coefs constant i is)) (none_out leaf p w i (λ q k. apart (length leaf.inputs) q i l)) (alone-none leaf p i (w p) (apart (length leaf.inputs) p i l)) in
      omega (arith, ints, e)

  pub value-move : (w : ℕ → ℤ) (m : ℤ) (coefs : List ℤ) (constant : ℤ) (t : ℕ) (d : Move) → IsOpened coefs constant → p < length leaf.states → t < length leaf.moves → IsMoveBelow (length leaf.states) (get_or leaf.moves t d) → sum_of_facts (coefficient (length leaf.inputs + length leaf.states + t)) all_facts (value_terms w m) ≡ ((w (get_or leaf.moves t d).r +ℤ w (get_or leaf.moves t d).s) -ℤ (w (get_or leaf.moves t d).p +ℤ w (get_or leaf.moves t d).q))
  value-move w m coefs constant t d is lp l below =
      let x = length leaf.inputs + length leaf.states + t in
      let e = value_sum w m x (valued leaf w x) (pos 0) (pos 0) (pos 0) refl (opened-past coefs constant m x is (omega arith)) (none_out leaf p w x (λ q k. apart_past (length leaf.inputs) (length leaf.states) q t k)) (alone-none leaf p x (w p) (apart_past (length leaf.inputs) (length leaf.states) p t lp)) in
      let f = law-move leaf w t d l below in
      omega (arith, ints, e, f)

  pub value-past : (w : ℕ → ℤ) (m : ℤ) (coefs : List ℤ) (constant : ℤ) (j : ℕ) → IsOpened coefs constant → p < length leaf.states → sum_of_facts (coefficient (length leaf.inputs + length leaf.states + (length leaf.moves + j))) all_facts (value_terms w m) ≡ pos 0
  value-past w m coefs constant j is lp =
      let x = length leaf.inputs + length leaf.states + (length leaf.moves + j) in
      let e = value_sum w m x (valued leaf w x) (pos 0) (pos 0) (pos 0) refl (opened-past coefs constant m x is (omega arith)) (none_out leaf p w x (λ q k. apart_past (length leaf.inputs) (length leaf.states) q (length leaf.moves + j) k)) (alone-none leaf p x (w p) (apart_past (length leaf.inputs) (length leaf.states) p (length leaf.moves + j) lp)) in
      let f = law-past leaf w j in
      omega (arith, ints, e, f)

  -- a state that is the leader or is ruled out has the coefficient 0, any other its negated value
  pub value-state : (w : ℕ → ℤ) (m : ℤ) (coefs : List ℤ) (constant : ℤ) (z : ℕ) → IsOpened coefs constant → z < length leaf.states → sum_of_facts (coefficient (length leaf.inputs + z)) all_facts (value_terms w m) ≡ (if z == p then pos 0 else (if can_meet_in leaf p z then pos 0 else neg_ℤ (w z)))
  value-state w m coefs constant z is l = go (eqb_tells z p)
    where
      x : ℕ
      x = length leaf.inputs + z

      out_of : (s c : Bool) → (z == p) ≡ s → can_meet_in leaf p z ≡ c → out_total leaf p w (length leaf.inputs + z) ≡ (if not s && c then w z else pos 0)
      out_of s c e f = out-state leaf p w z l ∙ ap (λ (k : Bool). if k then w z else pos 0) (ap (λ (k : Bool). not k && can_meet_in leaf p z) e ∙ ap (λ (k : Bool). not s && k) f)

      alone_of : (s : Bool) → (z == p) ≡ s → (w p *ℤ coefficient (length leaf.inputs + z) (alone_fact leaf p)) ≡ (w p *ℤ indicator s)
      alone_of s e = ap (λ c. w p *ℤ c) (alone-at leaf p (length leaf.inputs + z) ∙ ap indicator (shifted (length leaf.inputs) p z ∙ e))

      met : (c : Bool) → can_meet_in leaf p z ≡ c → (z == p) ≡ false → sum_of_facts (coefficient (length leaf.inputs + z)) all_facts (value_terms w m) ≡ (if c then pos 0 else neg_ℤ (w z))
      met c f e =
          let h = value_sum w m (length leaf.inputs + z) (neg_ℤ (w z)) (pos 0) (if c then w z else pos 0) (w p *ℤ pos 0) (law-state leaf w z l) (opened-past coefs constant m (length leaf.inputs + z) is (omega arith)) (out_of false c e f) (alone_of false e) in
          let none = *ℤ-zero (w p) in
          last c (h ∙ ap (λ k. neg_ℤ (w z) +ℤ pos 0 +ℤ (if c then w z else pos 0) +ℤ k) none)
        where
          last : (c : Bool) → sum_of_facts (coefficient (length leaf.inputs + z)) all_facts (value_terms w m) ≡ (neg_ℤ (w z) +ℤ pos 0 +ℤ (if c then w z else pos 0) +ℤ pos 0) → sum_of_facts (coefficient (length leaf.inputs + z)) all_facts (value_terms w m) ≡ (if c then pos 0 else neg_ℤ (w z))
          last true k = omega (arith, ints, k)
          last false k = omega (arith, ints, k)

      go : ((z == p) ≡ true) × (z ≡ p) ⊎ ((z == p) ≡ false) × (z ≢ p) → sum_of_facts (coefficient (length leaf.inputs + z)) all_facts (value_terms w m) ≡ (if z == p then pos 0 else (if can_meet_in leaf p z then pos 0 else neg_ℤ (w z)))
      go (inl h) =
          let e = value_sum w m (length leaf.inputs + z) (neg_ℤ (w z)) (pos 0) (pos 0) (w p *ℤ pos 1) (law-state leaf w z l) (opened-past coefs constant m (length leaf.inputs + z) is (omega arith)) (out_of true (can_meet_in leaf p z) h.0 refl) (alone_of true h.0) in
          let one = times-one (w p) in
          let same = ap w h.1 in
          rw h.0 (omega (arith, ints, e, one, same))
      go (inr h) = rw h.0 (met (can_meet_in leaf p z) refl h.0)

  -- all helpers together are worth nothing
  pub value-constant : (w : ℕ → ℤ) (m : ℤ) (coefs : List ℤ) (constant : ℤ) → All (λ q. q < length leaf.states) leaf.helpers → total w leaf.helpers ≡ pos 0 → IsOpened coefs constant → sum_of_facts constant_of all_facts (value_terms w m) ≡ ((m *ℤ constant) -ℤ w p)
  value-constant w m coefs constant helpers worthless is =
      let sum = leader_sum constant_of leaf pred b opened n p (value_mix w m p) twin in
      let first = constant-helpers leaf w helpers ∙ worthless in
      let third = ap (λ (row : Row). m *ℤ row.constant) is.row in
      let fourth = total-none (λ q. w q *ℤ pos 0) (company_of leaf p) (λ q. *ℤ-zero (w q)) in
      let fifth : (w p *ℤ negsuc 0) ≡ neg_ℤ (w p) = mul-neg (w p) (pos 1) ∙ ap neg_ℤ (times-one (w p)) in
      omega (arith, ints, sum, first, third, fourth, fifth)
