-- Both trees of a built leaf of powers close.
use Rattle.std.proofs.Common.{◌≡◌, ◌∙◌, subst, ℕ, zero, suc, ◌+◌, ◌<◌, ◌≤◌, Bool, true, false, ◌&&◌, List, [], ◌∷◌, ◌++◌, length, map, append_assoc, length-append, refl, ap, sym, zero-add, arith}
use Rattle.std.specs.Prelude.{ℤ, pos, neg_ℤ, ◌-ℤ◌, if◌then◌else◌, ◌==◌, not, Some, nat_lt}
use Rattle.std.specs.List.{range_with_len}
use Rattle.std.proofs.lemmas.Bool.{lt-ltb}
use Rattle.std.proofs.lemmas.List.{length-map, append-nil}
use Rattle.std.proofs.lemmas.List.Sums.{length-filter, count_by-le-length}
use Rattle.std.proofs.lemmas.List.FromFn.{length-map-range_with_len, map-range_with_len_more, length-range_with_len}
use Rattle.pop_leaf.specs.LeafModel.{LeafModel}
use Rattle.pres_ast.specs.PredModel.{PredModel}
use Rattle.cert_base.specs.declared.fact.Fact.{Fact}
use Rattle.cert_base.specs.declared.fact.Fact.TheVariants.{Ge, Eq, Holds}
use Rattle.cert_base.specs.declared.node.Node.{Node}
use Rattle.cert_base.specs.declared.node.Node.TheVariants.{Present, Twin, Trap, Open}
use Rattle.cert_base.specs.Rows.{terms_from, input_row, single_row, constant_row, move_variable, input_variable}
use Rattle.cert_base.specs.ClosingTests.{closes_by_sum}
use Rattle.cert_base.specs.FactsAndCases.{states_of, flow, base_list, two_agents_fact, wrong_output_fact, absent_fact, alone_fact, can_meet_in, cases_of_open, places_from, puts_into, is_in, no_moves, no_start_facts, no_helper_facts, helpers_among, count_row}
use Rattle.cert_base.specs.Closes.{cases_of, ClosesUnder, refuted, by_cases, no_case, next_case, Closes}
use Rattle.cert_base.specs.ValidProof.{ValidLeafProof}
use Rattle.comp_trees.specs.LeaderTree.{weighed_node, company_of}
use Rattle.base_laws.proofs.Lists.{at_end}
use Rattle.comp_powers_leaf.specs.declared.role.Role.TheVariants.{Piece}
use Rattle.comp_powers_leaf.specs.PowersLeaf.{place, roles, powers_leaf_of, IsPowers, HasRoom}
use Rattle.comp_powers_leaf.proofs.Moves.{fixed-first}
use Rattle.comp_powers_leaf.proofs.Meets.{piece-meets}
use Rattle.comp_powers_leaf.proofs.Formed.{states-long, moves-few}
use Rattle.comp_powers.specs.PowersProof.{hubs, no_leak_mix, helped_mix, no_hub_mix, high_mix, few_mix, low_mix, powers_tree, powers_part}
use Rattle.comp_trees.proofs.Mixes.{all_facts}
use Rattle.comp_powers.proofs.Own.{some_hub, here_facts, high_facts, low_facts, twin_fact, extra}
use Rattle.comp_powers.proofs.Nodes.{leaf, pred, formed, tw, tw-below, true_row, low_last, high_true_closes, high_false_closes, few_closes, low_true_closes, low_false_closes}
use Rattle.comp_powers.proofs.Tops.{leak_facts, leak_closes, helped_facts, helped_closes, hub_facts, hub_closes}
use Rattle.comp_powers.proofs.Layers.{layers-valid}

pub places-most : {A : Type 0} (a : ℕ) (test : A → Bool) (xs : List A) → length (places_from a test xs) ≤ length xs
places-most a test [] = omega arith
places-most {A} a test (x ∷ xs) = go (test x) (places-most (a + 1) test xs)
  where
    go : (b : Bool) → length (places_from (a + 1) test xs) ≤ length xs → length (if b then (a ∷ places_from (a + 1) test xs) else places_from (a + 1) test xs) ≤ suc (length xs)
    go true l = omega (arith, l)
    go false l = omega (arith, l)

module _ (coefs : List ℤ) (bound : ℤ) (k spare : ℕ) (is : IsPowers coefs bound k) (room : HasRoom k spare) where
  abbrev here : LeafModel
  here = leaf coefs bound k spare is room

  abbrev pr : PredModel
  pr = pred coefs bound k spare is room

  long : length here.states ≡ length (roles coefs k)
  long = states-long coefs bound k

  pub few-states : length here.states ≤ 512
  few-states = let few = is.states in omega (arith, long, few)

  pub some-states : 4 < length here.states
  some-states = let f = fixed-first coefs k in omega (arith, long, f)

  abbrev base : Bool → List Fact
  base b = base_list here pr b

  length_base : (b : Bool) → length (base b) ≡ length here.states + 3
  length_base b = omega (arith, length-append (map (flow here) (states_of here)) (two_agents_fact here ∷ Holds pr b ∷ wrong_output_fact here b ∷ []), length-map-range_with_len (flow here) 0 (length here.states))

  opens : (b : Bool) → cases_of here (base b) (Open (length here.states + 1)) ≡ Some (cases_of_open pr b)
  opens b =
      let found = at_end (map (flow here) (states_of here)) (two_agents_fact here ∷ Holds pr b ∷ wrong_output_fact here b ∷ []) (length here.states) 1 (length-map-range_with_len (flow here) 0 (length here.states)) in
      rw found refl

  in_states : (q : ℕ) → q < length here.states → nat_lt q (length here.states) ≡ true
  in_states q l = lt-ltb q (length here.states) l

  -- ---- how many facts

  pub company-few : (p : ℕ) → length (company_of here p) ≤ length here.states
  company-few p =
      let test = λ (q : ℕ). not (q == p) && can_meet_in here p q in
      omega (arith, length-filter test (states_of here), count_by-le-length test (states_of here), length-range_with_len 0 (length here.states))

  extra-few : (p : ℕ) → length (extra here p) ≤ 1
  extra-few p = go (can_meet_in here p p)
    where
      go : (c : Bool) → length (if c then (alone_fact here p ∷ []) else []) ≤ 1
      go true = omega arith
      go false = omega arith

  here-few : (p : ℕ) → length (here_facts here p) ≤ length here.states + 2
  here-few p = omega (arith, length-append (map (absent_fact here) (company_of here p)) (extra here p), length-map (company_of here p) (absent_fact here), company-few p, extra-few p)

  pub before-few : length (no_moves here (puts_into hubs) ++ no_start_facts here hubs) ≤ 50000
  before-few =
      let moves = no_moves here (puts_into hubs) in
      let starts = no_start_facts here hubs in
      let many = moves-few coefs k is.power in
      let inputs = (formed coefs bound k spare is room).input_count in
      let states = is.states in
      omega (arith, length-append moves starts, length-map (places_from 0 (puts_into hubs) here.moves) (λ t. Eq (single_row (move_variable here t) (pos 1) (pos 0))), length-map (places_from 0 (is_in hubs) here.inputs) (λ i. Eq (single_row (input_variable here i) (pos 1) (pos 0))), places-most 0 (puts_into hubs) here.moves, places-most 0 (is_in hubs) here.inputs, many, inputs, states)

  -- ---- a tree, by the opened fact

  module _ (b : Bool) (row : List ℤ) (constant : ℤ) (e : length row ≡ length coefs)
      (opening : cases_of_open pr b ≡ (Ge (input_row row constant) ∷ []) ∷ [])
      (high : closes_by_sum (all_facts here pr b row constant (high_facts here)) (terms_from 0 (high_mix coefs k here b)) ≡ true)
      (low : closes_by_sum (all_facts here pr b row constant (low_facts here k (tw coefs bound k spare is room) k (low_last coefs bound k spare is room))) (terms_from 0 (low_mix coefs k here b)) ≡ true) where
    abbrev opened : Fact
    opened = Ge (input_row row constant)

    abbrev start : List Fact
    start = base b ++ opened ∷ []

    length_start : length start ≡ length here.states + 4
    length_start = omega (arith, length-append (base b) (opened ∷ []), length_base b)

    -- a last node
    ends : (above : ℕ) (facts own : List Fact) (mix : List ℤ) (rest : List Node) → above < 4096 → length own ≤ 60000 → facts ≡ start ++ own → closes_by_sum (start ++ own) (terms_from 0 mix) ≡ true → ClosesUnder here above facts (weighed_node mix ∷ rest) rest
    ends above facts own mix rest deep few is_own closes =
        subst (λ fs. ClosesUnder here above fs (weighed_node mix ∷ rest) rest) (sym is_own)
        (refuted above (start ++ own) (weighed_node mix) rest (record { depth = deep; fact_count = omega (arith, length-append start own, length_start, few, few-states) }) closes)

    -- ---- the twins, and what is below them

    abbrev trapped : List Fact
    trapped = start ++ some_hub here ∷ []

    abbrev present_low : List Fact
    present_low = trapped ++ here_facts here 0

    abbrev twin : ℕ → Fact
    twin i = twin_fact here k (tw coefs bound k spare is room) i

    abbrev twins_at : ℕ → List Fact
    twins_at j = present_low ++ map twin (range_with_len 0 j)

    length_low : length present_low ≤ length here.states + length here.states + 7
    length_low = omega (arith, length-append trapped (here_facts here 0), length-append start (some_hub here ∷ []), length_start, here-few 0)

    length_twins : (j : ℕ) → length (twins_at j) ≤ length here.states + length here.states + 7 + j
    length_twins j = omega (arith, length-append present_low (map twin (range_with_len 0 j)), length_low, length-map-range_with_len twin 0 j)

    low-facts : (last : List Fact) → twins_at k ++ last ≡ start ++ low_facts here k (tw coefs bound k spare is room) k last
    low-facts last =
        let twins = map twin (range_with_len 0 k) in
        append_assoc present_low twins last
        ∙ append_assoc trapped (here_facts here 0) (twins ++ last)
        ∙ append_assoc start (some_hub here ∷ []) (here_facts here 0 ++ (twins ++ last))

    low-long : (last : List Fact) → length last ≤ length here.states + 2 → length (low_facts here k (tw coefs bound k spare is room) k last) ≤ 60000
    low-long last l =
        let twins = map twin (range_with_len 0 k) in
        let few = is.power in
        omega (arith, length-append (here_facts here 0) (twins ++ last), length-append twins last, length-map-range_with_len twin 0 k, here-few 0, few-states, l, few)

    abbrev few_node : Node
    few_node = weighed_node (few_mix coefs k here)

    abbrev low_node : Node
    low_node = weighed_node (low_mix coefs k here b)

    present_nothing : ClosesUnder here (3 + k) (twins_at k) (Present 3 ∷ few_node ∷ low_node ∷ []) []
    present_nothing =
        let within = in_states 3 (omega (arith, some-states)) in
        let many = is.power in
        let absent = absent_fact here 3 ∷ [] in
        let last = here_facts here 3 in
        let found : cases_of here (twins_at k) (Present 3) ≡ Some (absent ∷ last ∷ []) = rw within refl in
        by_cases (3 + k) (twins_at k) (Present 3) (few_node ∷ low_node ∷ []) [] (absent ∷ last ∷ [])
        (record { depth = omega (arith, many); fact_count = omega (arith, length_twins k, few-states, many) }) found
        (next_case (3 + k + 1) (twins_at k) absent (last ∷ []) (few_node ∷ low_node ∷ []) (low_node ∷ []) []
        (ends (3 + k + 1) (twins_at k ++ absent) (low_facts here k (tw coefs bound k spare is room) k absent) (few_mix coefs k here) (low_node ∷ []) (omega (arith, many)) (low-long absent (omega (arith, some-states))) (low-facts absent) (few_closes coefs bound k spare is room b row constant e))
        (next_case (3 + k + 1) (twins_at k) last [] (low_node ∷ []) [] []
        (ends (3 + k + 1) (twins_at k ++ last) (low_facts here k (tw coefs bound k spare is room) k last) (low_mix coefs k here b) [] (omega (arith, many)) (low-long last (here-few 3)) (low-facts last) low)
        (no_case (3 + k + 1) (twins_at k) [])))

    one_more : (j : ℕ) → twins_at j ++ twin j ∷ [] ≡ twins_at (j + 1)
    one_more j =
        append_assoc present_low (map twin (range_with_len 0 j)) (twin j ∷ [])
        ∙ ap (λ fs. present_low ++ fs) (sym (map-range_with_len_more twin 0 j j (zero-add j)))

    twin_is : (j : ℕ) → j < k → cases_of here (twins_at j) (Twin (tw coefs bound k spare is room j)) ≡ Some ((twin j ∷ []) ∷ [])
    twin_is j l =
        let within = in_states (tw coefs bound k spare is room j) (tw-below coefs bound k spare is room j l) in
        let meets : can_meet_in here (tw coefs bound k spare is room j) (tw coefs bound k spare is room j) ≡ true = piece-meets coefs k j l in
        rw (within, meets) refl

    abbrev nodes_from : ℕ → ℕ → List Node
    nodes_from j m = map Twin (map (λ i. place coefs k (Piece i true)) (range_with_len j m)) ++ Present 3 ∷ few_node ∷ low_node ∷ []

    close_twins : (j m : ℕ) → j + m ≡ k → ClosesUnder here (3 + j) (twins_at j) (nodes_from j m) []
    close_twins j zero e =
        let same : k ≡ j = omega arith in
        subst (λ i. ClosesUnder here (3 + i) (twins_at i) (nodes_from j zero) []) same present_nothing
    close_twins j (suc m) e =
        let many = is.power in
        let more = close_twins (j + 1) m (omega arith) in
        let above : 3 + (j + 1) ≡ 3 + j + 1 = omega arith in
        let next : ClosesUnder here (3 + j + 1) (twins_at j ++ twin j ∷ []) (nodes_from (j + 1) m) [] =
        subst (λ fs. ClosesUnder here (3 + j + 1) fs (nodes_from (j + 1) m) []) (sym (one_more j)) (subst (λ a. ClosesUnder here a (twins_at (j + 1)) (nodes_from (j + 1) m) []) above more) in
        by_cases (3 + j) (twins_at j) (Twin (tw coefs bound k spare is room j)) (nodes_from (j + 1) m) [] ((twin j ∷ []) ∷ [])
        (record { depth = omega (arith, many, e); fact_count = omega (arith, length_twins j, few-states, many, e) }) (twin_is j (omega arith))
        (next_case (3 + j + 1) (twins_at j) (twin j ∷ []) [] (nodes_from (j + 1) m) [] [] next (no_case (3 + j + 1) (twins_at j) []))

    twins : ClosesUnder here 3 present_low (nodes_from 0 k) []
    twins = subst (λ fs. ClosesUnder here 3 fs (nodes_from 0 k) []) (append-nil present_low) (close_twins 0 k (zero-add k))

    -- ---- the hubs

    abbrev absent_low : List Fact
    absent_low = trapped ++ absent_fact here 0 ∷ []

    abbrev hub_node : Node
    hub_node = weighed_node (no_hub_mix here)

    abbrev high_node : Node
    high_node = weighed_node (high_mix coefs k here b)

    length_trapped : length trapped ≡ length here.states + 5
    length_trapped = omega (arith, length-append start (some_hub here ∷ []), length_start)

    present_high : (rest : List Node) → ClosesUnder here 3 absent_low (Present 1 ∷ hub_node ∷ high_node ∷ rest) rest
    present_high rest =
        let within = in_states 1 (omega (arith, some-states)) in
        let absent = absent_fact here 1 ∷ [] in
        let last = here_facts here 1 in
        let found : cases_of here absent_low (Present 1) ≡ Some (absent ∷ last ∷ []) = rw within refl in
        let behind : (own : List Fact) → absent_low ++ own ≡ start ++ (some_hub here ∷ absent_fact here 0 ∷ own) = λ own. append_assoc trapped (absent_fact here 0 ∷ []) own ∙ append_assoc start (some_hub here ∷ []) (absent_fact here 0 ∷ own) in
        by_cases 3 absent_low (Present 1) (hub_node ∷ high_node ∷ rest) rest (absent ∷ last ∷ [])
        (record { depth = omega arith; fact_count = omega (arith, length-append trapped (absent_fact here 0 ∷ []), length_trapped, few-states) }) found
        (next_case 4 absent_low absent (last ∷ []) (hub_node ∷ high_node ∷ rest) (high_node ∷ rest) rest
        (ends 4 (absent_low ++ absent) (hub_facts coefs bound k spare is room) (no_hub_mix here) (high_node ∷ rest) (omega arith) (omega arith) (behind absent) (hub_closes coefs bound k spare is room b row constant e))
        (next_case 4 absent_low last [] (high_node ∷ rest) rest rest
        (ends 4 (absent_low ++ last) (high_facts here) (high_mix coefs k here b) rest (omega arith) (omega (arith, here-few 1, few-states)) (behind last) high)
        (no_case 4 absent_low rest)))

    present : ClosesUnder here 2 trapped (Present 0 ∷ Present 1 ∷ hub_node ∷ high_node ∷ nodes_from 0 k) []
    present =
        let within = in_states 0 (omega (arith, some-states)) in
        let absent = absent_fact here 0 ∷ [] in
        let last = here_facts here 0 in
        let found : cases_of here trapped (Present 0) ≡ Some (absent ∷ last ∷ []) = rw within refl in
        by_cases 2 trapped (Present 0) (Present 1 ∷ hub_node ∷ high_node ∷ nodes_from 0 k) [] (absent ∷ last ∷ [])
        (record { depth = omega arith; fact_count = omega (arith, length_trapped, few-states) }) found
        (next_case 3 trapped absent (last ∷ []) (Present 1 ∷ hub_node ∷ high_node ∷ nodes_from 0 k) (nodes_from 0 k) []
        (present_high (nodes_from 0 k))
        (next_case 3 trapped last [] (nodes_from 0 k) [] [] twins (no_case 3 trapped [])))

    helped-few : length (helped_facts coefs bound k spare is room) ≤ 60000
    helped-few =
        let before = no_moves here (puts_into hubs) ++ no_start_facts here hubs in
        let behind = Eq (count_row here hubs (pos 0)) ∷ no_helper_facts here hubs in
        omega (arith, length-append before behind, before-few, helper-few (helpers_among here hubs == 0))
      where
        helper-few : (c : Bool) → length (if c then [] else (Eq (constant_row (pos (helpers_among here hubs))) ∷ [])) ≤ 1
        helper-few true = omega arith
        helper-few false = omega arith

    abbrev leak_node : Node
    leak_node = weighed_node (no_leak_mix here)

    abbrev helped_node : Node
    helped_node = weighed_node (helped_mix here)

    abbrev below : List Node
    below = Present 0 ∷ Present 1 ∷ hub_node ∷ high_node ∷ nodes_from 0 k

    trap : ClosesUnder here 1 start (Trap hubs ∷ leak_node ∷ helped_node ∷ below) []
    trap =
        let first = in_states 0 (omega (arith, some-states)) in
        let second = in_states 1 (omega (arith, some-states)) in
        let leak = leak_facts coefs bound k spare is room in
        let helped = helped_facts coefs bound k spare is room in
        let last = some_hub here ∷ [] in
        let found : cases_of here start (Trap hubs) ≡ Some (leak ∷ helped ∷ last ∷ []) = rw (first, second) refl in
        by_cases 1 start (Trap hubs) (leak_node ∷ helped_node ∷ below) [] (leak ∷ helped ∷ last ∷ [])
        (record { depth = omega arith; fact_count = omega (arith, length_start, few-states) }) found
        (next_case 2 start leak (helped ∷ last ∷ []) (leak_node ∷ helped_node ∷ below) (helped_node ∷ below) []
        (ends 2 (start ++ leak) leak (no_leak_mix here) (helped_node ∷ below) (omega arith) (omega arith) refl (leak_closes coefs bound k spare is room b row constant e))
        (next_case 2 start helped (last ∷ []) (helped_node ∷ below) below []
        (ends 2 (start ++ helped) helped (helped_mix here) below (omega arith) helped-few refl (helped_closes coefs bound k spare is room b row constant e))
        (next_case 2 start last [] below [] [] present (no_case 2 start []))))

    tree : Closes here (base b) (powers_tree coefs k here b) []
    tree =
        let found : cases_of here (base b) (Open (length here.states + 1)) ≡ Some ((opened ∷ []) ∷ []) = opens b ∙ ap Some opening in
        by_cases 0 (base b) (Open (length here.states + 1)) (Trap hubs ∷ leak_node ∷ helped_node ∷ below) [] ((opened ∷ []) ∷ [])
        (record { depth = omega arith; fact_count = omega (arith, length_base b, few-states) }) found
        (next_case 1 (base b) (opened ∷ []) [] (Trap hubs ∷ leak_node ∷ helped_node ∷ below) [] [] trap (no_case 1 (base b) []))

  pub tree-true : Closes here (base_list here pr true) (powers_tree coefs k here true) []
  tree-true = tree true (true_row coefs bound k spare is room) (bound -ℤ pos 1) (length-map coefs neg_ℤ) refl (high_true_closes coefs bound k spare is room) (low_true_closes coefs bound k spare is room)

  pub tree-false : Closes here (base_list here pr false) (powers_tree coefs k here false) []
  tree-false = tree false coefs (neg_ℤ bound) refl refl (high_false_closes coefs bound k spare is room) (low_false_closes coefs bound k spare is room)

-- the theorem
pub powers-valid : (coefs : List ℤ) (bound : ℤ) (k spare : ℕ) → IsPowers coefs bound k → HasRoom k spare → ValidLeafProof (powers_leaf_of coefs bound k spare) (powers_part coefs bound k spare)
powers-valid coefs bound k spare is room = record {
  layers = layers-valid coefs bound k spare;
  on_true = tree-true coefs bound k spare is room;
  on_false = tree-false coefs bound k spare is room;
}
