-- The whole tree of a leaf with leaders closes its base facts, if the node of each leader closes.
use Rattle.std.proofs.Common.{◌≡◌, subst, ℕ, zero, suc, ◌+◌, ◌<◌, ◌≤◌, Bool, true, false, ◌&&◌, List, [], ◌∷◌, ◌++◌, length, map, append_assoc, refl, ap, sym, ◌∙◌, zero-add, arith, length-append}
use Rattle.std.specs.Prelude.{pos, negsuc, if◌then◌else◌, not, ◌==◌, Some, nat_lt}
use Rattle.std.specs.List.{range_with_len, list_all}
use Rattle.std.proofs.lemmas.Bool.{lt-ltb}
use Rattle.std.proofs.lemmas.List.{length-map, append-nil}
use Rattle.std.proofs.lemmas.List.Sums.{length-filter, count_by-le-length}
use Rattle.std.proofs.lemmas.List.FromFn.{length-range_with_len, length-map-range_with_len, map-range_with_len_more}
use Rattle.pop_leaf.specs.LeafModel.{LeafModel, IsLeaf}
use Rattle.pres_ast.specs.PredModel.{PredModel}
use Rattle.cert_base.specs.declared.fact.Fact.{Fact}
use Rattle.cert_base.specs.declared.fact.Fact.TheVariants.{Ge, Eq, Holds}
use Rattle.cert_base.specs.declared.node.Node.{Node}
use Rattle.cert_base.specs.declared.node.Node.TheVariants.{Present, Trap, Open}
use Rattle.cert_base.specs.FactsAndCases.{states_of, flow, base_list, two_agents_fact, wrong_output_fact, absent_fact, occurs_fact, alone_fact, can_meet_in, cases_of_present, cases_of_open, some_taken_fact, no_moves, no_start_facts, count_row, takes_from, puts_into, no_helper_facts}
use Rattle.cert_base.specs.Closes.{refutes, cases_of, ClosesUnder, refuted, by_cases, no_case, next_case, Closes}
use Rattle.comp_trees.specs.LeaderTree.{leaders, company_of, facts_of_trap, facts_without, facts_of_leader, leader_nodes, leader_tree, weighed_node, no_leader_mix, no_leak_mix, no_start_mix, IsLed}
use Rattle.comp_trees.proofs.TrapNodes.{no_leak_closes, no_start_closes, no_leader_closes, length_opened, length_nobody}
use Rattle.base_laws.proofs.Lists.{at_end}

-- the second case of a leader
abbrev present_case : LeafModel → ℕ → List Fact
present_case leaf p = (occurs_fact leaf p ∷ map (absent_fact leaf) (company_of leaf p)) ++ (if can_meet_in leaf p p then (alone_fact leaf p ∷ []) else [])

all_below : (a n m : ℕ) → a + n ≤ m → list_all (λ q. nat_lt q m) (range_with_len a n) ≡ true
all_below a zero m l = refl
all_below a (suc n) m l =
    let here : nat_lt a m ≡ true = lt-ltb a m (omega arith) in
    let rest = all_below (a + 1) n m (omega arith) in
    rw (here, rest) refl

module _ (leaf : LeafModel) (pred : PredModel) (b : Bool) (opened : Fact) (n : ℕ) (is : IsLed leaf n) (formed : IsLeaf leaf) (opens : cases_of_open pred b ≡ (opened ∷ []) ∷ []) (ends : ℕ → Node) where
  abbrev base : List Fact
  base = base_list leaf pred b

  abbrev trap_facts : List Fact
  trap_facts = facts_of_trap leaf base opened n

  abbrev last : Node
  last = weighed_node (no_leader_mix leaf n)

  length_trap : length trap_facts ≡ length leaf.states + 5
  length_trap = omega (arith, length-append (base ++ opened ∷ []) (Ge (count_row leaf (leaders n) (negsuc 0)) ∷ []), length_opened leaf pred b opened n is)

  length_without : (p : ℕ) → length (facts_without leaf trap_facts p) ≡ length leaf.states + 5 + p
  length_without p = omega (arith, length-append trap_facts (map (absent_fact leaf) (range_with_len 0 p)), length_trap, length-map-range_with_len (absent_fact leaf) 0 p)

  one_more : (p : ℕ) → facts_without leaf trap_facts p ++ absent_fact leaf p ∷ [] ≡ facts_without leaf trap_facts (p + 1)
  one_more p =
      append_assoc trap_facts (map (absent_fact leaf) (range_with_len 0 p)) (absent_fact leaf p ∷ [])
      ∙ ap (λ fs. trap_facts ++ fs) (sym (map-range_with_len_more (absent_fact leaf) 0 p p (zero-add p)))

  length_partners : (p : ℕ) → length (company_of leaf p) ≤ length leaf.states
  length_partners p =
      let few = count_by-le-length (λ q. not (q == p) && can_meet_in leaf p q) (states_of leaf) in
      omega (arith, length-filter (λ q. not (q == p) && can_meet_in leaf p q) (states_of leaf), few, length-range_with_len 0 (length leaf.states))

  length_leader : (p : ℕ) → length (facts_of_leader leaf trap_facts p) ≤ length leaf.states + 5 + p + length leaf.states + 2
  length_leader p =
      let own = (occurs_fact leaf p ∷ map (absent_fact leaf) (company_of leaf p)) in
      let few = length_partners p in
      let tail = short (can_meet_in leaf p p) in
      omega (arith, length-append (facts_without leaf trap_facts p) (own ++ (if can_meet_in leaf p p then (alone_fact leaf p ∷ []) else [])), length-append own (if can_meet_in leaf p p then (alone_fact leaf p ∷ []) else []), length_without p, length-map (company_of leaf p) (absent_fact leaf), few, tail)
    where
      short : (c : Bool) → length (if c then (alone_fact leaf p ∷ []) else []) ≤ 1
      short true = omega arith
      short false = omega arith

  in_range : (p : ℕ) → p < length leaf.states → cases_of leaf (facts_without leaf trap_facts p) (Present p) ≡ Some (cases_of_present leaf p)
  in_range p l = let here : nat_lt p (length leaf.states) ≡ true = lt-ltb p (length leaf.states) l in rw here refl

  -- the nodes for the leaders from p on
  close_leaders : ((p : ℕ) → p < n → refutes (facts_of_leader leaf trap_facts p) (ends p) ≡ true) → (k p : ℕ) (rest : List Node) → p + k ≡ n → ClosesUnder leaf (p + 2) (facts_without leaf trap_facts p) (leader_nodes ends last p k ++ rest) rest
  close_leaders each zero p rest e =
      let few = formed.states in
      let all = is.leaders in
      let same : p ≡ n = omega arith in
      refuted (p + 2) (facts_without leaf trap_facts p) last rest
      (record { depth = omega arith; fact_count = omega (arith, length_without p) })
      (ap (λ k. refutes (facts_without leaf trap_facts k) last) same ∙ no_leader_closes leaf pred b opened n is)
  close_leaders each (suc k) p rest e =
      let few = formed.states in
      let all = is.leaders in
      let nodes = leader_nodes ends last (p + 1) k in
      let more = close_leaders each k (p + 1) (ends p ∷ rest) (omega arith) in
      let above : p + 1 + 2 ≡ p + 2 + 1 = omega arith in
      let first : ClosesUnder leaf (p + 2 + 1) (facts_without leaf trap_facts p ++ absent_fact leaf p ∷ []) ((nodes ++ ends p ∷ []) ++ rest) (ends p ∷ rest) =
      subst (λ fs. ClosesUnder leaf (p + 2 + 1) fs ((nodes ++ ends p ∷ []) ++ rest) (ends p ∷ rest)) (sym (one_more p))
      (subst (λ ns. ClosesUnder leaf (p + 2 + 1) (facts_without leaf trap_facts (p + 1)) ns (ends p ∷ rest)) (sym (append_assoc nodes (ends p ∷ []) rest))
      (subst (λ a. ClosesUnder leaf a (facts_without leaf trap_facts (p + 1)) (nodes ++ (ends p ∷ rest)) (ends p ∷ rest)) above more)) in
      let second : ClosesUnder leaf (p + 2 + 1) (facts_of_leader leaf trap_facts p) (ends p ∷ rest) rest =
      refuted (p + 2 + 1) (facts_of_leader leaf trap_facts p) (ends p) rest
      (record { depth = omega arith; fact_count = omega (arith, length_leader p) })
      (each p (omega arith)) in
      by_cases (p + 2) (facts_without leaf trap_facts p) (Present p) ((nodes ++ ends p ∷ []) ++ rest) rest (cases_of_present leaf p)
      (record { depth = omega arith; fact_count = omega (arith, length_without p) })
      (in_range p (omega arith))
      (next_case (p + 2 + 1) (facts_without leaf trap_facts p) (absent_fact leaf p ∷ []) (present_case leaf p ∷ []) ((nodes ++ ends p ∷ []) ++ rest) (ends p ∷ rest) rest first
      (next_case (p + 2 + 1) (facts_without leaf trap_facts p) (present_case leaf p) [] (ends p ∷ rest) rest rest second
      (no_case (p + 2 + 1) (facts_without leaf trap_facts p) rest)))

  -- the whole tree
  pub leader_tree-closes : ((p : ℕ) → p < n → refutes (facts_of_leader leaf trap_facts p) (ends p) ≡ true) → Closes leaf base (leader_tree leaf n ends) []
  leader_tree-closes each =
      let few = formed.states in
      let longest = is.few in
      let all = is.leaders in
      let facts = base ++ opened ∷ [] in
      let own = leader_nodes ends last 0 n in
      let leak = some_taken_fact leaf (λ t. takes_from (leaders n) t && not (puts_into (leaders n) t)) in
      let start = (no_moves leaf (puts_into (leaders n)) ++ no_start_facts leaf (leaders n)) ++ Eq (count_row leaf (leaders n) (pos 0)) ∷ no_helper_facts leaf (leaders n) in
      let trap = Ge (count_row leaf (leaders n) (negsuc 0)) in
      let length_facts = length_opened leaf pred b opened n is in
      let length_base : length base ≡ length leaf.states + 3 = omega (arith, length-append base (opened ∷ []), length_facts) in
      let length_start = length_nobody leaf pred b opened n is in
      let length_leak : length (facts ++ leak ∷ []) ≡ length leaf.states + 5 = omega (arith, length-append facts (leak ∷ []), length_facts) in
      let first : ClosesUnder leaf 2 (facts ++ leak ∷ []) (weighed_node (no_leak_mix leaf) ∷ weighed_node (no_start_mix leaf) ∷ own) (weighed_node (no_start_mix leaf) ∷ own) =
      refuted 2 (facts ++ leak ∷ []) (weighed_node (no_leak_mix leaf)) (weighed_node (no_start_mix leaf) ∷ own) (record { depth = omega arith; fact_count = omega arith }) (no_leak_closes leaf pred b opened n is) in
      let second : ClosesUnder leaf 2 (facts ++ start) (weighed_node (no_start_mix leaf) ∷ own) own =
      refuted 2 (facts ++ start) (weighed_node (no_start_mix leaf)) own (record { depth = omega arith; fact_count = omega arith }) (no_start_closes leaf pred b opened n is) in
      let third : ClosesUnder leaf 2 (facts ++ trap ∷ []) own [] =
      subst (λ ns. ClosesUnder leaf 2 trap_facts ns []) (append-nil own)
      (subst (λ fs. ClosesUnder leaf 2 fs (own ++ []) []) (append-nil trap_facts) (close_leaders each n 0 [] (zero-add n))) in
      let cases : ClosesUnder leaf 1 facts (Trap (leaders n) ∷ weighed_node (no_leak_mix leaf) ∷ weighed_node (no_start_mix leaf) ∷ own) [] =
      by_cases 1 facts (Trap (leaders n)) (weighed_node (no_leak_mix leaf) ∷ weighed_node (no_start_mix leaf) ∷ own) [] ((leak ∷ []) ∷ start ∷ (trap ∷ []) ∷ [])
      (record { depth = omega arith; fact_count = omega arith })
      (let here = all_below 0 n (length leaf.states) (omega arith) in rw here refl)
      (next_case 2 facts (leak ∷ []) (start ∷ (trap ∷ []) ∷ []) _ _ [] first
      (next_case 2 facts start ((trap ∷ []) ∷ []) _ _ [] second
      (next_case 2 facts (trap ∷ []) [] own [] [] third (no_case 2 facts [])))) in
      by_cases 0 base (Open (length leaf.states + 1)) _ [] ((opened ∷ []) ∷ [])
      (record { depth = omega arith; fact_count = omega arith })
      (open_is ∙ ap Some opens)
      (next_case 1 base (opened ∷ []) [] _ [] [] cases (no_case 1 base []))
    where
      open_is : cases_of leaf base (Open (length leaf.states + 1)) ≡ Some (cases_of_open pred b)
      open_is =
          let at = at_end (map (flow leaf) (states_of leaf)) (two_agents_fact leaf ∷ Holds pred b ∷ wrong_output_fact leaf b ∷ []) (length leaf.states) 1 (length-map-range_with_len (flow leaf) 0 (length leaf.states)) in
          rw at refl
