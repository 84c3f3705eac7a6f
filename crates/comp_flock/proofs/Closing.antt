-- Both trees of a built leaf close.
use Rattle.std.proofs.Common.{◌≡◌, ◌∙◌, subst, ℕ, zero, suc, ◌+◌, ◌-◌, ◌<◌, ◌≤◌, Bool, true, false, ◌&&◌, List, [], ◌∷◌, ◌++◌, length, map, append_assoc, length-append, refl, ap, sym, zero-add, arith}
use Rattle.std.specs.Prelude.{ℤ, if◌then◌else◌, ◌==◌, not, Some, nat_lt, filter}
use Rattle.std.specs.List.{range_with_len}
use Rattle.std.proofs.lemmas.Bool.{lt-ltb, eq-eqb, ne_eqb}
use Rattle.std.proofs.lemmas.List.{append-nil, length-map}
use Rattle.std.proofs.lemmas.List.Elements.{filter-append}
use Rattle.std.proofs.lemmas.List.Sums.{length-filter, count_by-le-length}
use Rattle.std.proofs.lemmas.List.FromFn.{length-range_with_len, length-map-range_with_len, map-range_with_len_more}
use Rattle.pop_leaf.specs.LeafModel.{LeafModel}
use Rattle.pop_leaf.specs.declared.leaf.Move.{Move}
use Rattle.pres_ast.specs.PredModel.{PredModel}
use Rattle.cert_base.specs.declared.fact.Fact.{Fact}
use Rattle.cert_base.specs.declared.fact.Fact.TheVariants.{Ge, Holds}
use Rattle.cert_base.specs.declared.node.Node.{Node}
use Rattle.cert_base.specs.declared.node.Node.TheVariants.{Present, Twin, Siphon, Open}
use Rattle.cert_base.specs.Rows.{input_row}
use Rattle.cert_base.specs.FactsAndCases.{states_of, flow, base_list, two_agents_fact, wrong_output_fact, absent_fact, occurs_fact, alone_fact, not_twice, can_meet_in, no_moves, takes_from}
use Rattle.cert_base.specs.Closes.{refutes, cases_of, ClosesUnder, refuted, by_cases, no_case, next_case, Closes}
use Rattle.comp_trees.specs.LeaderTree.{weighed_node, leader_nodes, company_of}
use Rattle.comp_trees.proofs.Bits.{double}
use Rattle.comp_counting.specs.FlockAtoms.{says_enough, enough_for, offset_pred_of}
use Rattle.comp_counting.specs.FullState.{converted_mix, start_mix, never_mix}
use Rattle.comp_counting.proofs.Opened.{opened_row, opened_constant, opened-is}
use Rattle.comp_counting.proofs.Filters.{filter-all}
use Rattle.comp_counting.proofs.FullNodes.{full, IsCounting, converted_facts, converted_closes, start_facts, start_closes, never_facts, never_long, never_closes}
use Rattle.comp_flock.specs.CountLeaf.{count_state_name, count_moves, count_leaf}
use Rattle.comp_flock.specs.CountProof.{with_mix, without_mix, first_mix, prefix_nodes, enough_tree, too_few_tree}
use Rattle.comp_flock.proofs.WorthLaws.{high, no-more}
use Rattle.comp_flock.proofs.Meetings.{full-meets, twin-meets, prefix-meets}
use Rattle.comp_flock.proofs.Formed.{states-long}
use Rattle.comp_flock.specs.Covered.{IsCovered}
use Rattle.comp_flock.proofs.Covered.{is-counting}
use Rattle.comp_flock.proofs.EnoughNodes.{fixed, prefix_facts, without_closes, with_closes}
use Rattle.comp_flock.proofs.TooFewNodes.{first_facts, first_closes, length-taken}
use Rattle.base_laws.proofs.Ranges.{all_range, range_one_more}
use Rattle.base_laws.proofs.Lists.{at_end}

module _ (coefs : List ℤ) (bound : ℤ) (keeps : Bool) (t most : ℕ) (ws : List ℕ) (top k : ℕ) (helpers : List ℕ) (is : IsCovered coefs bound keeps t most ws top k helpers) where
  -- the value that says that there are enough
  abbrev says : Bool
  says = says_enough bound

  abbrev c : ℕ
  c = enough_for bound

  abbrev leaf : LeafModel
  leaf = count_leaf coefs says c keeps t ws k helpers

  abbrev pred : PredModel
  pred = offset_pred_of coefs bound

  abbrev opened : Bool → Fact
  opened b = Ge (input_row (opened_row coefs b) (opened_constant bound b))

  abbrev names : List (List ℕ)
  names = map (count_state_name ws) (range_with_len 0 (k + 2))

  abbrev moves : List Move
  moves = count_moves keeps ws t k

  counting : IsCounting coefs bound k names moves helpers
  counting = is-counting coefs bound keeps t most ws top k helpers is

  long : length leaf.states ≡ k + 2
  long = states-long ws k

  short : k ≤ 78
  short = is.short

  low : top ≤ k
  low = is.chain.low

  abbrev base : Bool → List Fact
  base b = base_list leaf pred b

  length_base : (b : Bool) → length (base b) ≡ k + 5
  length_base b = omega (arith, length-append (map (flow leaf) (states_of leaf)) (two_agents_fact leaf ∷ Holds pred b ∷ wrong_output_fact leaf b ∷ []), length-map-range_with_len (flow leaf) 0 (length leaf.states), long)

  in_states : (q : ℕ) → q ≤ k + 1 → nat_lt q (length leaf.states) ≡ true
  in_states q l = lt-ltb q (length leaf.states) (omega (arith, long, l))

  opens : (b : Bool) → cases_of leaf (base b) (Open (k + 2 + 1)) ≡ Some ((opened b ∷ []) ∷ [])
  opens b =
      let at = at_end (map (flow leaf) (states_of leaf)) (two_agents_fact leaf ∷ Holds pred b ∷ wrong_output_fact leaf b ∷ []) (k + 2) 1 (length-map-range_with_len (flow leaf) 0 (length leaf.states) ∙ long) in
      rw at (ap (λ cases. Some cases) (opened-is (length coefs) coefs bound b))

  -- ---- the tree where there are enough

  abbrev enough : List Fact
  enough = base says ++ opened says ∷ []

  length_enough : length enough ≡ k + 6
  length_enough = omega (arith, length-append (base says) (opened says ∷ []), length_base says)

  abbrev fixed_at : ℕ → List Fact
  fixed_at j = fixed coefs bound keeps t most ws top k helpers is j

  abbrev few_at : ℕ → List Fact
  few_at j = enough ++ fixed_at j

  length_few : (j : ℕ) → length (few_at j) ≡ k + 7 + j
  length_few j = omega (arith, length-append enough (fixed_at j), length_enough, length-map-range_with_len (not_twice leaf) 1 j)

  -- with one more state that occurs at most once
  one_twin_more : (j : ℕ) → few_at j ++ not_twice leaf (j + 1) ∷ [] ≡ few_at (j + 1)
  one_twin_more j =
      append_assoc enough (fixed_at j) (not_twice leaf (j + 1) ∷ [])
      ∙ ap (λ fs. enough ++ absent_fact leaf (k + 1) ∷ fs) (sym (map-range_with_len_more (not_twice leaf) 1 j (j + 1) (let e : 1 + j ≡ j + 1 = omega arith in e)))

  twin_is : (j : ℕ) → j < top → cases_of leaf (few_at j) (Twin (j + 1)) ≡ Some ((not_twice leaf (j + 1) ∷ []) ∷ [])
  twin_is j l =
      let here = in_states (j + 1) (omega (arith, l, low)) in
      let meets = twin-meets keeps ws t top k is.chain (j + 1) (omega arith) (omega (arith, l)) in
      rw (here, meets) refl

  -- the powers below 2^top, from j on
  close_twins : (nodes rest : List Node) → ClosesUnder leaf (top + 2) (few_at top) nodes rest → (j m : ℕ) → j + m ≡ top → ClosesUnder leaf (j + 2) (few_at j) (map Twin (range_with_len (j + 1) m) ++ nodes) rest
  close_twins nodes rest last j zero e =
      let same : top ≡ j = omega (arith, e) in
      subst (λ i. ClosesUnder leaf (i + 2) (few_at i) nodes rest) same last
  close_twins nodes rest last j (suc m) e =
      let later = map Twin (range_with_len (j + 1 + 1) m) ++ nodes in
      let more = close_twins nodes rest last (j + 1) m (omega (arith, e)) in
      let above : j + 1 + 2 ≡ j + 2 + 1 = omega arith in
      let next : ClosesUnder leaf (j + 2 + 1) (few_at j ++ not_twice leaf (j + 1) ∷ []) later rest =
      subst (λ fs. ClosesUnder leaf (j + 2 + 1) fs later rest) (sym (one_twin_more j)) (subst (λ a. ClosesUnder leaf a (few_at (j + 1)) later rest) above more) in
      by_cases (j + 2) (few_at j) (Twin (j + 1)) later rest ((not_twice leaf (j + 1) ∷ []) ∷ [])
      (record { depth = omega (arith, e, low, short); fact_count = omega (arith, length_few j, e, low, short) }) (twin_is j (omega (arith, e)))
      (next_case (j + 2 + 1) (few_at j) (not_twice leaf (j + 1) ∷ []) [] later rest rest next (no_case (j + 2 + 1) (few_at j) rest))

  -- ---- each prefix in turn

  abbrev absent_at : ℕ → List Fact
  absent_at j = prefix_facts coefs bound keeps t most ws top k helpers is j

  abbrev prefix_at : ℕ → List Fact
  prefix_at j = enough ++ (fixed_at top ++ absent_at j)

  length_prefix : (j : ℕ) → length (prefix_at j) ≡ k + 7 + top + j
  length_prefix j =
      omega (arith, length-append enough (fixed_at top ++ absent_at j), length-append (fixed_at top) (absent_at j), length_enough, length-map-range_with_len (not_twice leaf) 1 top, length-map-range_with_len (absent_fact leaf) (top + 1) j)

  one_absent_more : (j p : ℕ) → top + 1 + j ≡ p → prefix_at j ++ absent_fact leaf p ∷ [] ≡ prefix_at (j + 1)
  one_absent_more j p e =
      append_assoc enough (fixed_at top ++ absent_at j) (absent_fact leaf p ∷ [])
      ∙ ap (λ fs. enough ++ fs) (append_assoc (fixed_at top) (absent_at j) (absent_fact leaf p ∷ []))
      ∙ ap (λ fs. enough ++ (fixed_at top ++ fs)) (sym (map-range_with_len_more (absent_fact leaf) (top + 1) j p e))

  abbrev present_at : ℕ → List Fact
  present_at p = (occurs_fact leaf p ∷ map (absent_fact leaf) (company_of leaf p)) ++ alone_fact leaf p ∷ []

  length_present : (p : ℕ) → length (present_at p) ≤ k + 4
  length_present p =
      let few = count_by-le-length (λ q. not (q == p) && can_meet_in leaf p q) (states_of leaf) in
      omega (arith, length-append (occurs_fact leaf p ∷ map (absent_fact leaf) (company_of leaf p)) (alone_fact leaf p ∷ []), length-map (company_of leaf p) (absent_fact leaf), length-filter (λ q. not (q == p) && can_meet_in leaf p q) (states_of leaf), few, length-range_with_len 0 (length leaf.states), long)

  -- two agents with a prefix meet
  self-meets : (p : ℕ) → top < p → p ≤ k → can_meet_in leaf p p ≡ true
  self-meets p l m =
      let a = high ws t top k is.chain p l (omega (arith, m)) in
      let b = no-more ws t top k is.chain (p + 1) (omega (arith, m)) in
      let most = is.chain.below in
      let twice = double top in
      prefix-meets keeps ws t top k is.chain p p l m (omega (arith, m)) (omega (arith, a, b, most, twice))

  present_is : (facts : List Fact) (p : ℕ) → top < p → p ≤ k → cases_of leaf facts (Present p) ≡ Some ((absent_fact leaf p ∷ []) ∷ present_at p ∷ [])
  present_is facts p l m =
      let here = in_states p (omega (arith, m)) in
      let meets = self-meets p l m in
      rw (here, meets) refl

  abbrev ends : ℕ → Node
  ends p = weighed_node (with_mix leaf most ws k top p)

  abbrev last : Node
  last = weighed_node (without_mix most ws k top)

  -- the end of a prefix
  close_end : (j p : ℕ) (rest : List Node) → top + 1 + j ≡ p → p ≤ k → ClosesUnder leaf (top + 2 + j + 1) (prefix_at j ++ present_at p) (ends p ∷ rest) rest
  close_end j p rest e m =
      let above : top < p = omega (arith, e) in
      let same : p - (top + 1) ≡ j = omega (arith, e) in
      let closes = subst (λ i. refutes_at i) same (with_closes coefs bound keeps t most ws top k helpers is p above m) in
      let few = length_present p in
      subst (λ fs. ClosesUnder leaf (top + 2 + j + 1) fs (ends p ∷ rest) rest) (sym (append_assoc enough (fixed_at top ++ absent_at j) (present_at p)))
      (refuted (top + 2 + j + 1) (enough ++ ((fixed_at top ++ absent_at j) ++ present_at p)) (ends p) rest
      (record {
        depth = omega (arith, e, m, short);
        fact_count = omega (arith, length-append enough ((fixed_at top ++ absent_at j) ++ present_at p), length-append (fixed_at top ++ absent_at j) (present_at p), length-append enough (fixed_at top ++ absent_at j), length_prefix j, few, e, m, short);
      })
      closes)
    where
      refutes_at : ℕ → Type 0
      refutes_at i = refutes (enough ++ ((fixed_at top ++ absent_at i) ++ present_at p)) (ends p) ≡ true

  -- the prefixes from j on
  close_prefixes : (m j p : ℕ) (rest : List Node) → j + m ≡ k - top → top + 1 + j ≡ p → ClosesUnder leaf (top + 2 + j) (prefix_at j) (leader_nodes ends last p m ++ rest) rest
  close_prefixes zero j p rest e f =
      let same : k - top ≡ j = omega (arith, e) in
      subst (λ i. ClosesUnder leaf (top + 2 + i) (prefix_at i) (last ∷ rest) rest) same
      (refuted (top + 2 + (k - top)) (prefix_at (k - top)) last rest
      (record { depth = omega (arith, low, short); fact_count = omega (arith, length_prefix (k - top), low, short) })
      (without_closes coefs bound keeps t most ws top k helpers is))
  close_prefixes (suc m) j p rest e f =
      let above : top < p = omega (arith, f) in
      let most : p ≤ k = omega (arith, e, f, low) in
      let nodes = leader_nodes ends last (p + 1) m in
      let more = close_prefixes m (j + 1) (p + 1) (ends p ∷ rest) (omega (arith, e)) (omega (arith, f)) in
      let deeper : top + 2 + (j + 1) ≡ top + 2 + j + 1 = omega arith in
      let first : ClosesUnder leaf (top + 2 + j + 1) (prefix_at j ++ absent_fact leaf p ∷ []) ((nodes ++ ends p ∷ []) ++ rest) (ends p ∷ rest) =
      subst (λ fs. ClosesUnder leaf (top + 2 + j + 1) fs ((nodes ++ ends p ∷ []) ++ rest) (ends p ∷ rest)) (sym (one_absent_more j p f))
      (subst (λ ns. ClosesUnder leaf (top + 2 + j + 1) (prefix_at (j + 1)) ns (ends p ∷ rest)) (sym (append_assoc nodes (ends p ∷ []) rest))
      (subst (λ a. ClosesUnder leaf a (prefix_at (j + 1)) (nodes ++ (ends p ∷ rest)) (ends p ∷ rest)) deeper more)) in
      by_cases (top + 2 + j) (prefix_at j) (Present p) ((nodes ++ ends p ∷ []) ++ rest) rest ((absent_fact leaf p ∷ []) ∷ present_at p ∷ [])
      (record { depth = omega (arith, f, most, short); fact_count = omega (arith, length_prefix j, f, most, short) })
      (present_is (prefix_at j) p above most)
      (next_case (top + 2 + j + 1) (prefix_at j) (absent_fact leaf p ∷ []) (present_at p ∷ []) ((nodes ++ ends p ∷ []) ++ rest) (ends p ∷ rest) rest first
      (next_case (top + 2 + j + 1) (prefix_at j) (present_at p) [] (ends p ∷ rest) rest rest (close_end j p rest f most)
      (no_case (top + 2 + j + 1) (prefix_at j) rest)))

  -- ---- a full one is present

  -- every other state can meet it
  abbrev meets_full : ℕ → Bool
  meets_full q = not (q == k + 1) && can_meet_in leaf (k + 1) q

  company-all : filter meets_full (states_of leaf) ≡ range_with_len 0 (k + 1)
  company-all =
      ap (λ n. filter meets_full (range_with_len 0 n)) long
      ∙ ap (λ n. filter meets_full (range_with_len 0 n)) (let e : k + 2 ≡ k + 1 + 1 = omega arith in e)
      ∙ ap (filter meets_full) (range_one_more (k + 1))
      ∙ filter-append meets_full (range_with_len 0 (k + 1)) ((k + 1) ∷ [])
      ∙ (let none : filter meets_full ((k + 1) ∷ []) ≡ [] = (let e = eq-eqb (k + 1) (k + 1) refl in rw e refl) in ap (λ qs. filter meets_full (range_with_len 0 (k + 1)) ++ qs) none)
      ∙ append-nil (filter meets_full (range_with_len 0 (k + 1)))
      ∙ filter-all meets_full (range_with_len 0 (k + 1)) (all_range (λ q. meets_full q ≡ true) 0 (k + 1) (λ q l m. other q (omega (arith, m))))
    where
      other : (q : ℕ) → q ≤ k → meets_full q ≡ true
      other q l = let e = ne_eqb q (k + 1) (λ e. omega (arith, e, l)) in let m = (full-meets keeps ws t top k is.chain q l).0 in rw (e, m) refl

  abbrev extra : List Fact
  extra = if can_meet_in leaf (k + 1) (k + 1) then (alone_fact leaf (k + 1) ∷ []) else []

  length_extra : length extra ≤ 1
  length_extra = one (can_meet_in leaf (k + 1) (k + 1))
    where
      one : (b : Bool) → length (if b then (alone_fact leaf (k + 1) ∷ []) else []) ≤ 1
      one true = omega arith
      one false = omega arith

  abbrev met : List Fact
  met = converted_facts coefs bound k names moves helpers counting extra

  length_met : length met ≤ k + 3
  length_met = omega (arith, length-append (map (absent_fact leaf) (range_with_len 0 (k + 1))) extra, length-map-range_with_len (absent_fact leaf) 0 (k + 1), length_extra)

  full_is : cases_of leaf enough (Present (k + 1)) ≡ Some ((absent_fact leaf (k + 1) ∷ []) ∷ met ∷ [])
  full_is =
      let here = in_states (k + 1) (omega arith) in
      rw here (ap (λ qs. Some ((absent_fact leaf (k + 1) ∷ []) ∷ (occurs_fact leaf (k + 1) ∷ map (absent_fact leaf) qs ++ extra) ∷ [])) company-all)

  pub tree-enough : Closes leaf (base_list leaf pred says) (enough_tree leaf most ws k top) []
  tree-enough =
      let converted = weighed_node (converted_mix k) in
      let nodes = prefix_nodes leaf most ws k top ++ converted ∷ [] in
      let prefixes : ClosesUnder leaf (top + 2) (few_at top) nodes (converted ∷ []) =
      subst (λ a. ClosesUnder leaf a (few_at top) nodes (converted ∷ [])) (let e : top + 2 + 0 ≡ top + 2 = omega arith in e)
      (subst (λ fs. ClosesUnder leaf (top + 2 + 0) (enough ++ fs) nodes (converted ∷ [])) (append-nil (fixed_at top))
      (close_prefixes (k - top) 0 (top + 1) (converted ∷ []) (zero-add (k - top)) (let e : top + 1 + 0 ≡ top + 1 = omega arith in e))) in
      let first : ClosesUnder leaf 2 (few_at 0) (map Twin (range_with_len 1 top) ++ nodes) (converted ∷ []) = close_twins nodes (converted ∷ []) prefixes 0 top (zero-add top) in
      let second : ClosesUnder leaf 2 (enough ++ met) (converted ∷ []) [] =
      refuted 2 (enough ++ met) converted [] (record { depth = omega arith; fact_count = omega (arith, length-append enough met, length_enough, length_met, short) }) (converted_closes coefs bound k names moves helpers counting extra) in
      by_cases 0 (base says) (Open (k + 2 + 1)) _ [] ((opened says ∷ []) ∷ [])
      (record { depth = omega arith; fact_count = omega (arith, length_base says, short) }) (opens says)
      (next_case 1 (base says) (opened says ∷ []) [] _ [] []
      (by_cases 1 enough (Present (k + 1)) _ [] ((absent_fact leaf (k + 1) ∷ []) ∷ met ∷ [])
      (record { depth = omega arith; fact_count = omega (arith, length_enough, short) }) full_is
      (next_case 2 enough (absent_fact leaf (k + 1) ∷ []) (met ∷ []) _ (converted ∷ []) [] first
      (next_case 2 enough met [] (converted ∷ []) [] [] second (no_case 2 enough []))))
      (no_case 1 (base says) []))

  -- ---- the tree where there are too few

  abbrev lacking : List Fact
  lacking = base (not says) ++ opened (not says) ∷ []

  length_lacking : length lacking ≡ k + 6
  length_lacking = omega (arith, length-append (base (not says)) (opened (not says) ∷ []), length_base (not says))

  abbrev firsts : List Fact
  firsts = first_facts coefs bound keeps t most ws top k helpers is

  abbrev starts : List Fact
  starts = start_facts coefs bound k names moves helpers counting

  abbrev nevers : List Fact
  nevers = never_facts coefs bound k names moves helpers counting

  taken : length (no_moves leaf (takes_from (full k))) ≡ k + 1
  taken = length-taken coefs bound keeps t most ws top k helpers is

  siphon_is : cases_of leaf lacking (Siphon (full k)) ≡ Some (firsts ∷ starts ∷ nevers ∷ [])
  siphon_is = rw (in_states (k + 1) (omega arith)) refl

  pub tree-too-few : Closes leaf (base_list leaf pred (not says)) (too_few_tree ws t c k) []
  tree-too-few =
      let one = weighed_node (first_mix ws t k) in
      let two = weighed_node (start_mix c k) in
      let three = weighed_node (never_mix k) in
      let first : ClosesUnder leaf 2 (lacking ++ firsts) (one ∷ two ∷ three ∷ []) (two ∷ three ∷ []) =
      refuted 2 (lacking ++ firsts) one (two ∷ three ∷ []) (record { depth = omega arith; fact_count = omega (arith, length-append lacking firsts, length_lacking, short) }) (first_closes coefs bound keeps t most ws top k helpers is) in
      let second : ClosesUnder leaf 2 (lacking ++ starts) (two ∷ three ∷ []) (three ∷ []) =
      refuted 2 (lacking ++ starts) two (three ∷ []) (record { depth = omega arith; fact_count = omega (arith, length-append lacking starts, length_lacking, short) }) (start_closes coefs bound k names moves helpers counting) in
      let third : ClosesUnder leaf 2 (lacking ++ nevers) (three ∷ []) [] =
      refuted 2 (lacking ++ nevers) three [] (record { depth = omega arith; fact_count = omega (arith, length-append lacking nevers, length_lacking, never_long coefs bound k names moves helpers counting taken, short) }) (never_closes coefs bound k names moves helpers counting taken) in
      by_cases 0 (base (not says)) (Open (k + 2 + 1)) _ [] ((opened (not says) ∷ []) ∷ [])
      (record { depth = omega arith; fact_count = omega (arith, length_base (not says), short) }) (opens (not says))
      (next_case 1 (base (not says)) (opened (not says) ∷ []) [] _ [] []
      (by_cases 1 lacking (Siphon (full k)) _ [] (firsts ∷ starts ∷ nevers ∷ [])
      (record { depth = omega arith; fact_count = omega (arith, length_lacking, short) }) siphon_is
      (next_case 2 lacking firsts (starts ∷ nevers ∷ []) _ _ [] first
      (next_case 2 lacking starts (nevers ∷ []) _ _ [] second
      (next_case 2 lacking nevers [] (three ∷ []) [] [] third (no_case 2 lacking [])))))
      (no_case 1 (base (not says)) []))
