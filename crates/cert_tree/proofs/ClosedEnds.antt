-- Nodes that close facts leave no end that meets them all.
use Rattle.std.proofs.Common.{◌≡◌, ◌⊎◌, inl, inr, ℕ, zero, suc, ◌<◌, Bool, true, false, not, ◌&&◌, List, [], ◌∷◌, ◌++◌, length, map, refl, sym, subst, arith}
use Rattle.std.specs.Prelude.{Option, Some, None, pos, negsuc, ◌==◌, nat_lt, slice_get, if◌then◌else◌}
use Rattle.std.specs.List.{list_all, filter}
use Rattle.std.proofs.lemmas.Bool.{ltb-true}
use Rattle.std.proofs.lemmas.List.Elements.{All-append}
use Rattle.pop_leaf.proofs.Quiet.{All-slice_get}
use Rattle.pres_ast.specs.PredTree.{PredTree, LessThan, Congruent, Negation, Conjunction, Disjunction}
use Rattle.pres_ast.specs.PredModel.{PredModel, HasAtoms}
use Rattle.pop_leaf.specs.declared.leaf.Move.{Move}
use Rattle.pop_leaf.specs.LeafModel.{LeafModel, IsLeaf}
use Rattle.cert_base.specs.declared.fact.Fact.{Fact}
use Rattle.cert_base.specs.declared.fact.Fact.TheVariants.{Ge, Eq, Cong, NotCong, Holds}
use Rattle.cert_base.specs.declared.node.Node.{Node}
use Rattle.cert_base.specs.declared.node.Node.TheVariants.{Linear, Residue, Split, Present, Twin, Trap, Siphon, Open, First}
use Rattle.cert_base.specs.Rows.{single_row, input_variable, state_variable, move_variable, variable_count, constant_row}
use Rattle.cert_base.specs.Valuation.{Valuation, MeetsFact}
use Rattle.cert_base.specs.FactsAndCases.{states_of, flow, two_agents_fact, wrong_output_fact, base_list, outside_fact, goal_list, can_meet_in, absent_fact, occurs_fact, alone_fact, not_twice, cases_of_present, is_in, takes_from, puts_into, places_from, no_moves, no_start_facts, count_row, cases_of_trap, cases_of_siphon, cases_of_split, open_tree, cases_of_open, helpers_among, no_helper_facts, touches, enters, cases_of_first, is_about_inputs, before_entry, is_possible}
use Rattle.cert_base.specs.Closes.{name_below, refutes, where_in_range, opened, only_case, cases_for, ClosesUnderFor, refuted, by_cases, by_first, ClosesEachFor, no_case, next_case}
use Rattle.cert_base.specs.Ends.{IsEndFor, HaveSamePlaces, MeetsAll, MeetsOne}
use Rattle.cert_base.proofs.Openings.{open_cases-cover, split_cases-cover}
use Rattle.cert_linear.proofs.Linear.{linear_closes-none}
use Rattle.cert_linear.proofs.Multiples.{residue_closes-none}
use Rattle.cert_traps.proofs.Covers.{present-cover, twin-one, trap-cover, siphon-cover}
use Rattle.cert_traps.proofs.FirstEnds.{first-cover}

-- ---- facts of predicates within the limits

-- a predicate in a fact has coefficients for its own variables alone
abbrev pub IsFormed : Fact → Type 0
IsFormed (Ge row) = Unit {0}
IsFormed (Eq row) = Unit {0}
IsFormed (Cong row m) = Unit {0}
IsFormed (NotCong row m) = Unit {0}
IsFormed (Holds p b) = HasAtoms p.variables p.tree

abbrev pub AreFormed : List Fact → Type 0
AreFormed [] = Unit {0}
AreFormed (f ∷ facts) = IsFormed f × AreFormed facts

abbrev AreCasesFormed : List (List Fact) → Type 0
AreCasesFormed [] = Unit {0}
AreCasesFormed (own ∷ cases) = AreFormed own × AreCasesFormed cases

append_formed : (xs ys : List Fact) → AreFormed xs → AreFormed ys → AreFormed (xs ++ ys)
append_formed [] ys h k = k
append_formed (f ∷ xs) ys h k = (h.0, append_formed xs ys h.1 k)

map_formed : (make : ℕ → Fact) (xs : List ℕ) → ((x : ℕ) → IsFormed (make x)) → AreFormed (map make xs)
map_formed make [] h = tt
map_formed make (x ∷ xs) h = (h x, map_formed make xs h)

formed_at : (facts : List Fact) (i : ℕ) (f : Fact) → AreFormed facts → slice_get facts i ≡ Some f → IsFormed f
formed_at [] i f h e = cc
formed_at (first ∷ facts) zero f h e = let same : first ≡ f = cc in subst (λ (g : Fact). IsFormed g) same h.0
formed_at (first ∷ facts) (suc i) f h e = formed_at facts i f h.1 e

outside_formed : (leaf : LeafModel) (sets : List (List ℕ)) → AreFormed (map (outside_fact leaf) sets)
outside_formed leaf [] = tt
outside_formed leaf (set ∷ sets) = (tt, outside_formed leaf sets)

pub base_formed : (leaf : LeafModel) (p : PredModel) (value : Bool) → HasAtoms p.variables p.tree → AreFormed (base_list leaf p value)
base_formed leaf p value has =
    append_formed (map (flow leaf) (states_of leaf)) (two_agents_fact leaf ∷ Holds p value ∷ wrong_output_fact leaf value ∷ []) (map_formed (flow leaf) (states_of leaf) (λ q. tt)) (tt, (has, (tt, tt)))

pub goal_formed : (leaf : LeafModel) (p : PredModel) (value : Bool) (sets : List (List ℕ)) → HasAtoms p.variables p.tree → AreFormed (goal_list leaf p value sets)
goal_formed leaf p value sets has =
    append_formed (map (flow leaf) (states_of leaf)) (two_agents_fact leaf ∷ Holds p value ∷ map (outside_fact leaf) sets) (map_formed (flow leaf) (states_of leaf) (λ q. tt)) (tt, (has, outside_formed leaf sets))

alone_formed : (leaf : LeafModel) (p : ℕ) (twice : Bool) → AreFormed (if twice then (alone_fact leaf p ∷ []) else [])
alone_formed leaf p true = (tt, tt)
alone_formed leaf p false = tt

present_formed : (leaf : LeafModel) (p : ℕ) → AreCasesFormed (cases_of_present leaf p)
present_formed leaf p =
    let others = filter (λ q. not (q == p) && can_meet_in leaf p q) (states_of leaf) in
    let twice : List Fact = if can_meet_in leaf p p then (alone_fact leaf p ∷ []) else [] in
    let later : AreFormed (map (absent_fact leaf) others ++ twice) = append_formed (map (absent_fact leaf) others) twice (map_formed (absent_fact leaf) others (λ q. tt)) (alone_formed leaf p (can_meet_in leaf p p)) in
    ((tt, tt), ((tt, later), tt))

taken_formed : (leaf : LeafModel) (test : Move → Bool) → AreFormed (no_moves leaf test)
taken_formed leaf test = map_formed (λ t. Eq (single_row (move_variable leaf t) (pos 1) (pos 0))) (places_from 0 test leaf.moves) (λ t. tt)

started_formed : (leaf : LeafModel) (set : List ℕ) → AreFormed (no_start_facts leaf set)
started_formed leaf set = map_formed (λ i. Eq (single_row (input_variable leaf i) (pos 1) (pos 0))) (places_from 0 (is_in set) leaf.inputs) (λ i. tt)

none_helps_formed : (leaf : LeafModel) (set : List ℕ) (b : Bool) → AreFormed (if b then [] else (Eq (constant_row (pos (helpers_among leaf set))) ∷ []))
none_helps_formed leaf set true = tt
none_helps_formed leaf set false = (tt, tt)

trap_formed : (leaf : LeafModel) (set : List ℕ) → AreCasesFormed (cases_of_trap leaf set)
trap_formed leaf set =
    let unmarked = append_formed (no_moves leaf (puts_into set)) (no_start_facts leaf set) (taken_formed leaf (puts_into set)) (started_formed leaf set) in
    ((tt, tt), (append_formed (no_moves leaf (puts_into set) ++ no_start_facts leaf set) (Eq (count_row leaf set (pos 0)) ∷ no_helper_facts leaf set) unmarked (tt, none_helps_formed leaf set (helpers_among leaf set == 0)), ((tt, tt), tt)))

siphon_formed : (leaf : LeafModel) (set : List ℕ) → AreCasesFormed (cases_of_siphon leaf set)
siphon_formed leaf set =
    ((tt, tt), ((tt, tt), (append_formed (no_moves leaf (takes_from set)) (Eq (count_row leaf set (pos 0)) ∷ []) (taken_formed leaf (takes_from set)) (tt, tt), tt)))

open_formed : (n : ℕ) (tree : PredTree) (value : Bool) → HasAtoms n tree → AreCasesFormed (open_tree n tree value)
open_formed n (LessThan coefs bound) true has = ((tt, tt), tt)
open_formed n (LessThan coefs bound) false has = ((tt, tt), tt)
open_formed n (Congruent coefs m rest) true has = ((tt, tt), tt)
open_formed n (Congruent coefs m rest) false has = ((tt, tt), tt)
open_formed n (Negation p) value has = ((has, tt), tt)
open_formed n (Conjunction p q) true has = ((has.0, (has.1, tt)), tt)
open_formed n (Conjunction p q) false has = ((has.0, tt), ((has.1, tt), tt))
open_formed n (Disjunction p q) true has = ((has.0, tt), ((has.1, tt), tt))
open_formed n (Disjunction p q) false has = ((has.0, (has.1, tt)), tt)

kept_formed : (keep : Bool) (f : Fact) (rest : List Fact) → IsFormed f → AreFormed rest → AreFormed (if keep then (f ∷ rest) else rest)
kept_formed true f rest h k = (h, k)
kept_formed false f rest h k = k

filter_formed : (test : Fact → Bool) (facts : List Fact) → AreFormed facts → AreFormed (filter test facts)
filter_formed test [] h = tt
filter_formed test (f ∷ facts) h = kept_formed (test f) f (filter test facts) h.0 (filter_formed test facts h.1)

first_formed : (leaf : LeafModel) (set : List ℕ) → AreCasesFormed (cases_of_first leaf set)
first_formed leaf set =
    ((tt, tt), (append_formed (no_moves leaf (touches set)) (Eq (count_row leaf set (pos 0)) ∷ []) (taken_formed leaf (touches set)) (tt, tt), tt))

possible_formed : (leaf : LeafModel) (moves : List Move) → AreCasesFormed (map (is_possible leaf) moves)
possible_formed leaf [] = tt
possible_formed leaf (t ∷ moves) = (two (t.p == t.q), possible_formed leaf moves)
  where
    two : (twice : Bool) → AreFormed (if twice then (Ge (single_row (state_variable leaf t.p) (pos 1) (negsuc 1)) ∷ []) else (occurs_fact leaf t.p ∷ occurs_fact leaf t.q ∷ []))
    two true = (tt, tt)
    two false = (tt, (tt, tt))

before_formed : (leaf : LeafModel) (set : List ℕ) (facts : List Fact) → AreFormed facts → AreFormed (before_entry leaf set facts)
before_formed leaf set facts formed =
    let flows = map (flow leaf) (states_of leaf) in
    let given = filter (is_about_inputs leaf) facts in
    append_formed (flows ++ given ++ no_moves leaf (touches set) ++ no_start_facts leaf set) (Eq (count_row leaf set (pos 0)) ∷ no_helper_facts leaf set)
    (append_formed (flows ++ given ++ no_moves leaf (touches set)) (no_start_facts leaf set)
    (append_formed (flows ++ given) (no_moves leaf (touches set))
    (append_formed flows given (map_formed (flow leaf) (states_of leaf) (λ q. tt)) (filter_formed (is_about_inputs leaf) facts formed))
    (taken_formed leaf (touches set)))
    (started_formed leaf set))
    (tt, none_helps_formed leaf set (helpers_among leaf set == 0))

-- ---- the cases of a node

-- every end that meets the facts also meets all facts of one of the cases
abbrev CoverUnder : (leaf dead : LeafModel) → List Fact → List (List Fact) → Type 0
CoverUnder leaf dead facts cases =
    (count : Valuation) → IsEndFor leaf dead count → MeetsAll count facts → MeetsOne count cases

-- the cases are formed, and every end that meets the facts meets one of them
abbrev IsCover : (leaf dead : LeafModel) → List Fact → List (List Fact) → Type 0
IsCover leaf dead facts cases = AreCasesFormed cases × CoverUnder leaf dead facts cases

in_range_is : (b : Bool) (given cases : List (List Fact)) → where_in_range b given ≡ Some cases → (b ≡ true) × (given ≡ cases)
in_range_is true given cases e = (refl, cc)
in_range_is false given cases e = cc

twin_is : (leaf : LeafModel) (p : ℕ) (b meets : Bool) (cases : List (List Fact)) → (if b then only_case (if meets then Some (not_twice leaf p ∷ []) else None) else None) ≡ Some cases → (b ≡ true) × (meets ≡ true) × ((not_twice leaf p ∷ []) ∷ [] ≡ cases)
twin_is leaf p true true cases e = (refl, refl, cc)
twin_is leaf p true false cases e = cc
twin_is leaf p false meets cases e = cc

opened_cover : (leaf dead : LeafModel) (facts : List Fact) (i : ℕ) (o : Option Fact) (cases : List (List Fact)) → AreFormed facts → slice_get facts i ≡ o → opened o ≡ Some cases → IsCover leaf dead facts cases
opened_cover leaf dead facts i None cases formed h e = cc
opened_cover leaf dead facts i (Some (Ge row)) cases formed h e = cc
opened_cover leaf dead facts i (Some (Eq row)) cases formed h e = cc
opened_cover leaf dead facts i (Some (Cong row m)) cases formed h e = cc
opened_cover leaf dead facts i (Some (NotCong row m)) cases formed h e = cc
opened_cover leaf dead facts i (Some (Holds p b)) cases formed h e =
    let is : cases_of_open p b ≡ cases = cc in
    let has : HasAtoms p.variables p.tree = formed_at facts i (Holds p b) formed h in
    subst (λ (cs : List (List Fact)). IsCover leaf dead facts cs) is
    (open_formed p.variables p.tree b has, λ count end meets. open_cases-cover p b has count (All-slice_get (MeetsFact count) facts i (Holds p b) meets h))

in_dead : (leaf dead : LeafModel) (p : ℕ) → HaveSamePlaces leaf dead → p < length leaf.states → p < length dead.states
in_dead leaf dead p same l = omega (arith, same.states, l)

node_cover : (leaf dead : LeafModel) (facts : List Fact) (node : Node) (cases : List (List Fact)) → IsLeaf leaf → HaveSamePlaces leaf dead → AreFormed facts → cases_for leaf dead facts node ≡ Some cases → IsCover leaf dead facts cases
node_cover leaf dead facts (Linear terms) cases is same formed e = cc
node_cover leaf dead facts (Residue m terms) cases is same formed e = cc
node_cover leaf dead facts (Split row) cases is same formed e =
    let given = in_range_is (name_below (variable_count leaf) row.terms) (cases_of_split row) cases e in
    subst (λ (cs : List (List Fact)). IsCover leaf dead facts cs) given.1
    (((tt, tt), ((tt, tt), ((tt, tt), tt))), λ count end meets. split_cases-cover row count)
node_cover leaf dead facts (Present p) cases is same formed e =
    let given = in_range_is (nat_lt p (length leaf.states)) (cases_of_present dead p) cases e in
    let l = in_dead leaf dead p same (ltb-true p (length leaf.states) given.0) in
    subst (λ (cs : List (List Fact)). IsCover leaf dead facts cs) given.1
    (present_formed dead p, λ count end meets. present-cover dead p l leaf same count end)
node_cover leaf dead facts (Twin p) cases is same formed e =
    let given = twin_is dead p (nat_lt p (length leaf.states)) (can_meet_in dead p p) cases e in
    let l = in_dead leaf dead p same (ltb-true p (length leaf.states) given.0) in
    subst (λ (cs : List (List Fact)). IsCover leaf dead facts cs) given.2
    (((tt, tt), tt), λ count end meets. twin-one dead p l given.1 leaf same count end)
node_cover leaf dead facts (Trap set) cases is same formed e =
    let given = in_range_is (list_all (λ q. nat_lt q (length leaf.states)) set) (cases_of_trap leaf set) cases e in
    subst (λ (cs : List (List Fact)). IsCover leaf dead facts cs) given.1
    (trap_formed leaf set, λ count end meets. trap-cover leaf set is dead count end)
node_cover leaf dead facts (Siphon set) cases is same formed e =
    let given = in_range_is (list_all (λ q. nat_lt q (length leaf.states)) set) (cases_of_siphon leaf set) cases e in
    subst (λ (cs : List (List Fact)). IsCover leaf dead facts cs) given.1
    (siphon_formed leaf set, λ count end meets. siphon-cover leaf set dead count end)
node_cover leaf dead facts (First set) cases is same formed e = cc
node_cover leaf dead facts (Open f) cases is same formed e = opened_cover leaf dead facts f (slice_get facts f) cases formed refl e

-- ---- the nodes

refutes_none : (facts : List Fact) (node : Node) → refutes facts node ≡ true → (count : Valuation) → MeetsAll count facts → ⊥
refutes_none facts (Linear terms) e count meets = linear_closes-none count facts terms e meets
refutes_none facts (Residue m terms) e count meets = residue_closes-none count facts m terms e meets
refutes_none facts (Split row) e count meets = cc
refutes_none facts (Present p) e count meets = cc
refutes_none facts (Twin p) e count meets = cc
refutes_none facts (Trap set) e count meets = cc
refutes_none facts (Siphon set) e count meets = cc
refutes_none facts (Open f) e count meets = cc
refutes_none facts (First set) e count meets = cc

no_case_met : (count : Valuation) → MeetsOne count [] → ⊥
no_case_met count one = let l = one.1.1 in absurd (omega (arith, l))

case_met : (count : Valuation) (own : List Fact) (cases : List (List Fact)) → MeetsOne count (own ∷ cases) → MeetsAll count own ⊎ MeetsOne count cases
case_met count own cases (facts, (zero, l, e), met) = inl (subst (λ (fs : List Fact). MeetsAll count fs) (sym e) met)
case_met count own cases (facts, (suc k, l, e), met) = inr (facts, (k, omega (arith, l), e), met)

mutual
  pub closes_none : {leaf dead : LeafModel} {above : ℕ} {facts : List Fact} {nodes rest : List Node} → ClosesUnderFor leaf dead above facts nodes rest → IsLeaf leaf → HaveSamePlaces leaf dead → AreFormed facts → (count : Valuation) → IsEndFor leaf dead count → MeetsAll count facts → ⊥
  closes_none {leaf} {dead} (refuted above facts node rest limits r) is same formed count end meets = refutes_none facts node r count meets
  closes_none {leaf} {dead} (by_cases above facts node nodes rest cases limits c each) is same formed count end meets =
      let cover = node_cover leaf dead facts node cases is same formed c in
      each_none each is same formed cover.0 count end meets (cover.1 count end meets)
  closes_none {leaf} {dead} (by_first above facts set nodes between rest limits named entry each) is same formed count end meets =
      elim (first-cover leaf set is dead facts count end meets) [
        | inl one ↦ each_none each is same formed (first_formed leaf set) count end meets one
        | inr entered ↦ each_none entry is (record { inputs = refl; states = refl }) (before_formed leaf set facts formed) (possible_formed leaf (filter (enters set) leaf.moves)) entered.count entered.reached entered.before entered.entry
      ]

  each_none : {leaf dead : LeafModel} {above : ℕ} {facts : List Fact} {cases : List (List Fact)} {nodes rest : List Node} → ClosesEachFor leaf dead above facts cases nodes rest → IsLeaf leaf → HaveSamePlaces leaf dead → AreFormed facts → AreCasesFormed cases → (count : Valuation) → IsEndFor leaf dead count → MeetsAll count facts → MeetsOne count cases → ⊥
  each_none {leaf} {dead} (no_case above facts rest) is same formed own_formed count end meets one = no_case_met count one
  each_none {leaf} {dead} (next_case above facts own cases nodes between rest first others) is same formed own_formed count end meets one =
      elim (case_met count own cases one) [
        | inl met ↦ closes_none first is same (append_formed facts own formed own_formed.0) count end (All-append (MeetsFact count) facts own meets met)
        | inr later ↦ each_none others is same formed own_formed.1 count end meets later
      ]
