-- The rows of base facts and cases are in ascending order.
use Rattle.std.proofs.Common.{ℕ, suc, ◌+◌, ◌<◌, ◌≤◌, Bool, true, false, not, ◌&&◌, List, [], ◌∷◌, ◌++◌, length, map, replicate, arith}
use Rattle.std.specs.Prelude.{ℤ, pos, negsuc, neg_ℤ, ◌-ℤ◌, ◌==◌, All, Option, Some, None, unwrap_or, slice_get, slice_index_or, nat_lt, if◌then◌else◌}
use Rattle.std.specs.List.{list_all, filter}
use Rattle.std.specs.Ordering.{int_eq}
use Rattle.std.proofs.lemmas.List.Elements.{All-nil, All-cons, All-map, All-append, All-filter}
use Rattle.std.proofs.lemmas.List.Kept.{AllPairs-cons, AllPairs-filter}
use Rattle.pop_leaf.specs.declared.leaf.Move.{Move}
use Rattle.pop_leaf.specs.LeafModel.{LeafModel, pre, post}
use Rattle.pres_ast.specs.PredTree.{PredTree, LessThan, Congruent, Negation, Conjunction, Disjunction}
use Rattle.pres_ast.specs.PredModel.{PredModel}
use Rattle.cert_base.specs.declared.fact.Term.{Term}
use Rattle.cert_base.specs.declared.fact.Row.{Row}
use Rattle.cert_base.specs.declared.fact.Fact.{Fact}
use Rattle.cert_base.specs.declared.fact.Fact.TheVariants.{Ge, Eq, Cong, NotCong, Holds}
use Rattle.cert_base.specs.declared.node.Node.{Node}
use Rattle.cert_base.specs.declared.node.Node.TheVariants.{Linear, Residue, Split, Present, Twin, Trap, Siphon, Open, First}
use Rattle.cert_base.specs.Rows.{constant_row, terms_from, single_row, input_row, state_row, zeros, input_variable, state_variable, move_variable, variable_count}
use Rattle.cert_base.specs.FactsAndCases.{helpers_starting, helpers_among, no_helper_facts, indicator, states_of, flow, two_agents_fact, differs, wrong_output_fact, base_list, outside_fact, goal_list, absent_fact, occurs_fact, alone_fact, not_twice, can_meet_in, cases_of_present, is_in, takes_from, puts_into, places_from, no_moves, no_start_facts, some_taken_fact, count_row, cases_of_trap, cases_of_siphon, plus, negated_row, signs_of, without_zeros, cases_of_split, over_count, open_tree, touches, enters, cases_of_first, is_about_inputs, before_entry, is_possible, cases_of_entry}
use Rattle.cert_base.specs.Closes.{name_below, where_in_range, opened, only_case}
use Rattle.cert_linear.specs.Conditions.{AreAscending, IsOrdered}
use Rattle.cert_tree.specs.Refusals.{cases_at}
use Rattle.cert_tree.specs.Format.{IsWithinFormat}

abbrev Below : Term → Term → Type 0
Below t u = t.at < u.at

-- ---- rows

least_step : (v : ℕ) (a : ℤ) (ts : List Term) (none : Bool) → All (λ t. v + 1 ≤ t.at) ts → All (λ t. v ≤ t.at) (if none then ts else (record { at = v; by = a } ∷ ts))
least_step v a ts true later = λ k d l. let h = later k d l in omega (arith, h)
least_step v a ts false later =
    All-cons (λ (t : Term). v ≤ t.at) (record { at = v; by = a }) ts (omega arith) (λ k d l. let h = later k d l in omega (arith, h))

from_least : (v : ℕ) (coefs : List ℤ) → All (λ t. v ≤ t.at) (terms_from v coefs)
from_least v [] = All-nil (λ (t : Term). v ≤ t.at)
from_least v (a ∷ coefs) =
    least_step v a (terms_from (v + 1) coefs) (int_eq a (pos 0)) (from_least (v + 1) coefs)

up_step : (v : ℕ) (a : ℤ) (ts : List Term) (none : Bool) → All (λ t. v + 1 ≤ t.at) ts → AreAscending ts → AreAscending (if none then ts else (record { at = v; by = a } ∷ ts))
up_step v a ts true later up = up
up_step v a ts false later up =
    AllPairs-cons Below (record { at = v; by = a }) ts (λ k d l. let h = later k d l in omega (arith, h)) up

pub dense_ascending : (v : ℕ) (coefs : List ℤ) → AreAscending (terms_from v coefs)
dense_ascending v [] = λ i j d l m. absurd (omega arith)
dense_ascending v (a ∷ coefs) =
    up_step v a (terms_from (v + 1) coefs) (int_eq a (pos 0)) (from_least (v + 1) coefs) (dense_ascending (v + 1) coefs)

pub single_ascending : (v : ℕ) (a c : ℤ) → AreAscending (single_row v a c).terms
single_ascending v a c = λ i j d l m. absurd (omega arith)

turned_after : (t : Term) (ts : List Term) → All (Below t) ts → All (Below (record { at = t.at; by = neg_ℤ t.by })) (map (λ u. record { at = u.at; by = neg_ℤ u.by }) ts)
turned_after t ts after = All-map (Below (record { at = t.at; by = neg_ℤ t.by })) (λ (u : Term). record { at = u.at; by = neg_ℤ u.by }) ts after

first_below : (t : Term) (ts : List Term) → AreAscending (t ∷ ts) → All (Below t) ts
first_below t ts up = λ k d l. up 0 (suc k) d (omega arith) (omega arith)

others_ascend : (t : Term) (ts : List Term) → AreAscending (t ∷ ts) → AreAscending ts
others_ascend t ts up = λ i j d l m. up (suc i) (suc j) d (omega arith) (omega arith)

turned_ascending : (ts : List Term) → AreAscending ts → AreAscending (map (λ t. record { at = t.at; by = neg_ℤ t.by }) ts)
turned_ascending [] up = λ i j d l m. absurd (omega arith)
turned_ascending (t ∷ ts) up =
    AllPairs-cons Below (record { at = t.at; by = neg_ℤ t.by }) (map (λ t. record { at = t.at; by = neg_ℤ t.by }) ts) (turned_after t ts (first_below t ts up)) (turned_ascending ts (others_ascend t ts up))

-- ---- facts

pub record HasOrder (f : Fact) : Type 0 where
  pub ascending : IsOrdered f

-- each fact of a list is ordered
pub data AllOrdered : List Fact → Type 0 where
  no_fact : AllOrdered []
  more_facts : (f : Fact) (facts : List Fact) → HasOrder f → AllOrdered facts → AllOrdered (f ∷ facts)

-- each fact of each case is ordered
pub data CasesOrdered : List (List Fact) → Type 0 where
  no_case : CasesOrdered []
  more_cases : (own : List Fact) (cases : List (List Fact)) → AllOrdered own → CasesOrdered cases → CasesOrdered (own ∷ cases)

pub all_of : {facts : List Fact} → AllOrdered facts → All IsOrdered facts
all_of no_fact = All-nil IsOrdered
all_of (more_facts f facts h rest) = All-cons IsOrdered f facts h.ascending (all_of rest)

abbrev pub FirstCase : List (List Fact) → Type 0
FirstCase [] = Unit {0}
FirstCase (own ∷ cases) = AllOrdered own × CasesOrdered cases

pub first_case : {cases : List (List Fact)} → CasesOrdered cases → FirstCase cases
first_case no_case = tt
first_case (more_cases own cases h rest) = (h, rest)

dense_ge : (coefs : List ℤ) (c : ℤ) → HasOrder (Ge (record { terms = terms_from 0 coefs; constant = c }))
dense_ge coefs c = record { ascending = dense_ascending 0 coefs }

dense_eq : (coefs : List ℤ) (c : ℤ) → HasOrder (Eq (record { terms = terms_from 0 coefs; constant = c }))
dense_eq coefs c = record { ascending = dense_ascending 0 coefs }

single_ge : (v : ℕ) (a c : ℤ) → HasOrder (Ge (single_row v a c))
single_ge v a c = record { ascending = single_ascending v a c }

single_eq : (v : ℕ) (a c : ℤ) → HasOrder (Eq (single_row v a c))
single_eq v a c = record { ascending = single_ascending v a c }

holds_ordered : (p : PredModel) (b : Bool) → HasOrder (Holds p b)
holds_ordered p b = record { ascending = λ i j d l m. absurd (omega arith) }

abbrev FirstOf : List Fact → Type 0
FirstOf [] = Unit {0}
FirstOf (f ∷ facts) = HasOrder f × AllOrdered facts

first_of : {facts : List Fact} → AllOrdered facts → FirstOf facts
first_of no_fact = tt
first_of (more_facts f facts h rest) = (h, rest)

append_ordered : (xs ys : List Fact) → AllOrdered xs → AllOrdered ys → AllOrdered (xs ++ ys)
append_ordered [] ys h k = k
append_ordered (f ∷ xs) ys h k =
    let first = first_of h in
    more_facts f (xs ++ ys) first.0 (append_ordered xs ys first.1 k)

map_ordered : (make : ℕ → Fact) (xs : List ℕ) → ((x : ℕ) → HasOrder (make x)) → AllOrdered (map make xs)
map_ordered make [] h = no_fact
map_ordered make (x ∷ xs) h = more_facts (make x) (map make xs) (h x) (map_ordered make xs h)

one_fact : (f : Fact) → HasOrder f → AllOrdered (f ∷ [])
one_fact f h = more_facts f [] h no_fact

one_case : (own : List Fact) → AllOrdered own → CasesOrdered (own ∷ [])
one_case own h = more_cases own [] h no_case

two_cases : (a b : List Fact) → AllOrdered a → AllOrdered b → CasesOrdered (a ∷ b ∷ [])
two_cases a b h k = more_cases a (b ∷ []) h (one_case b k)

three_cases : (a b c : List Fact) → AllOrdered a → AllOrdered b → AllOrdered c → CasesOrdered (a ∷ b ∷ c ∷ [])
three_cases a b c h k l = more_cases a (b ∷ c ∷ []) h (two_cases b c k l)

one_in_one : (f : Fact) → HasOrder f → CasesOrdered ((f ∷ []) ∷ [])
one_in_one f h = one_case (f ∷ []) (one_fact f h)

-- ---- the lists

flow_ordered : (leaf : LeafModel) (q : ℕ) → HasOrder (flow leaf q)
flow_ordered leaf q =
    dense_eq (map (λ start. indicator (start == q)) leaf.inputs ++ map (λ z. neg_ℤ (indicator (z == q))) (states_of leaf) ++ map (λ t. pos (post t q) -ℤ pos (pre t q)) leaf.moves) (pos (helpers_starting leaf q))

two_ordered : (leaf : LeafModel) → HasOrder (two_agents_fact leaf)
two_ordered leaf = dense_ge (replicate (length leaf.inputs) (pos 1)) (pos (length leaf.helpers) -ℤ pos 2)

over_states : (leaf : LeafModel) (coefs : List ℤ) (c : ℤ) → HasOrder (Ge (state_row leaf coefs c))
over_states leaf coefs c = dense_ge (zeros (length leaf.inputs) ++ coefs) c

zero_over_states : (leaf : LeafModel) (coefs : List ℤ) (c : ℤ) → HasOrder (Eq (state_row leaf coefs c))
zero_over_states leaf coefs c = dense_eq (zeros (length leaf.inputs) ++ coefs) c

wrong_ordered : (leaf : LeafModel) (value : Bool) → HasOrder (wrong_output_fact leaf value)
wrong_ordered leaf value =
    over_states leaf (map (λ q. indicator (differs value (slice_index_or leaf.outputs q false))) (states_of leaf)) (negsuc 0)

pub base_ordered : (leaf : LeafModel) (p : PredModel) (value : Bool) → AllOrdered (base_list leaf p value)
base_ordered leaf p value =
    append_ordered (map (flow leaf) (states_of leaf)) (two_agents_fact leaf ∷ Holds p value ∷ wrong_output_fact leaf value ∷ [])
    (map_ordered (flow leaf) (states_of leaf) (flow_ordered leaf))
    (more_facts (two_agents_fact leaf) (Holds p value ∷ wrong_output_fact leaf value ∷ []) (two_ordered leaf)
    (more_facts (Holds p value) (wrong_output_fact leaf value ∷ []) (holds_ordered p value) (one_fact (wrong_output_fact leaf value) (wrong_ordered leaf value))))

outside_ordered : (leaf : LeafModel) (set : List ℕ) → HasOrder (outside_fact leaf set)
outside_ordered leaf set =
    over_states leaf (map (λ q. indicator (not (is_in set q))) (states_of leaf)) (negsuc 0)

all_outside_ordered : (leaf : LeafModel) (sets : List (List ℕ)) → AllOrdered (map (outside_fact leaf) sets)
all_outside_ordered leaf [] = no_fact
all_outside_ordered leaf (set ∷ sets) =
    more_facts (outside_fact leaf set) (map (outside_fact leaf) sets) (outside_ordered leaf set) (all_outside_ordered leaf sets)

pub goal_ordered : (leaf : LeafModel) (p : PredModel) (value : Bool) (sets : List (List ℕ)) → AllOrdered (goal_list leaf p value sets)
goal_ordered leaf p value sets =
    append_ordered (map (flow leaf) (states_of leaf)) (two_agents_fact leaf ∷ Holds p value ∷ map (outside_fact leaf) sets)
    (map_ordered (flow leaf) (states_of leaf) (flow_ordered leaf))
    (more_facts (two_agents_fact leaf) (Holds p value ∷ map (outside_fact leaf) sets) (two_ordered leaf)
    (more_facts (Holds p value) (map (outside_fact leaf) sets) (holds_ordered p value) (all_outside_ordered leaf sets)))

absent_ordered : (leaf : LeafModel) (q : ℕ) → HasOrder (absent_fact leaf q)
absent_ordered leaf q = single_eq (state_variable leaf q) (pos 1) (pos 0)

alone_ordered : (leaf : LeafModel) (p : ℕ) (twice : Bool) → AllOrdered (if twice then (alone_fact leaf p ∷ []) else [])
alone_ordered leaf p true = one_fact (alone_fact leaf p) (single_eq (state_variable leaf p) (pos 1) (negsuc 0))
alone_ordered leaf p false = no_fact

present_ordered : (leaf : LeafModel) (p : ℕ) → CasesOrdered (cases_of_present leaf p)
present_ordered leaf p =
    let others = filter (λ q. not (q == p) && can_meet_in leaf p q) (states_of leaf) in
    let twice : List Fact = if can_meet_in leaf p p then (alone_fact leaf p ∷ []) else [] in
    two_cases (absent_fact leaf p ∷ []) (occurs_fact leaf p ∷ map (absent_fact leaf) others ++ twice) (one_fact (absent_fact leaf p) (absent_ordered leaf p))
    (append_ordered (occurs_fact leaf p ∷ map (absent_fact leaf) others) twice
    (more_facts (occurs_fact leaf p) (map (absent_fact leaf) others) (single_ge (state_variable leaf p) (pos 1) (negsuc 0)) (map_ordered (absent_fact leaf) others (absent_ordered leaf)))
    (alone_ordered leaf p (can_meet_in leaf p p)))

none_taken_ordered : (leaf : LeafModel) (test : Move → Bool) → AllOrdered (no_moves leaf test)
none_taken_ordered leaf test =
    map_ordered (λ t. Eq (single_row (move_variable leaf t) (pos 1) (pos 0))) (places_from 0 test leaf.moves) (λ t. single_eq (move_variable leaf t) (pos 1) (pos 0))

none_started_ordered : (leaf : LeafModel) (set : List ℕ) → AllOrdered (no_start_facts leaf set)
none_started_ordered leaf set =
    map_ordered (λ i. Eq (single_row (input_variable leaf i) (pos 1) (pos 0))) (places_from 0 (is_in set) leaf.inputs) (λ i. single_eq (input_variable leaf i) (pos 1) (pos 0))

taken_ordered : (leaf : LeafModel) (test : Move → Bool) → HasOrder (some_taken_fact leaf test)
taken_ordered leaf test =
    dense_ge (zeros (length leaf.inputs + length leaf.states) ++ map (λ t. indicator (test t)) leaf.moves) (negsuc 0)

abbrev marks : LeafModel → List ℕ → List ℤ
marks leaf set = map (λ q. indicator (is_in set q)) (states_of leaf)

none_helps_ordered : (leaf : LeafModel) (set : List ℕ) (b : Bool) → AllOrdered (if b then [] else (Eq (constant_row (pos (helpers_among leaf set))) ∷ []))
none_helps_ordered leaf set true = no_fact
none_helps_ordered leaf set false =
    one_fact (Eq (constant_row (pos (helpers_among leaf set)))) (dense_eq [] (pos (helpers_among leaf set)))

trap_ordered : (leaf : LeafModel) (set : List ℕ) → CasesOrdered (cases_of_trap leaf set)
trap_ordered leaf set =
    three_cases (some_taken_fact leaf (λ t. takes_from set t && not (puts_into set t)) ∷ [])
    (no_moves leaf (puts_into set) ++ no_start_facts leaf set ++ Eq (count_row leaf set (pos 0)) ∷ no_helper_facts leaf set)
    (Ge (count_row leaf set (negsuc 0)) ∷ [])
    (one_fact (some_taken_fact leaf (λ t. takes_from set t && not (puts_into set t))) (taken_ordered leaf (λ t. takes_from set t && not (puts_into set t))))
    (append_ordered (no_moves leaf (puts_into set) ++ no_start_facts leaf set) (Eq (count_row leaf set (pos 0)) ∷ no_helper_facts leaf set)
    (append_ordered (no_moves leaf (puts_into set)) (no_start_facts leaf set) (none_taken_ordered leaf (puts_into set)) (none_started_ordered leaf set))
    (more_facts (Eq (count_row leaf set (pos 0))) (no_helper_facts leaf set) (zero_over_states leaf (marks leaf set) (pos 0)) (none_helps_ordered leaf set (helpers_among leaf set == 0))))
    (one_fact (Ge (count_row leaf set (negsuc 0))) (over_states leaf (marks leaf set) (negsuc 0)))

siphon_ordered : (leaf : LeafModel) (set : List ℕ) → CasesOrdered (cases_of_siphon leaf set)
siphon_ordered leaf set =
    three_cases (some_taken_fact leaf (λ t. puts_into set t && not (takes_from set t)) ∷ [])
    (Ge (input_row (map (λ start. indicator (is_in set start)) leaf.inputs) (pos (helpers_among leaf set) -ℤ pos 1)) ∷ [])
    (no_moves leaf (takes_from set) ++ Eq (count_row leaf set (pos 0)) ∷ [])
    (one_fact (some_taken_fact leaf (λ t. puts_into set t && not (takes_from set t))) (taken_ordered leaf (λ t. puts_into set t && not (takes_from set t))))
    (one_fact (Ge (input_row (map (λ start. indicator (is_in set start)) leaf.inputs) (pos (helpers_among leaf set) -ℤ pos 1))) (dense_ge (map (λ start. indicator (is_in set start)) leaf.inputs) (pos (helpers_among leaf set) -ℤ pos 1)))
    (append_ordered (no_moves leaf (takes_from set)) (Eq (count_row leaf set (pos 0)) ∷ []) (none_taken_ordered leaf (takes_from set))
    (one_fact (Eq (count_row leaf set (pos 0))) (zero_over_states leaf (marks leaf set) (pos 0))))

signs_ordered : (row : Row) → AreAscending row.terms → CasesOrdered (signs_of row)
signs_ordered row up =
    three_cases (Ge (plus row (negsuc 0)) ∷ []) (Eq row ∷ []) (Ge (plus (negated_row row) (negsuc 0)) ∷ [])
    (one_fact (Ge (plus row (negsuc 0))) (record { ascending = up }))
    (one_fact (Eq row) (record { ascending = up }))
    (one_fact (Ge (plus (negated_row row) (negsuc 0))) (record { ascending = turned_ascending row.terms up }))

split_ordered : (row : Row) → AreAscending row.terms → CasesOrdered (cases_of_split row)
split_ordered row up = signs_ordered (without_zeros row) (AllPairs-filter (λ (t u : Term). t.at < u.at) (λ (t : Term). not (int_eq t.by (pos 0))) row.terms up)

both_ordered : (p q : PredModel) (b : Bool) → CasesOrdered ((Holds p b ∷ Holds q b ∷ []) ∷ [])
both_ordered p q b =
    one_case (Holds p b ∷ Holds q b ∷ []) (more_facts (Holds p b) (Holds q b ∷ []) (holds_ordered p b) (one_fact (Holds q b) (holds_ordered q b)))

either_ordered : (p q : PredModel) (b : Bool) → CasesOrdered ((Holds p b ∷ []) ∷ (Holds q b ∷ []) ∷ [])
either_ordered p q b =
    two_cases (Holds p b ∷ []) (Holds q b ∷ []) (one_fact (Holds p b) (holds_ordered p b)) (one_fact (Holds q b) (holds_ordered q b))

open_ordered : (n : ℕ) (tree : PredTree) (b : Bool) → CasesOrdered (open_tree n tree b)
open_ordered n (LessThan coefs bound) true =
    one_in_one (Ge (input_row (map neg_ℤ coefs) (bound -ℤ pos 1))) (dense_ge (map neg_ℤ coefs) (bound -ℤ pos 1))
open_ordered n (LessThan coefs bound) false =
    one_in_one (Ge (input_row coefs (neg_ℤ bound))) (dense_ge coefs (neg_ℤ bound))
open_ordered n (Congruent coefs m rest) true =
    one_in_one (Cong (input_row coefs (neg_ℤ (pos rest))) m) (record { ascending = dense_ascending 0 coefs })
open_ordered n (Congruent coefs m rest) false =
    one_in_one (NotCong (input_row coefs (neg_ℤ (pos rest))) m) (record { ascending = dense_ascending 0 coefs })
open_ordered n (Negation p) b =
    one_in_one (Holds (over_count n p) (not b)) (holds_ordered (over_count n p) (not b))
open_ordered n (Conjunction p q) true = both_ordered (over_count n p) (over_count n q) true
open_ordered n (Conjunction p q) false = either_ordered (over_count n p) (over_count n q) false
open_ordered n (Disjunction p q) true = either_ordered (over_count n p) (over_count n q) true
open_ordered n (Disjunction p q) false = both_ordered (over_count n p) (over_count n q) false

where_ordered : (b : Bool) (cases : List (List Fact)) → CasesOrdered cases → CasesOrdered (unwrap_or (where_in_range b cases) [])
where_ordered true cases h = h
where_ordered false cases h = no_case

twin_ordered : (leaf : LeafModel) (p : ℕ) (a b : Bool) → CasesOrdered (unwrap_or (if a then only_case (if b then Some (not_twice leaf p ∷ []) else None) else None) [])
twin_ordered leaf p true true =
    one_in_one (not_twice leaf p) (single_ge (state_variable leaf p) (negsuc 0) (pos 1))
twin_ordered leaf p true false = no_case
twin_ordered leaf p false b = no_case

-- ---- a set that is entered

first_ordered : (leaf : LeafModel) (set : List ℕ) → CasesOrdered (cases_of_first leaf set)
first_ordered leaf set =
    let starts = map (λ start. indicator (is_in set start)) leaf.inputs in
    let some_start = pos (helpers_among leaf set) -ℤ pos 1 in
    two_cases (Ge (input_row starts some_start) ∷ []) (no_moves leaf (touches set) ++ Eq (count_row leaf set (pos 0)) ∷ [])
    (one_fact (Ge (input_row starts some_start)) (dense_ge starts some_start))
    (append_ordered (no_moves leaf (touches set)) (Eq (count_row leaf set (pos 0)) ∷ []) (none_taken_ordered leaf (touches set)) (one_fact (Eq (count_row leaf set (pos 0))) (zero_over_states leaf (marks leaf set) (pos 0))))

possible_ordered : (leaf : LeafModel) (t : Move) (twice : Bool) → AllOrdered (if twice then (Ge (single_row (state_variable leaf t.p) (pos 1) (negsuc 1)) ∷ []) else (occurs_fact leaf t.p ∷ occurs_fact leaf t.q ∷ []))
possible_ordered leaf t true =
    one_fact (Ge (single_row (state_variable leaf t.p) (pos 1) (negsuc 1))) (single_ge (state_variable leaf t.p) (pos 1) (negsuc 1))
possible_ordered leaf t false =
    more_facts (occurs_fact leaf t.p) (occurs_fact leaf t.q ∷ []) (single_ge (state_variable leaf t.p) (pos 1) (negsuc 0)) (one_fact (occurs_fact leaf t.q) (single_ge (state_variable leaf t.q) (pos 1) (negsuc 0)))

all_possible_ordered : (leaf : LeafModel) (moves : List Move) → CasesOrdered (map (is_possible leaf) moves)
all_possible_ordered leaf [] = no_case
all_possible_ordered leaf (t ∷ moves) =
    more_cases (is_possible leaf t) (map (is_possible leaf) moves) (possible_ordered leaf t (t.p == t.q)) (all_possible_ordered leaf moves)

pub entries_ordered : (leaf : LeafModel) (set : List ℕ) → CasesOrdered (cases_of_entry leaf set)
entries_ordered leaf set = all_possible_ordered leaf (filter (enters set) leaf.moves)

pub before_ordered : (leaf : LeafModel) (set : List ℕ) (facts : List Fact) → All IsOrdered facts → All IsOrdered (before_entry leaf set facts)
before_ordered leaf set facts ordered =
    let flows = map (flow leaf) (states_of leaf) in
    let given = filter (is_about_inputs leaf) facts in
    let none = more_facts (Eq (count_row leaf set (pos 0))) (no_helper_facts leaf set) (zero_over_states leaf (marks leaf set) (pos 0)) (none_helps_ordered leaf set (helpers_among leaf set == 0)) in
    All-append IsOrdered (flows ++ given ++ no_moves leaf (touches set) ++ no_start_facts leaf set) (Eq (count_row leaf set (pos 0)) ∷ no_helper_facts leaf set)
    (All-append IsOrdered (flows ++ given ++ no_moves leaf (touches set)) (no_start_facts leaf set)
    (All-append IsOrdered (flows ++ given) (no_moves leaf (touches set))
    (All-append IsOrdered flows given (all_of (map_ordered (flow leaf) (states_of leaf) (flow_ordered leaf))) (All-filter (is_about_inputs leaf) IsOrdered facts ordered))
    (all_of (none_taken_ordered leaf (touches set))))
    (all_of (none_started_ordered leaf set)))
    (all_of none)

opened_ordered : (o : Option Fact) → CasesOrdered (unwrap_or (opened o) [])
opened_ordered None = no_case
opened_ordered (Some (Ge row)) = no_case
opened_ordered (Some (Eq row)) = no_case
opened_ordered (Some (Cong row m)) = no_case
opened_ordered (Some (NotCong row m)) = no_case
opened_ordered (Some (Holds p b)) = open_ordered p.variables p.tree b

-- the cases of a node within the format
pub cases_ordered : (leaf dead : LeafModel) (facts : List Fact) (node : Node) → IsWithinFormat node → CasesOrdered (cases_at leaf dead facts node)
cases_ordered leaf dead facts (Linear terms) within = no_case
cases_ordered leaf dead facts (Residue m terms) within = no_case
cases_ordered leaf dead facts (Split row) within = where_ordered (name_below (variable_count leaf) row.terms) (cases_of_split row) (split_ordered row within.0)
cases_ordered leaf dead facts (Present p) within = where_ordered (nat_lt p (length leaf.states)) (cases_of_present dead p) (present_ordered dead p)
cases_ordered leaf dead facts (Twin p) within = twin_ordered dead p (nat_lt p (length leaf.states)) (can_meet_in dead p p)
cases_ordered leaf dead facts (Trap set) within = where_ordered (list_all (λ q. nat_lt q (length leaf.states)) set) (cases_of_trap leaf set) (trap_ordered leaf set)
cases_ordered leaf dead facts (Siphon set) within = where_ordered (list_all (λ q. nat_lt q (length leaf.states)) set) (cases_of_siphon leaf set) (siphon_ordered leaf set)
cases_ordered leaf dead facts (Open f) within = opened_ordered (slice_get facts f)
cases_ordered leaf dead facts (First set) within = first_ordered leaf set
