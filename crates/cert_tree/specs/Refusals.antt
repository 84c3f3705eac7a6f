-- Refusals: which node of a tree is refused first, and why.
use Rattle.std.specs.Prelude.{◌≡◌, ◌≤◌, ℕ, ◌+◌, Bool, true, false, not, ◌&&◌, if◌then◌else◌, nat_lt, nat_le, List}
use Rattle.std.specs.Prelude.{[], ◌∷◌, ◌++◌, map, length, Option, Some, None, unwrap_or, slice_get, All, Result, OnOk}
use Rattle.std.specs.List.{list_all}
use Rattle.pres_ast.specs.PredModel.{PredModel}
use Rattle.pop_leaf.specs.LeafModel.{LeafModel}
use Rattle.cert_base.specs.declared.limits.TheConstants.{FACT_LIMIT, NODE_LIMIT, PATH_LIMIT}
use Rattle.cert_base.specs.declared.fact.Fact.{Fact}
use Rattle.cert_base.specs.declared.fact.Fact.TheVariants.{Holds}
use Rattle.cert_base.specs.declared.node.Node.{Node}
use Rattle.cert_base.specs.declared.node.Node.TheVariants.{Linear, Residue, Split, Present, Twin, Trap, Siphon, Open}
use Rattle.cert_base.specs.declared.node.Node.TheVariants.{First}
use Rattle.cert_base.specs.Rows.{variable_count}
use Rattle.cert_base.specs.FactsAndCases.{base_list, goal_list, can_meet_in, cases_of_first, before_entry}
use Rattle.cert_base.specs.FactsAndCases.{cases_of_entry}
use Rattle.cert_base.specs.Closes.{name_below, refutes, cases_for, still, ClosesFor, Closes}
use Rattle.cert_base.specs.Ends.{EndsRight}
use Rattle.cert_base.specs.GoalEnds.{EndsInside}
use Rattle.cert_tree.specs.Format.{IsWithinFormat}
use Rattle.cert_tree.specs.declared.fault.TreeWhy.{TreeWhy}
use Rattle.cert_tree.specs.declared.fault.TreeWhy.TheVariants.{Missing, TooDeep, BadIndex, NoTwin, NotOpen, NotClosed}
use Rattle.cert_tree.specs.declared.fault.TreeWhy.TheVariants.{TooManyFacts, Rest}
use Rattle.cert_tree.specs.declared.fault.TreeFault.{TreeFault}
use Rattle.pop_io.specs.declared.failure.Failure.{Failure}
use Rattle.pop_io.specs.Failures.{IfFault, OnlyMemory}

-- whether all fact, state and variable numbers of a node are in range
abbrev pub names_in_range : LeafModel → List Fact → Node → Bool
names_in_range leaf facts (Linear terms) = name_below (length facts) terms
names_in_range leaf facts (Residue m terms) = name_below (length facts) terms
names_in_range leaf facts (Split row) = name_below (variable_count leaf) row.terms
names_in_range leaf facts (Present p) = nat_lt p (length leaf.states)
names_in_range leaf facts (Twin p) = nat_lt p (length leaf.states)
names_in_range leaf facts (Trap set) = list_all (λ q. nat_lt q (length leaf.states)) set
names_in_range leaf facts (Siphon set) = list_all (λ q. nat_lt q (length leaf.states)) set
names_in_range leaf facts (Open f) = nat_lt f (length facts)
names_in_range leaf facts (First set) = list_all (λ q. nat_lt q (length leaf.states)) set

-- a `Twin` names a state that can meet itself, in the leaf that is dead at the end
abbrev pub has_twin : LeafModel → Node → Bool
has_twin leaf (Twin p) = can_meet_in leaf p p
has_twin leaf _ = true

abbrev pub is_holds : Option Fact → Bool
is_holds (Some (Holds p b)) = true
is_holds _ = false

-- an `Open` names a `Holds`
abbrev pub opens_holds : List Fact → Node → Bool
opens_holds facts (Open f) = is_holds (slice_get facts f)
opens_holds facts _ = true

-- whether a node without cases refutes the facts
abbrev pub refutes_facts : List Fact → Node → Bool
refutes_facts facts (Linear terms) = refutes facts (Linear terms)
refutes_facts facts (Residue m terms) = refutes facts (Residue m terms)
refutes_facts facts _ = true

-- the cases of the end at a node that speaks of crowds before it too
abbrev pub end_cases : LeafModel → Node → List (List Fact)
end_cases leaf (First set) = cases_of_first leaf set
end_cases leaf _ = []

-- the cases of a node that speak of the end, one after the other; none at a node that refutes
abbrev pub cases_at : (leaf dead : LeafModel) → List Fact → Node → List (List Fact)
cases_at leaf dead facts node = unwrap_or (cases_for leaf dead facts node) (end_cases leaf node)

-- the cases of a node that speak of a crowd before the end
abbrev pub entries : LeafModel → Node → List (List Fact)
entries leaf (First set) = cases_of_entry leaf set
entries leaf _ = []

-- what is known of that crowd, given the facts of the end
abbrev pub facts_before : LeafModel → List Fact → Node → List Fact
facts_before leaf facts (First set) = before_entry leaf set facts
facts_before leaf facts _ = []

-- whether the facts with those of each case are few enough
abbrev pub all_fit : List Fact → List (List Fact) → Bool
all_fit facts = list_all (λ own. nat_le (length facts + length own) FACT_LIMIT)

-- whether those of all cases of a node are
abbrev pub have_room : (leaf dead : LeafModel) → List Fact → Node → Bool
have_room leaf dead facts node =
    all_fit facts (cases_at leaf dead facts node) && all_fit (facts_before leaf facts node) (entries leaf node)

-- why a node is refused by its numbers, its move, its fact or its test
abbrev pub own_refusal : (leaf dead : LeafModel) → List Fact → Node → Option TreeWhy
own_refusal leaf dead facts node =
    if not (names_in_range leaf facts node) then Some BadIndex
    else if not (has_twin dead node) then Some NoTwin
    else if not (opens_holds facts node) then Some NotOpen
    else if not (refutes_facts facts node) then Some NotClosed
    else None

-- the first reason, unless there is none
abbrev pub or_else : Option TreeWhy → Option TreeWhy → Option TreeWhy
or_else None why = why
or_else (Some why) other = Some why

-- why a node with this many nodes above it, and these facts, is refused
abbrev pub refusal : (leaf dead : LeafModel) → ℕ → List Fact → Node → Option TreeWhy
refusal leaf dead above facts node =
    if not (nat_lt above PATH_LIMIT) then Some TooDeep
    else or_else (own_refusal leaf dead facts node)
    (if have_room leaf dead facts node then None else Some TooManyFacts)

-- a case that waits for its nodes: how many nodes are above it, whether it speaks of a crowd before an entry, which
-- need not be terminal, and its facts
pub record Waiting : Type 0 where
  pub above : ℕ
  pub is_still : Bool
  pub facts : List Fact

abbrev pub waits : ℕ → Bool → List Fact → Waiting
waits above is_still facts = record { above = above; is_still = is_still; facts = facts }

-- what is dead at the crowd of which a case speaks
abbrev pub dead_at : (leaf dead : LeafModel) → Bool → LeafModel
dead_at leaf dead is_still = if is_still then still leaf else dead

-- cases with this many nodes above them, each with its own facts after these
abbrev pub cases_under : ℕ → Bool → List Fact → List (List Fact) → List Waiting
cases_under above is_still facts cases = map (λ own. waits above is_still (facts ++ own)) cases

-- the cases of a node, each with one more node above it: first those of entries
abbrev pub cases_below : (leaf dead : LeafModel) → Waiting → Node → List Waiting
cases_below leaf dead at node =
    cases_under (at.above + 1) true (facts_before leaf at.facts node) (entries leaf node)
    ++ cases_under (at.above + 1) at.is_still at.facts
    (cases_at leaf (dead_at leaf dead at.is_still) at.facts node)

abbrev pub go_on : Option TreeWhy → ℕ → Option (ℕ × TreeWhy) → Option (ℕ × TreeWhy)
go_on None number later = later
go_on (Some why) number later = Some (number, why)

-- the first node that is refused, and why; the nodes are numbered from here, and the cases wait in order
abbrev pub first_from : (leaf dead : LeafModel) → List Waiting → ℕ → List Node → Option (ℕ × TreeWhy)
first_from leaf dead [] number [] = None
first_from leaf dead [] number (node ∷ nodes) = Some (number, Rest)
first_from leaf dead (at ∷ waiting) number [] = Some (number, Missing)
first_from leaf dead (at ∷ waiting) number (node ∷ nodes) =
    go_on (refusal leaf (dead_at leaf dead at.is_still) at.above at.facts node) number
    (first_from leaf dead (cases_below leaf dead at node ++ waiting) (number + 1) nodes)

-- the same from the beginning of a tree, where these facts wait
abbrev pub first_for : (leaf dead : LeafModel) → List Fact → List Node → Option (ℕ × TreeWhy)
first_for leaf dead facts nodes = first_from leaf dead (waits 0 false facts ∷ []) 0 nodes

abbrev pub first_refused : LeafModel → PredModel → Bool → List Node → Option (ℕ × TreeWhy)
first_refused leaf p value nodes = first_for leaf leaf (base_list leaf p value) nodes

-- the fault names the first node that is refused, and why
abbrev pub IsFaultFor : (leaf dead : LeafModel) → List Fact → List Node → TreeFault → Type 0
IsFaultFor leaf dead facts nodes fault = first_for leaf dead facts nodes ≡ Some (fault.node, fault.why)

abbrev pub IsTreeFault : LeafModel → PredModel → Bool → List Node → TreeFault → Type 0
IsTreeFault leaf p value nodes fault = first_refused leaf p value nodes ≡ Some (fault.node, fault.why)

-- what is required of the nodes of a tree for a predicate of a leaf
pub record AreNodesOf (leaf : LeafModel) (p : PredModel) (nodes : List Node) : Type 0 where
  pub variables : p.variables ≡ length leaf.inputs
  pub few : length nodes ≤ NODE_LIMIT
  pub within : All IsWithinFormat nodes

-- what `check_tree` says: the nodes close the base facts; or this is the first that is refused
pub record ChecksTree (leaf : LeafModel) (p : PredModel) (value : Bool) (nodes : List Node)
    (result : Result (Unit {0}) (Failure TreeFault)) : Type 0 where
  pub closes : OnOk result (Closes leaf (base_list leaf p value) nodes [])
  pub fault : IfFault result (IsTreeFault leaf p value nodes)
  pub accepts : Closes leaf (base_list leaf p value) nodes [] → OnlyMemory result
  -- from every input at which the predicate has the value, each agent of each reachable terminal crowd outputs it
  pub right : OnOk result (EndsRight leaf p.tree value)

-- what `check_goal_tree` says: the nodes close the goal's facts; or this is the first that is refused
pub record ChecksGoalTree (leaf dead : LeafModel) (p : PredModel) (value : Bool) (sets : List (List ℕ))
    (nodes : List Node) (result : Result (Unit {0}) (Failure TreeFault)) : Type 0 where
  pub closes : OnOk result (ClosesFor leaf dead (goal_list leaf p value sets) nodes [])
  pub fault : IfFault result (IsFaultFor leaf dead (goal_list leaf p value sets) nodes)
  pub accepts : ClosesFor leaf dead (goal_list leaf p value sets) nodes [] → OnlyMemory result
  -- from every input at which the predicate has the value, each reachable crowd in which `dead` has no step has all
  -- agents in one of the sets
  pub inside : OnOk result (EndsInside leaf dead p.tree value sets)
