-- A node that isn't refused refutes its facts or distinguishes cases, and a node that does so isn't refused.
use Rattle.std.proofs.Common.{◌≡◌, ℕ, ◌<◌, Bool, true, false, not, ◌&&◌, List, [], ◌∷◌, length, refl, ap, ◌∙◌}
use Rattle.std.specs.List.{list_all}
use Rattle.std.specs.Prelude.{Option, Some, None, unwrap_or, nat_lt, slice_get, if◌then◌else◌}
use Rattle.std.proofs.lemmas.Bool.{ltb-true, lt-ltb}
use Rattle.std.proofs.lemmas.Option.{slice_get_within}
use Rattle.pop_leaf.proofs.Reactions.{and_left, and_right}
use Rattle.pop_leaf.specs.LeafModel.{LeafModel}
use Rattle.cert_base.specs.declared.fact.Term.{Term}
use Rattle.cert_base.specs.declared.fact.Fact.{Fact}
use Rattle.cert_base.specs.declared.fact.Fact.TheVariants.{Ge, Eq, Cong, NotCong, Holds}
use Rattle.cert_base.specs.declared.node.Node.{Node}
use Rattle.cert_base.specs.declared.node.Node.TheVariants.{Linear, Residue, Split, Present, Twin, Trap, Siphon, Open, First}
use Rattle.cert_base.specs.FactsAndCases.{can_meet_in, cases_of_first, before_entry, cases_of_entry}
use Rattle.cert_base.specs.ClosingTests.{may_have, all_named, may_add, may_add_modulo}
use Rattle.cert_base.specs.Closes.{name_below, refutes, cases_for, where_in_range, opened, only_case, MayStand}
use Rattle.cert_tree.specs.declared.fault.TreeWhy.{TreeWhy}
use Rattle.cert_tree.specs.declared.fault.TreeWhy.TheVariants.{TooDeep, BadIndex, NoTwin, NotOpen, NotClosed, TooManyFacts}
use Rattle.cert_tree.specs.Refusals.{names_in_range, has_twin, is_holds, opens_holds, refutes_facts, cases_at, entries, facts_before, all_fit, have_room, own_refusal, or_else, refusal}

-- the node refutes the facts and has no case, or it has cases of the end alone, or it asks who entered a set
pub data Ways (leaf dead : LeafModel) (facts : List Fact) : Node → Type 0 where
  refutes_all : (node : Node) → refutes facts node ≡ true → cases_at leaf dead facts node ≡ [] → entries leaf node ≡ [] → Ways leaf dead facts node
  divides : (node : Node) → cases_for leaf dead facts node ≡ Some (cases_at leaf dead facts node) → entries leaf node ≡ [] → Ways leaf dead facts node
  may_enter : (set : List ℕ) → list_all (λ q. nat_lt q (length leaf.states)) set ≡ true → Ways leaf dead facts (First set)

-- ---- nested tests

first_test : (a b c d : Bool) → (if not a then Some BadIndex else if not b then Some NoTwin else if not c then Some NotOpen else if not d then Some NotClosed else None) ≡ None → (a ≡ true) × (b ≡ true) × (c ≡ true) × (d ≡ true)
first_test true true true true e = (refl, refl, refl, refl)
first_test true true true false e = cc
first_test true true false d e = cc
first_test true false c d e = cc
first_test false b c d e = cc

whole_test : (a b : Bool) (own : Option TreeWhy) → (if not a then Some TooDeep else or_else own (if b then None else Some TooManyFacts)) ≡ None → (a ≡ true) × (b ≡ true) × (own ≡ None)
whole_test true true None e = (refl, refl, refl)
whole_test true true (Some why) e = cc
whole_test true false None e = cc
whole_test true false (Some why) e = cc
whole_test false b own e = cc

-- ---- a node that passes its own tests

twin_at : (leaf dead : LeafModel) (facts : List Fact) (p : ℕ) → nat_lt p (length leaf.states) ≡ true → can_meet_in dead p p ≡ true → Ways leaf dead facts (Twin p)
twin_at leaf dead facts p e f = divides (Twin p) (rw (e, f) refl) refl

open_at : (leaf : LeafModel) (facts : List Fact) (f : ℕ) (o : Option Fact) → slice_get facts f ≡ o → is_holds o ≡ true → opened o ≡ Some (unwrap_or (opened o) [])
open_at leaf facts f None h e = cc
open_at leaf facts f (Some (Ge row)) h e = cc
open_at leaf facts f (Some (Eq row)) h e = cc
open_at leaf facts f (Some (Cong row m)) h e = cc
open_at leaf facts f (Some (NotCong row m)) h e = cc
open_at leaf facts f (Some (Holds p b)) h e = refl

pub passes-own : (leaf dead : LeafModel) (facts : List Fact) (node : Node) → (names_in_range leaf facts node ≡ true) × (has_twin dead node ≡ true) × (opens_holds facts node ≡ true) × (refutes_facts facts node ≡ true) → Ways leaf dead facts node
passes-own leaf dead facts (Linear terms) h = refutes_all (Linear terms) h.3 refl refl
passes-own leaf dead facts (Residue m terms) h = refutes_all (Residue m terms) h.3 refl refl
passes-own leaf dead facts (Split row) h = divides (Split row) (rw h.0 refl) refl
passes-own leaf dead facts (Present p) h = divides (Present p) (rw h.0 refl) refl
passes-own leaf dead facts (Twin p) h = twin_at leaf dead facts p h.0 h.1
passes-own leaf dead facts (Trap set) h = divides (Trap set) (rw h.0 refl) refl
passes-own leaf dead facts (Siphon set) h = divides (Siphon set) (rw h.0 refl) refl
passes-own leaf dead facts (Open f) h = divides (Open f) (open_at leaf facts f (slice_get facts f) refl h.2) refl
passes-own leaf dead facts (First set) h = may_enter set h.0

-- what a node that isn't refused is
pub record Passes (leaf dead : LeafModel) (above : ℕ) (facts : List Fact) (node : Node) : Type 0 where
  pub depth : above < 4096
  pub fit : all_fit facts (cases_at leaf dead facts node) ≡ true
  pub before_fit : all_fit (facts_before leaf facts node) (entries leaf node) ≡ true
  pub ways : Ways leaf dead facts node

pub unrefused-passes : (leaf dead : LeafModel) (above : ℕ) (facts : List Fact) (node : Node) → refusal leaf dead above facts node ≡ None → Passes leaf dead above facts node
unrefused-passes leaf dead above facts node e =
    let whole = whole_test (nat_lt above 4096) (have_room leaf dead facts node) (own_refusal leaf dead facts node) e in
    record {
      depth = ltb-true above 4096 whole.0;
      fit = and_left _ _ whole.1;
      before_fit = and_right (all_fit facts (cases_at leaf dead facts node)) _ whole.1;
      ways = passes-own leaf dead facts node (first_test (names_in_range leaf facts node) (has_twin dead node) (opens_holds facts node) (refutes_facts facts node) whole.2);
    }

-- ---- a node that refutes or divides is not refused by its own tests

named_below_by : (may : _) (facts : List Fact) (terms : List Term) → all_named may facts terms ≡ true → name_below (length facts) terms ≡ true
named_below_by may facts [] e = refl
named_below_by may facts (t ∷ terms) e =
    let here = there (slice_get facts t.at) refl (and_left _ _ e) in
    rw (here, named_below_by may facts terms (and_right (may_have may t.by (slice_get facts t.at)) _ e)) refl
  where
    there : (o : Option Fact) → slice_get facts t.at ≡ o → may_have may t.by o ≡ true → nat_lt t.at (length facts) ≡ true
    there None h f = cc
    there (Some fact) h f = lt-ltb t.at (length facts) (slice_get_within facts t.at fact h)

-- all four tests are passed
abbrev PassesOwn : (leaf dead : LeafModel) → List Fact → Node → Type 0
PassesOwn leaf dead facts node = (names_in_range leaf facts node ≡ true) × (has_twin dead node ≡ true) × (opens_holds facts node ≡ true) × (refutes_facts facts node ≡ true)

refutes-passes : (leaf dead : LeafModel) (facts : List Fact) (node : Node) → refutes facts node ≡ true → PassesOwn leaf dead facts node × (cases_at leaf dead facts node ≡ []) × (entries leaf node ≡ [])
refutes-passes leaf dead facts (Linear terms) e =
    ((named_below_by may_add facts terms (and_left (all_named may_add facts terms) _ (and_left (all_named may_add facts terms && _) _ e)), refl, refl, e), refl, refl)
refutes-passes leaf dead facts (Residue m terms) e =
    ((named_below_by (may_add_modulo m) facts terms (and_left _ _ e), refl, refl, e), refl, refl)
refutes-passes leaf dead facts (Split row) e = cc
refutes-passes leaf dead facts (Present p) e = cc
refutes-passes leaf dead facts (Twin p) e = cc
refutes-passes leaf dead facts (Trap set) e = cc
refutes-passes leaf dead facts (Siphon set) e = cc
refutes-passes leaf dead facts (Open f) e = cc
refutes-passes leaf dead facts (First set) e = cc

in_range_by : (b : Bool) (all cases : List (List Fact)) → where_in_range b all ≡ Some cases → b ≡ true
in_range_by true all cases e = refl
in_range_by false all cases e = cc

twin_by : (a b : Bool) (own : List Fact) (cases : List (List Fact)) → (if a then only_case (if b then Some own else None) else None) ≡ Some cases → (a ≡ true) × (b ≡ true)
twin_by true true own cases e = (refl, refl)
twin_by true false own cases e = cc
twin_by false b own cases e = cc

open_by : (facts : List Fact) (f : ℕ) (o : Option Fact) (cases : List (List Fact)) → slice_get facts f ≡ o → opened o ≡ Some cases → (nat_lt f (length facts) ≡ true) × (is_holds o ≡ true)
open_by facts f None cases h e = cc
open_by facts f (Some (Ge row)) cases h e = cc
open_by facts f (Some (Eq row)) cases h e = cc
open_by facts f (Some (Cong row m)) cases h e = cc
open_by facts f (Some (NotCong row m)) cases h e = cc
open_by facts f (Some (Holds p b)) cases h e = (lt-ltb f (length facts) (slice_get_within facts f (Holds p b) h), refl)

divides-passes : (leaf dead : LeafModel) (facts : List Fact) (node : Node) (cases : List (List Fact)) → cases_for leaf dead facts node ≡ Some cases → PassesOwn leaf dead facts node
divides-passes leaf dead facts (Linear terms) cases e = cc
divides-passes leaf dead facts (Residue m terms) cases e = cc
divides-passes leaf dead facts (Split row) cases e = (in_range_by _ _ cases e, refl, refl, refl)
divides-passes leaf dead facts (Present p) cases e = (in_range_by _ _ cases e, refl, refl, refl)
divides-passes leaf dead facts (Twin p) cases e =
    let h = twin_by (nat_lt p (length leaf.states)) (can_meet_in dead p p) _ cases e in (h.0, h.1, refl, refl)
divides-passes leaf dead facts (Trap set) cases e = (in_range_by _ _ cases e, refl, refl, refl)
divides-passes leaf dead facts (Siphon set) cases e = (in_range_by _ _ cases e, refl, refl, refl)
divides-passes leaf dead facts (Open f) cases e =
    let h = open_by facts f (slice_get facts f) cases refl e in (h.0, refl, h.1, refl)
divides-passes leaf dead facts (First set) cases e = cc

divides-entries : (leaf dead : LeafModel) (facts : List Fact) (node : Node) (cases : List (List Fact)) → cases_for leaf dead facts node ≡ Some cases → entries leaf node ≡ []
divides-entries leaf dead facts (First set) cases e = cc
divides-entries leaf dead facts node cases e = refl

own_none : (leaf dead : LeafModel) (facts : List Fact) (node : Node) → PassesOwn leaf dead facts node → own_refusal leaf dead facts node ≡ None
own_none leaf dead facts node h = rw (h.0, h.1, h.2, h.3) refl

pub unrefused : (leaf dead : LeafModel) (above : ℕ) (facts : List Fact) (node : Node) → above < 4096 → own_refusal leaf dead facts node ≡ None → all_fit facts (cases_at leaf dead facts node) ≡ true → all_fit (facts_before leaf facts node) (entries leaf node) ≡ true → refusal leaf dead above facts node ≡ None
unrefused leaf dead above facts node l own fit before = rw (lt-ltb above 4096 l, own, fit, before) refl

-- without cases before the end, these have few enough facts
no_entries : (leaf : LeafModel) (facts : List Fact) (node : Node) → entries leaf node ≡ [] → all_fit (facts_before leaf facts node) (entries leaf node) ≡ true
no_entries leaf facts node e = ap (all_fit (facts_before leaf facts node)) e

pub refuting-unrefused : (leaf dead : LeafModel) (above : ℕ) (facts : List Fact) (node : Node) → MayStand above facts → refutes facts node ≡ true → (refusal leaf dead above facts node ≡ None) × (cases_at leaf dead facts node ≡ []) × (entries leaf node ≡ [])
refuting-unrefused leaf dead above facts node limits e =
    let h = refutes-passes leaf dead facts node e in
    (unrefused leaf dead above facts node limits.depth (own_none leaf dead facts node h.0) (ap (all_fit facts) h.1) (no_entries leaf facts node h.2), h.1, h.2)

pub dividing-unrefused : (leaf dead : LeafModel) (above : ℕ) (facts : List Fact) (node : Node) (cases : List (List Fact)) → MayStand above facts → cases_for leaf dead facts node ≡ Some cases → all_fit facts cases ≡ true → (refusal leaf dead above facts node ≡ None) × (cases_at leaf dead facts node ≡ cases) × (entries leaf node ≡ [])
dividing-unrefused leaf dead above facts node cases limits e fit =
    let same : cases_at leaf dead facts node ≡ cases = rw e refl in
    let none = divides-entries leaf dead facts node cases e in
    (unrefused leaf dead above facts node limits.depth (own_none leaf dead facts node (divides-passes leaf dead facts node cases e)) (ap (all_fit facts) same ∙ fit) (no_entries leaf facts node none), same, none)

pub entering-unrefused : (leaf dead : LeafModel) (above : ℕ) (facts : List Fact) (set : List ℕ) → MayStand above facts → list_all (λ q. nat_lt q (length leaf.states)) set ≡ true → all_fit facts (cases_of_first leaf set) ≡ true → all_fit (before_entry leaf set facts) (cases_of_entry leaf set) ≡ true → refusal leaf dead above facts (First set) ≡ None
entering-unrefused leaf dead above facts set limits named fit before =
    unrefused leaf dead above facts (First set) limits.depth (own_none leaf dead facts (First set) (named, refl, refl, refl)) fit before
