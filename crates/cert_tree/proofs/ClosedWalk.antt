-- No node is refused exactly when the nodes close the cases that wait, one after the other.
use Rattle.std.proofs.Common.{◌≡◌, ℕ, ◌+◌, ◌≤◌, Bool, true, false, List, [], ◌∷◌, ◌++◌, length, length-append, append_assoc, refl, sym, ap, subst, ◌∙◌}
use Rattle.std.specs.Prelude.{Option, Some, None, nat_le}
use Rattle.std.proofs.lemmas.Bool.{leb-true, le-leb}
use Rattle.pop_leaf.proofs.Reactions.{and_left, and_right}
use Rattle.pop_leaf.specs.LeafModel.{LeafModel}
use Rattle.pres_ast.specs.PredModel.{PredModel}
use Rattle.cert_base.specs.declared.fact.Fact.{Fact}
use Rattle.cert_base.specs.declared.node.Node.{Node}
use Rattle.cert_base.specs.declared.node.Node.TheVariants.{First}
use Rattle.cert_base.specs.FactsAndCases.{base_list, cases_of_first, before_entry, cases_of_entry}
use Rattle.cert_base.specs.Closes.{cases_for, MayStand, ClosesUnderFor, refuted, by_cases, by_first, ClosesEachFor, no_case, next_case, ClosesFor, Closes}
use Rattle.cert_tree.specs.declared.fault.TreeWhy.{TreeWhy}
use Rattle.cert_tree.specs.Refusals.{cases_at, entries, facts_before, all_fit, refusal, Waiting, waits, dead_at, cases_under, cases_below, go_on, first_from, first_for, first_refused}
use Rattle.cert_tree.proofs.Passing.{Ways, refutes_all, divides, may_enter, unrefused-passes, refuting-unrefused, dividing-unrefused, entering-unrefused}

-- the nodes close all cases that wait, and nothing is left
pub data ClosesAll (leaf dead : LeafModel) : (waiting : List Waiting) (nodes : List Node) → Type 0 where
  none_waits : ClosesAll leaf dead [] []
  one_waits : (above : ℕ) (is_still : Bool) (facts : List Fact) (waiting : List Waiting) (nodes rest : List Node) → ClosesUnderFor leaf (dead_at leaf dead is_still) above facts nodes rest → ClosesAll leaf dead waiting rest → ClosesAll leaf dead (waits above is_still facts ∷ waiting) nodes

-- each case has few enough facts
abbrev AllFew : List Waiting → Type 0
AllFew [] = Unit {0}
AllFew (at ∷ waiting) = (length at.facts ≤ 65536) × AllFew waiting

few_below : (above : ℕ) (is_still : Bool) (facts : List Fact) (cases : List (List Fact)) (waiting : List Waiting) → all_fit facts cases ≡ true → AllFew waiting → AllFew (cases_under above is_still facts cases ++ waiting)
few_below above is_still facts [] waiting e few = few
few_below above is_still facts (own ∷ cases) waiting e few =
    (rw (length-append facts own) (leb-true (length facts + length own) 65536 (and_left _ _ e)), few_below above is_still facts cases waiting (and_right (nat_le (length facts + length own) 65536) _ e) few)

-- the cases of a node close one after the other, and then those that waited before
pub record ClosesThen (leaf dead : LeafModel) (above : ℕ) (is_still : Bool) (facts : List Fact) (cases : List (List Fact)) (waiting : List Waiting) (nodes : List Node) : Type 0 where
  pub between : List Node
  pub each : ClosesEachFor leaf (dead_at leaf dead is_still) above facts cases nodes between
  pub others : ClosesAll leaf dead waiting between

abbrev AllInverse : (leaf dead : LeafModel) → List Waiting → List Node → Type 0
AllInverse leaf dead [] nodes = nodes ≡ []
AllInverse leaf dead (at ∷ waiting) nodes = (rest : List Node) × ClosesUnderFor leaf (dead_at leaf dead at.is_still) at.above at.facts nodes rest × ClosesAll leaf dead waiting rest

all_inverse : {leaf dead : LeafModel} {waiting : List Waiting} {nodes : List Node} → ClosesAll leaf dead waiting nodes → AllInverse leaf dead waiting nodes
all_inverse none_waits = refl
all_inverse (one_waits above is_still facts waiting nodes rest first others) = (rest, first, others)

each_then : (leaf dead : LeafModel) (above : ℕ) (is_still : Bool) (facts : List Fact) (cases : List (List Fact)) (waiting : List Waiting) (nodes : List Node) → ClosesAll leaf dead (cases_under above is_still facts cases ++ waiting) nodes → ClosesThen leaf dead above is_still facts cases waiting nodes
each_then leaf dead above is_still facts [] waiting nodes h =
    record { between = nodes; each = no_case above facts nodes; others = h }
each_then leaf dead above is_still facts (own ∷ cases) waiting nodes h =
    let first = all_inverse h in
    let rest = each_then leaf dead above is_still facts cases waiting first.0 first.2 in
    record {
      between = rest.between;
      each = next_case above facts own cases nodes first.0 rest.between first.1 rest.each;
      others = rest.others;
    }

go_on_none : (why : Option TreeWhy) (number : ℕ) (later : Option (ℕ × TreeWhy)) → go_on why number later ≡ None → (why ≡ None) × (later ≡ None)
go_on_none None number later e = (refl, e)
go_on_none (Some why) number later e = cc

-- the cases of a node that has none before the end
end_alone : (leaf dead : LeafModel) (above : ℕ) (is_still : Bool) (facts : List Fact) (node : Node) (cases : List (List Fact)) → cases_at leaf (dead_at leaf dead is_still) facts node ≡ cases → entries leaf node ≡ [] → cases_below leaf dead (waits above is_still facts) node ≡ cases_under (above + 1) is_still facts cases
end_alone leaf dead above is_still facts node cases same none =
    ap (λ early. cases_under (above + 1) true (facts_before leaf facts node) early ++ cases_under (above + 1) is_still facts (cases_at leaf (dead_at leaf dead is_still) facts node)) none
    ∙ ap (cases_under (above + 1) is_still facts) same

first_closes : (leaf dead : LeafModel) (above : ℕ) (is_still : Bool) (facts : List Fact) (waiting : List Waiting) (nodes : List Node) {node : Node} → Ways leaf (dead_at leaf dead is_still) facts node → MayStand above facts → ClosesAll leaf dead (cases_below leaf dead (waits above is_still facts) node ++ waiting) nodes → ClosesAll leaf dead (waits above is_still facts ∷ waiting) (node ∷ nodes)
first_closes leaf dead above is_still facts waiting nodes (refutes_all node r same none) limits h =
    let h' = subst (λ cases. ClosesAll leaf dead (cases ++ waiting) nodes) (end_alone leaf dead above is_still facts node [] same none) h in
    one_waits above is_still facts waiting (node ∷ nodes) nodes (refuted above facts node nodes limits r) h'
first_closes leaf dead above is_still facts waiting nodes (divides node d none) limits h =
    let cases = cases_at leaf (dead_at leaf dead is_still) facts node in
    let h' = subst (λ below. ClosesAll leaf dead (below ++ waiting) nodes) (end_alone leaf dead above is_still facts node cases refl none) h in
    let then = each_then leaf dead (above + 1) is_still facts cases waiting nodes h' in
    one_waits above is_still facts waiting (node ∷ nodes) then.between (by_cases above facts node nodes then.between cases limits d then.each) then.others
first_closes leaf dead above is_still facts waiting nodes (may_enter set named) limits h =
    let early = cases_under (above + 1) true (before_entry leaf set facts) (cases_of_entry leaf set) in
    let later = cases_under (above + 1) is_still facts (cases_of_first leaf set) in
    let h' = subst (λ (all : List Waiting). ClosesAll leaf dead all nodes) (append_assoc early later waiting) h in
    let before = each_then leaf dead (above + 1) true (before_entry leaf set facts) (cases_of_entry leaf set) (later ++ waiting) nodes h' in
    let then = each_then leaf dead (above + 1) is_still facts (cases_of_first leaf set) waiting before.between before.others in
    one_waits above is_still facts waiting (First set ∷ nodes) then.between (by_first above facts set nodes before.between then.between limits named before.each then.each) then.others

-- if no node is refused, the nodes close
pub unrefused-closes : (leaf dead : LeafModel) (nodes : List Node) (waiting : List Waiting) (number : ℕ) → AllFew waiting → first_from leaf dead waiting number nodes ≡ None → ClosesAll leaf dead waiting nodes
unrefused-closes leaf dead [] [] number few e = none_waits
unrefused-closes leaf dead [] (at ∷ waiting) number few e = cc
unrefused-closes leaf dead (node ∷ nodes) [] number few e = cc
unrefused-closes leaf dead (node ∷ nodes) (at ∷ waiting) number few e =
    let here = dead_at leaf dead at.is_still in
    let passes = go_on_none (refusal leaf here at.above at.facts node) number _ e in
    let at_node = unrefused-passes leaf here at.above at.facts node passes.0 in
    let later = few_below (at.above + 1) at.is_still at.facts (cases_at leaf here at.facts node) waiting at_node.fit few.1 in
    let early = few_below (at.above + 1) true (facts_before leaf at.facts node) (entries leaf node) (cases_under (at.above + 1) at.is_still at.facts (cases_at leaf here at.facts node) ++ waiting) at_node.before_fit later in
    let all = subst AllFew (sym (append_assoc (cases_under (at.above + 1) true (facts_before leaf at.facts node) (entries leaf node)) (cases_under (at.above + 1) at.is_still at.facts (cases_at leaf here at.facts node)) waiting)) early in
    first_closes leaf dead at.above at.is_still at.facts waiting nodes at_node.ways (record { depth = at_node.depth; fact_count = few.0 })
    (unrefused-closes leaf dead nodes (cases_below leaf dead at node ++ waiting) (number + 1) all passes.1)

-- ---- if the nodes close, no node is refused

-- the same node is refused first, whether one starts here or at the rest
abbrev Same : (leaf dead : LeafModel) → List Waiting → List Node → List Waiting → List Node → Type 0
Same leaf dead before nodes after rest = (number : ℕ) → (later : ℕ) × (first_from leaf dead before number nodes ≡ first_from leaf dead after later rest)

few_of : {leaf dead : LeafModel} {above : ℕ} {facts : List Fact} {nodes rest : List Node} → ClosesUnderFor leaf dead above facts nodes rest → length facts ≤ 65536
few_of (refuted above facts node rest limits r) = limits.fact_count
few_of (by_cases above facts node nodes rest cases limits c each) = limits.fact_count
few_of (by_first above facts set nodes between rest limits named entry each) = limits.fact_count

each_fits : {leaf dead : LeafModel} {above : ℕ} {facts : List Fact} {cases : List (List Fact)} {nodes rest : List Node} → ClosesEachFor leaf dead above facts cases nodes rest → all_fit facts cases ≡ true
each_fits (no_case above facts rest) = refl
each_fits (next_case above facts own cases nodes between rest first others) =
    rw (le-leb (length facts + length own) 65536 (rw (length-append facts own) at (few_of first)), each_fits others) refl

-- a node that isn't refused: one goes on with its cases
pub passed_on : (leaf dead : LeafModel) (above : ℕ) (is_still : Bool) (facts : List Fact) (waiting below : List Waiting) (node : Node) (nodes : List Node) (number : ℕ) → refusal leaf (dead_at leaf dead is_still) above facts node ≡ None → cases_below leaf dead (waits above is_still facts) node ++ waiting ≡ below → first_from leaf dead (waits above is_still facts ∷ waiting) number (node ∷ nodes) ≡ first_from leaf dead below (number + 1) nodes
passed_on leaf dead above is_still facts waiting below node nodes number unrefused same =
    ap (λ why. go_on why number (first_from leaf dead (cases_below leaf dead (waits above is_still facts) node ++ waiting) (number + 1) nodes)) unrefused
    ∙ ap (λ all. first_from leaf dead all (number + 1) nodes) same

mutual
  closes-same : {leaf ended : LeafModel} {above : ℕ} {facts : List Fact} {nodes rest : List Node} → ClosesUnderFor leaf ended above facts nodes rest → (dead : LeafModel) (is_still : Bool) → ended ≡ dead_at leaf dead is_still → (waiting : List Waiting) → Same leaf dead (waits above is_still facts ∷ waiting) nodes waiting rest
  closes-same {leaf} {ended} (refuted above facts node rest limits r) dead is_still is waiting number =
      let h = refuting-unrefused leaf (dead_at leaf dead is_still) above facts node limits r in
      (number + 1, passed_on leaf dead above is_still facts waiting waiting node rest number h.0 (ap (λ cases. cases ++ waiting) (end_alone leaf dead above is_still facts node [] h.1 h.2)))
  closes-same {leaf} {ended} (by_cases above facts node nodes rest cases limits c each) dead is_still is waiting number =
      let c' = subst (λ there. cases_for leaf there facts node ≡ Some cases) is c in
      let h = dividing-unrefused leaf (dead_at leaf dead is_still) above facts node cases limits c' (each_fits each) in
      let later = each-same each dead is_still is waiting (number + 1) in
      (later.0, passed_on leaf dead above is_still facts waiting _ node nodes number h.0 (ap (λ below. below ++ waiting) (end_alone leaf dead above is_still facts node cases h.1 h.2)) ∙ later.1)
  closes-same {leaf} {ended} (by_first above facts set nodes between rest limits named entry each) dead is_still is waiting number =
      let h = entering-unrefused leaf (dead_at leaf dead is_still) above facts set limits named (each_fits each) (each_fits entry) in
      let early = cases_under (above + 1) true (before_entry leaf set facts) (cases_of_entry leaf set) in
      let after = cases_under (above + 1) is_still facts (cases_of_first leaf set) in
      let before = each-same entry dead true refl (after ++ waiting) (number + 1) in
      let later = each-same each dead is_still is waiting before.0 in
      (later.0, passed_on leaf dead above is_still facts waiting _ (First set) nodes number h (append_assoc early after waiting) ∙ before.1 ∙ later.1)

  each-same : {leaf ended : LeafModel} {above : ℕ} {facts : List Fact} {cases : List (List Fact)} {nodes rest : List Node} → ClosesEachFor leaf ended above facts cases nodes rest → (dead : LeafModel) (is_still : Bool) → ended ≡ dead_at leaf dead is_still → (waiting : List Waiting) → Same leaf dead (cases_under above is_still facts cases ++ waiting) nodes waiting rest
  each-same (no_case above facts rest) dead is_still is waiting number = (number, refl)
  each-same (next_case above facts own cases nodes between rest first others) dead is_still is waiting number =
      let here = closes-same first dead is_still is (cases_under above is_still facts cases ++ waiting) number in
      let later = each-same others dead is_still is waiting here.0 in
      (later.0, here.1 ∙ later.1)

-- ---- the whole tree

pub unrefused-ClosesFor : (leaf dead : LeafModel) (facts : List Fact) (nodes : List Node) → length facts ≤ 65536 → first_for leaf dead facts nodes ≡ None → ClosesFor leaf dead facts nodes []
unrefused-ClosesFor leaf dead facts nodes few e =
    let h = all_inverse (unrefused-closes leaf dead nodes (waits 0 false facts ∷ []) 0 (few, tt) e) in
    let none : h.0 ≡ [] = all_inverse h.2 in
    rw none at h.1

pub ClosesFor-unrefused : (leaf dead : LeafModel) (facts : List Fact) (nodes : List Node) → ClosesFor leaf dead facts nodes [] → first_for leaf dead facts nodes ≡ None
ClosesFor-unrefused leaf dead facts nodes h = (closes-same h dead false refl [] 0).1

pub unrefused-Closes : (leaf : LeafModel) (p : PredModel) (value : Bool) (nodes : List Node) → length (base_list leaf p value) ≤ 65536 → first_refused leaf p value nodes ≡ None → Closes leaf (base_list leaf p value) nodes []
unrefused-Closes leaf p value nodes few e = unrefused-ClosesFor leaf leaf (base_list leaf p value) nodes few e

pub Closes-unrefused : (leaf : LeafModel) (p : PredModel) (value : Bool) (nodes : List Node) → Closes leaf (base_list leaf p value) nodes [] → first_refused leaf p value nodes ≡ None
Closes-unrefused leaf p value nodes h = ClosesFor-unrefused leaf leaf (base_list leaf p value) nodes h
