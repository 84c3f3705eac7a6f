-- Without an end that has an agent outside each set, each end has all agents in one of them.
use Rattle.std.proofs.Common.{◌≡◌, ◌⊎◌, inl, inr, ℕ, suc, Bool, true, false, List, [], ◌∷◌, refl, subst}
use Rattle.std.specs.Prelude.{All, Contains, ◌==◌}
use Rattle.std.proofs.lemmas.Bool.{cases_Bool, eqb-true}
use Rattle.std.proofs.lemmas.List.Elements.{All-nil, All-cons}
use Rattle.pres_ast.specs.PredTree.{PredTree}
use Rattle.pop_leaf.specs.LeafModel.{LeafModel}
use Rattle.pop_leaf.specs.InputCrowd.{leaf_input_crowd}
use Rattle.cert_base.specs.declared.fact.Fact.{Fact}
use Rattle.cert_base.specs.FactsAndCases.{is_in}
use Rattle.cert_base.specs.Valuation.{times_taken}
use Rattle.cert_base.specs.Ends.{IsEndFor}
use Rattle.cert_base.specs.GoalEnds.{IsWithin, IsWithinOne, EndsInside, HasOutside, HoldAtOutsideEnds}
use Rattle.cert_base.proofs.ListTests.{list_any-contains}
use Rattle.base_laws.proofs.Lists.{has_first, has_later}
use Rattle.cert_tree.specs.NoEnds.{NoneMeets}
use Rattle.cert_base.proofs.Executions.{count_for, execution_has}

listed : (set : List ℕ) (q : ℕ) → is_in set q ≡ true → Contains set q
listed set q e =
    let found = list_any-contains (λ r. r == q) set e in
    subst (λ k. Contains set k) (eqb-true found.0 q found.2) found.1

-- all agents are in the set, or one is outside
within_or : (set crowd : List ℕ) → IsWithin set crowd ⊎ HasOutside crowd set
within_or set [] = inl (All-nil (Contains set))
within_or set (q ∷ crowd) = by (cases_Bool (is_in set q)) (within_or set crowd)
  where
    by : (is_in set q ≡ true) ⊎ (is_in set q ≡ false) → IsWithin set crowd ⊎ HasOutside crowd set → IsWithin set (q ∷ crowd) ⊎ HasOutside (q ∷ crowd) set
    by (inr out) rest = inr (record { agent = 0; state = q; there = refl; outside = out })
    by (inl here) (inl all) = inl (All-cons (Contains set) q crowd (listed set q here) all)
    by (inl here) (inr h) =
        inr (record { agent = suc h.agent; state = h.state; there = h.there; outside = h.outside })

one_or : (sets : List (List ℕ)) (crowd : List ℕ) → IsWithinOne sets crowd ⊎ All (HasOutside crowd) sets
one_or [] crowd = inr (All-nil (HasOutside crowd))
one_or (set ∷ sets) crowd = by (within_or set crowd) (one_or sets crowd)
  where
    by : IsWithin set crowd ⊎ HasOutside crowd set → IsWithinOne sets crowd ⊎ All (HasOutside crowd) sets → IsWithinOne (set ∷ sets) crowd ⊎ All (HasOutside crowd) (set ∷ sets)
    by (inl all) rest = inl (record { set = set; listed = has_first set sets; within = all })
    by (inr out) (inl w) = inl (record { set = w.set; listed = has_later w.set set sets w.listed; within = w.within })
    by (inr out) (inr others) = inr (All-cons (HasOutside crowd) set sets out others)

pub none_inside : (leaf dead : LeafModel) (tree : PredTree) (value : Bool) (sets : List (List ℕ)) (facts : List Fact) → HoldAtOutsideEnds leaf tree value sets facts → NoneMeets leaf dead facts → EndsInside leaf dead tree value sets
none_inside leaf dead tree value sets facts met none counts end input has reached terminal = by (one_or sets end)
  where
    by : IsWithinOne sets end ⊎ All (HasOutside end) sets → IsWithinOne sets end
    by (inl w) = w
    by (inr out) =
        let count = count_for leaf counts end (λ t. times_taken leaf t (leaf_input_crowd leaf counts) reached.0 end reached.1) in
        let at : IsEndFor leaf dead count =
        record {
          counts = counts;
          path = reached.0;
          end = end;
          way = reached.1;
          input = input;
          terminal = terminal;
          execution = execution_has leaf counts reached.0 end reached.1;
        } in
        absurd (none count at (met dead count (record { reached = at; has_value = has; outside = out })))
