-- The outputs of a fair execution come to rest if its crowds can always be led into a goal; the terminal crowds are one.
use Rattle.std.proofs.Common.{◌≡◌, ℕ, zero, suc, ◌+◌, ◌-◌, ◌≤◌, List, [], ◌∷◌, length, sym, subst, arith}
use Rattle.std.specs.Prelude.{All}
use Rattle.std.specs.List.Sorted.{IsPermutation}
use Rattle.std.proofs.lemmas.List.Sorted.{IsPermutation-refl, IsPermutation-trans, All-permutation}
use Rattle.pres_ast.specs.PredTree.{PredTree}
use Rattle.pres_ast.specs.PredicateValue.{predicate_value}
use Rattle.pop_leaf.specs.NetModel.{NetModel, Tuple, CrowdModel, IsTuple, number_of_helpers}
use Rattle.pop_leaf.specs.InputCrowd.{IsInput, input_crowd}
use Rattle.pop_leaf.specs.Step.{TupleChange, Meets, Step}
use Rattle.pop_leaf.specs.Reachable.{Leads, Reachable}
use Rattle.pop_leaf.specs.Terminal.{IsTerminal}
use Rattle.pop_net.proofs.Permutations.{terminal_permuted}
use Rattle.theory_fair.specs.Executions.{IsExecution, IsFair}
use Rattle.theory_fair.specs.StablyComputes.{IsSameMap, IsSameMultiset, MultisetStep, Reacts}
use Rattle.theory_fair.specs.Synchronous.{AllReact}
use Rattle.theory_fair.specs.Laws.{AlwaysEndsRight}
use Rattle.theory_fair.specs.OutputStable.{IsOutputStableFrom, OutputsStabilise, StablyOutputs, IsGoal, GoalsStabilise, SilentOutputsStabilise}
use Rattle.theory_fair.proofs.Reached.{AreChanges, to_step, reached_from, way_to, Stands, AlwaysLeads, reached_along, agents_tuples, agents_come, multisets_tuples, multisets_come, reacts_changes}
use Rattle.theory_fair.proofs.Stable.{right_at}
use Rattle.theory_fair.proofs.Synchronous.{react_changes}

module _ (net : NetModel) (tree : PredTree) (Change : Tuple → Tuple → Tuple → Tuple → Type 0) (changes : AreChanges net Change) where
  module _ (Goal : List ℕ → CrowdModel → Type 0) (goal : IsGoal (Meets Change) net tree Goal) (counts : List ℕ) (input : IsInput (length net.variables) (number_of_helpers net) counts) where
    leads_to_goal : AlwaysLeads net Change changes counts (Goal counts)
    leads_to_goal c r = goal.reached counts c input (way_to net Change changes counts c r)

    kept_along : (c : CrowdModel) (path : List CrowdModel) (d : CrowdModel) → Goal counts c → Leads (Step net) c path d → Goal counts d
    kept_along c [] d g way = subst (Goal counts) (sym way) g
    kept_along c (next ∷ path) d g way = kept_along next path d (goal.closed counts c next g way.0) way.1

    -- a step between multisets keeps it as well
    kept_by : (c d : CrowdModel) → All (IsTuple net) c → Goal counts c → MultisetStep (Meets Change) c d → Goal counts d
    kept_by c d tuples g s =
        let before = goal.unordered counts c s.before g s.starts in
        let step = to_step net Change changes s.before s.after (All-permutation (IsTuple net) c s.before s.starts tuples) s.step in
        goal.unordered counts s.after d (goal.closed counts s.before s.after before step) s.ends

    stable_once : (e : ℕ → CrowdModel) (i : ℕ) → ((m : ℕ) → Goal counts (e (i + m))) → IsOutputStableFrom net (predicate_value tree counts) e i
    stable_once e i kept j later l way =
        let here : Goal counts (e j) = subst (λ k. Goal counts (e k)) (let k : i + (j - i) ≡ j = omega (arith, l) in k) (kept (j - i)) in
        goal.right counts later (kept_along (e j) way.0 later here way.1)

    module _ (e : ℕ → CrowdModel) where
      -- once in the goal, in it for ever
      kept_on : (i : ℕ) → ((m : ℕ) → Goal counts (e (i + m)) → Goal counts (e ((i + m) + 1))) → Goal counts (e i) → (m : ℕ) → Goal counts (e (i + m))
      kept_on i next g zero = subst (λ k. Goal counts (e k)) (let k : i ≡ i + 0 = omega arith in k) g
      kept_on i next g (suc m) =
          subst (λ k. Goal counts (e k)) (let k : (i + m) + 1 ≡ i + suc m = omega arith in k) (next m (kept_on i next g m))

      agents_rest : IsSameMap (input_crowd net counts) (e 0) → IsExecution (Meets Change) e → IsFair IsSameMap (Meets Change) e → OutputsStabilise net (predicate_value tree counts) e
      agents_rest start run fair never =
          agents_come net Change changes counts e start run (Goal counts) leads_to_goal fair
          (λ j g. never j (stable_once e j (kept_on j (λ m at. goal.closed counts (e (j + m)) (e ((j + m) + 1)) at
          (to_step net Change changes (e (j + m)) (e ((j + m) + 1)) (agents_tuples net Change changes counts e start run (j + m)) (run (j + m)))) g)))

      multisets_rest : IsSameMultiset (input_crowd net counts) (e 0) → IsExecution (MultisetStep (Meets Change)) e → IsFair IsSameMultiset (MultisetStep (Meets Change)) e → OutputsStabilise net (predicate_value tree counts) e
      multisets_rest start run fair never =
          multisets_come net Change changes counts e start run (Goal counts) leads_to_goal (goal.unordered counts) fair
          (λ j g. never j (stable_once e j (kept_on j (λ m at. kept_by (e (j + m)) (e ((j + m) + 1)) (multisets_tuples net Change changes counts e start run (j + m)) at (run (j + m))) g)))

  pub outputs_stabilise : (Goal : List ℕ → CrowdModel → Type 0) → IsGoal (Meets Change) net tree Goal → StablyOutputs (Meets Change) net tree
  outputs_stabilise Goal goal =
      record {
        of_maps = λ counts e input run fair. agents_rest Goal goal counts input e run.0 run.1 fair;
        of_multisets = λ counts e input run fair. multisets_rest Goal goal counts input e run.0 run.1 fair;
      }

  -- the terminal crowds on the way from an input, in whatever order
  record SilentGoal (counts : List ℕ) (crowd : CrowdModel) : Type 0 where
    input : IsInput (length net.variables) (number_of_helpers net) counts
    terminal : IsTerminal (Step net) crowd
    stands : Stands net Change changes counts crowd

  silent_goal : AlwaysEndsRight (Meets Change) net tree → IsGoal (Meets Change) net tree SilentGoal
  silent_goal ends =
      record {
        reached = λ counts crowd input r.
            let to = (ends counts crowd input r).ends in
            let there = reached_along net Change changes counts crowd to.2.0 to.0 (reached_from net Change changes counts crowd r) to.2.1 in
            (to.0, record { input = input; terminal = to.1; stands = (to.0, there, IsPermutation-refl to.0) }, to.2);
        closed = λ counts before after g s. subst (SilentGoal counts) (sym (g.terminal after s)) g;
        right = λ counts crowd g. right_at net tree Change changes counts (λ c r. ends counts c g.input r) crowd g.stands g.terminal;
        unordered = λ counts crowd other g order.
            record {
              input = g.input;
              terminal = terminal_permuted (TupleChange net) crowd other g.terminal order;
              stands = (g.stands.0, g.stands.1, IsPermutation-trans g.stands.0 crowd other g.stands.2 order);
            };
      }

  -- so the outputs of a net that always ends right come to rest
  silent_stabilise : AlwaysEndsRight (Meets Change) net tree → StablyOutputs (Meets Change) net tree
  silent_stabilise ends = outputs_stabilise SilentGoal (silent_goal ends)

pub goals_are_stable : (Goal : List ℕ → CrowdModel → Type 0) → GoalsStabilise Goal
goals_are_stable Goal = record {
  steps = λ net tree goal. outputs_stabilise net tree (TupleChange net) (λ x y x' y' hx hy c. c) Goal goal;
  meetings = λ net tree goal. outputs_stabilise net tree (Reacts net) (reacts_changes net) Goal goal;
  synchronous = λ net tree goal. outputs_stabilise net tree (AllReact net) (react_changes net) Goal goal;
}

pub silent_are_stable : SilentOutputsStabilise
silent_are_stable = record {
  steps = λ net tree ends. silent_stabilise net tree (TupleChange net) (λ x y x' y' hx hy c. c) ends;
  meetings = λ net tree ends. silent_stabilise net tree (Reacts net) (reacts_changes net) ends;
  synchronous = λ net tree ends. silent_stabilise net tree (AllReact net) (react_changes net) ends;
}
