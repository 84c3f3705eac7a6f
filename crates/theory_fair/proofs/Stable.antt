-- A fair execution becomes stable if its crowds can always be led to a right end.
use Rattle.std.proofs.Common.{◌≡◌, ℕ, zero, suc, ◌+◌, ◌-◌, ◌≤◌, List, ap, sym, subst, ◌∙◌, arith}
use Rattle.std.specs.Prelude.{All}
use Rattle.std.specs.List.Sorted.{IsPermutation}
use Rattle.std.proofs.lemmas.List.Sorted.{IsPermutation-refl, IsPermutation-sym, IsPermutation-trans, All-permutation}
use Rattle.pres_ast.specs.PredTree.{PredTree}
use Rattle.pres_ast.specs.PredicateValue.{predicate_value}
use Rattle.pop_leaf.specs.NetModel.{NetModel, Tuple, CrowdModel, IsTuple, number_of_helpers, output_of}
use Rattle.pop_leaf.specs.InputCrowd.{IsInput, input_crowd}
use Rattle.pop_leaf.specs.Step.{TupleChange, Meets, Step}
use Rattle.pop_leaf.specs.Reachable.{Reachable}
use Rattle.pop_leaf.specs.Terminal.{IsTerminal}
use Rattle.pop_net.proofs.Permutations.{terminal_permuted}
use Rattle.theory_fair.specs.Executions.{IsExecution, IsFair}
use Rattle.theory_fair.specs.StablyComputes.{IsExecutionFrom, IsStableFrom, Stabilises, IsSameMap, IsSameMultiset, MultisetStep, Reacts, StablyComputes}
use Rattle.theory_fair.specs.Laws.{EndsRight, AlwaysEndsRight, FairStepsStabilise, FairMeetingsStabilise, FairMapsAreFair, TerminalIsStable}
use Rattle.theory_fair.proofs.Reached.{AreChanges, to_step, IsReached, way_to, Stands, AlwaysLeads, reached, agents_tuples, agents_come, stands, multisets_tuples, multisets_come, maps_fair, between, reacts_changes}

module _ (net : NetModel) (tree : PredTree) (Change : Tuple → Tuple → Tuple → Tuple → Type 0) (changes : AreChanges net Change) where
  pub terminal_stays : (c d : CrowdModel) → All (IsTuple net) c → IsTerminal (Step net) c → Meets Change c d → d ≡ c
  terminal_stays c d tuples terminal s = terminal d (to_step net Change changes c d tuples s)

  -- a step between multisets leaves a terminal crowd unchanged, up to the order
  pub still : (c d : CrowdModel) → All (IsTuple net) c → IsTerminal (Step net) c → MultisetStep (Meets Change) c d → IsPermutation c d
  still c d tuples terminal s =
      let before = terminal_permuted (TupleChange net) c s.before terminal s.starts in
      let same = terminal_stays s.before s.after (All-permutation (IsTuple net) c s.before s.starts tuples) before s.step in
      IsPermutation-trans c s.before d s.starts (subst (λ x. IsPermutation x d) same s.ends)

  module _ (counts : List ℕ) (ends : (crowd : CrowdModel) → Reachable (Step net) (input_crowd net counts) crowd → EndsRight (Meets Change) net tree counts crowd) where
    pub ends_right : (c : CrowdModel) → IsReached net Change changes counts c → EndsRight (Meets Change) net tree counts c
    ends_right c r = ends c (way_to net Change changes counts c r)

    leads_to_end : AlwaysLeads net Change changes counts (IsTerminal (Step net))
    leads_to_end c r = let to = (ends_right c r).ends in (to.0, to.1, to.2)

    -- a terminal crowd on the way is right, in whatever order
    pub right_at : (d : CrowdModel) → Stands net Change changes counts d → IsTerminal (Step net) d → All (λ tuple. output_of net tuple ≡ predicate_value tree counts) d
    right_at d at terminal =
        All-permutation (λ tuple. output_of net tuple ≡ predicate_value tree counts) at.0 d at.2
        ((ends_right at.0 at.1).right (terminal_permuted (TupleChange net) d at.0 terminal (IsPermutation-sym at.0 d at.2)))

    module _ (e : ℕ → CrowdModel) where
      module _ (start : IsSameMap (input_crowd net counts) (e 0)) (run : IsExecution (Meets Change) e) where
        stays : (i : ℕ) → IsTerminal (Step net) (e i) → (m : ℕ) → e (i + m) ≡ e i
        stays i terminal zero = ap e (omega arith)
        stays i terminal (suc m) =
            let before = stays i terminal m in
            let at : IsTerminal (Step net) (e (i + m)) = subst (λ c. IsTerminal (Step net) c) (sym before) terminal in
            ap e (let k : i + suc m ≡ (i + m) + 1 = omega arith in k)
            ∙ terminal_stays (e (i + m)) (e ((i + m) + 1)) (agents_tuples net Change changes counts e start run (i + m)) at (run (i + m))
            ∙ before

        later : (i : ℕ) → IsTerminal (Step net) (e i) → (j : ℕ) → i ≤ j → e i ≡ e j
        later i terminal j l = sym (ap e (let k : j ≡ i + (j - i) = omega (arith, l) in k) ∙ stays i terminal (j - i))

        stable_at : (i : ℕ) → IsTerminal (Step net) (e i) → IsStableFrom IsSameMap net (predicate_value tree counts) e i
        stable_at i terminal =
            record {
              terminal = λ j l. subst (λ c. IsTerminal (Step net) c) (later i terminal j l) terminal;
              same = later i terminal;
              right = λ j l. (ends_right (e j) (reached net Change changes counts e start run j)).right (subst (λ c. IsTerminal (Step net) c) (later i terminal j l) terminal);
            }

        agents_stabilise : IsFair IsSameMap (Meets Change) e → Stabilises IsSameMap net (predicate_value tree counts) e
        agents_stabilise fair never =
            agents_come net Change changes counts e start run (IsTerminal (Step net)) leads_to_end fair (λ j terminal. never j (stable_at j terminal))

      module _ (start : IsSameMultiset (input_crowd net counts) (e 0)) (run : IsExecution (MultisetStep (Meets Change)) e) where
        remains : (i : ℕ) → IsTerminal (Step net) (e i) → (m : ℕ) → IsPermutation (e i) (e (i + m))
        remains i terminal zero = subst (λ k. IsPermutation (e i) (e k)) (let k : i ≡ i + 0 = omega arith in k) (IsPermutation-refl (e i))
        remains i terminal (suc m) =
            let before = remains i terminal m in
            subst (λ k. IsPermutation (e i) (e k)) (let k : (i + m) + 1 ≡ i + suc m = omega arith in k)
            (IsPermutation-trans (e i) (e (i + m)) (e ((i + m) + 1)) before
            (still (e (i + m)) (e ((i + m) + 1)) (multisets_tuples net Change changes counts e start run (i + m)) (terminal_permuted (TupleChange net) (e i) (e (i + m)) terminal before) (run (i + m))))

        after_it : (i : ℕ) → IsTerminal (Step net) (e i) → (j : ℕ) → i ≤ j → IsPermutation (e i) (e j)
        after_it i terminal j l =
            subst (λ k. IsPermutation (e i) (e k)) (let k : i + (j - i) ≡ j = omega (arith, l) in k) (remains i terminal (j - i))

        stable_from : (i : ℕ) → IsTerminal (Step net) (e i) → IsStableFrom IsSameMultiset net (predicate_value tree counts) e i
        stable_from i terminal =
            record {
              terminal = λ j l. terminal_permuted (TupleChange net) (e i) (e j) terminal (after_it i terminal j l);
              same = after_it i terminal;
              right = λ j l. right_at (e j) (stands net Change changes counts e start run j) (terminal_permuted (TupleChange net) (e i) (e j) terminal (after_it i terminal j l));
            }

        multisets_stabilise : IsFair IsSameMultiset (MultisetStep (Meets Change)) e → Stabilises IsSameMultiset net (predicate_value tree counts) e
        multisets_stabilise fair never =
            multisets_come net Change changes counts e start run (IsTerminal (Step net)) leads_to_end (terminal_permuted (TupleChange net)) fair (λ j terminal. never j (stable_from j terminal))

  -- if a right end can always be reached, every fair execution stabilises
  pub fairly : AlwaysEndsRight (Meets Change) net tree → StablyComputes (Meets Change) net tree
  fairly ends =
      record {
        of_maps = λ counts e input run fair. agents_stabilise counts (λ crowd r. ends counts crowd input r) e run.0 run.1 fair;
        of_multisets = λ counts e input run fair. multisets_stabilise counts (λ crowd r. ends counts crowd input r) e run.0 run.1 fair;
      }

  -- an execution that is fair for maps is fair for multisets, from whatever order of the input's agents
  pub maps_fairly : AlwaysEndsRight (Meets Change) net tree → FairMapsAreFair (Meets Change) net tree
  maps_fairly ends =
      record {
        fair = λ counts e input run fair. maps_fair net Change changes counts e run.0 (between e run.1) fair;
        stabilises = λ counts e input run fair. multisets_stabilise counts (λ crowd r. ends counts crowd input r) e run.0 (between e run.1) (maps_fair net Change changes counts e run.0 (between e run.1) fair);
      }

pub steps_compute : FairStepsStabilise
steps_compute net tree ends = fairly net tree (TupleChange net) (λ x y x' y' hx hy c. c) ends

pub meetings_compute : FairMeetingsStabilise
meetings_compute net tree ends = fairly net tree (Reacts net) (reacts_changes net) ends

pub terminal_stable : TerminalIsStable
terminal_stable net tree ends = (
  λ counts e input run. stable_at net tree (TupleChange net) (λ x y x' y' hx hy c. c) counts (λ crowd r. ends counts crowd input r) e run.0 run.1,
  λ counts e input run. stable_from net tree (TupleChange net) (λ x y x' y' hx hy c. c) counts (λ crowd r. ends counts crowd input r) e run.0 run.1,
)
