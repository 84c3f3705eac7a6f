-- If meetings lead a net that computes a predicate to its end, uniformly random ones do so almost surely.
use Rattle.std.proofs.Common.{◌≡◌, ℕ, ◌*◌, ◌≤◌, List, [], ◌∷◌, length, map, refl, sym, subst, arith}
use Rattle.std.proofs.lemmas.List.{length-map}
use Rattle.std.proofs.lemmas.List.Elements.{All-map}
use Rattle.pres_ast.specs.PredTree.{PredTree}
use Rattle.pop_leaf.specs.NetModel.{NetModel, CrowdModel, IsNet}
use Rattle.pop_leaf.specs.InputCrowd.{input_crowd}
use Rattle.pop_leaf.specs.Step.{TupleChange, Step}
use Rattle.pop_leaf.specs.Terminal.{IsTerminal}
use Rattle.pop_leaf.specs.Reaction.{after_meeting}
use Rattle.pop_net.proofs.Tuples.{leads_length, reachable_tuples, input_tuples}
use Rattle.pop_crowd.specs.declared.crowd.Meeting.{Meeting as Pair}
use Rattle.pop_crowd.specs.Replay.{replay}
use Rattle.theory_fair.proofs.Standing.{size_of_input}
use Rattle.theory_random.specs.UniformRuns.{after_run}
use Rattle.theory_random.specs.RandomMeetings.{meet}
use Rattle.theory_random.specs.ComputesAlmostSurely.{ComputesAlmostSurely}
use Rattle.theory_random.specs.Laws.{IsPair}
use Rattle.theory_random.proofs.AlmostSurely.{compute}
use Rattle.pop_checker.specs.Computes.{Computes, EndsByMeetings}
use Rattle.pop_checker.proofs.Fairness.{reached_states}

pair_of : Pair → ℕ × ℕ
pair_of m = (m.a, m.b)

after_pairs : (net : NetModel) (meetings : List Pair) (crowd : CrowdModel) → after_run (meet net) (map pair_of meetings) crowd ≡ replay net meetings crowd
unfolding pair_of
after_pairs net [] crowd = refl
after_pairs net (m ∷ meetings) crowd = after_pairs net meetings (after_meeting net m.a m.b crowd)

pub meetings_randomly : (net : NetModel) (tree : PredTree) (k : ℕ) → IsNet net → Computes net tree k → EndsByMeetings net k → ComputesAlmostSurely net tree k
unfolding pair_of
meetings_randomly net tree k is computes settles =
    compute net tree k
    (λ counts crowd input r.
    let size = leads_length (TupleChange net) (input_crowd net counts) r.0 crowd r.1 in
    let two : 2 ≤ length crowd = omega (arith, size, size_of_input net counts, input.two_agents) in
    let by = settles crowd two (reachable_tuples net (input_crowd net counts) crowd (input_tuples net counts) r) (reached_states net counts crowd is input r) in
    record {
      ends = (
        map pair_of by.0,
        All-map (IsPair (length crowd)) pair_of by.0 (λ i d l. let m = by.1 i d l in (m.different, m.first, m.second)),
        subst (λ n. n ≤ k * length crowd) (sym (length-map by.0 pair_of)) by.2,
        subst (λ c. IsTerminal (Step net) c) (sym (after_pairs net by.0 crowd)) by.3,
      );
      right = (computes counts crowd input r).right;
    })
