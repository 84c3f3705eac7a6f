-- What holds of runs of a bundle whose proof is valid.
use Rattle.std.proofs.Common.{◌≡◌, ℕ, ◌≤◌, Bool, true, false, cond, List, length, None, Ok, refl, sym, ap, subst, arith}
use Rattle.std.specs.Prelude.{All}
use Rattle.pres_ast.specs.PredicateValue.{predicate_value}
use Rattle.pop_leaf.specs.NetModel.{Tuple, CrowdModel, IsTuple, number_of_helpers}
use Rattle.pop_leaf.specs.InputCrowd.{IsInput, input_crowd}
use Rattle.pop_leaf.specs.Step.{Step}
use Rattle.pop_leaf.specs.Reachable.{Reachable}
use Rattle.pop_leaf.specs.Terminal.{IsTerminal}
use Rattle.pop_crowd.specs.Replay.{replay}
use Rattle.pop_crowd.proofs.Reached.{length-replay}
use Rattle.pop_crowd.specs.Crowds.{input_size}
use Rattle.pop_crowd.specs.declared.crowd.Meeting.{Meeting}
use Rattle.pop_crowd.specs.declared.limits.TheConstants.{AGENT_LEAST, AGENT_LIMIT}
use Rattle.run_spec.specs.declared.kind.RunKind.{RunKind}
use Rattle.run_spec.specs.declared.spec.RunSpec.{RunSpec}
use Rattle.run_picks.specs.Run.{joined}
use Rattle.run_picks.specs.SameLanes.{HaveSameLanes}
use Rattle.run_picks.specs.WatchedRun.{IsRunOfUntil}
use Rattle.run_text.specs.declared.last.Last.{Last}
use Rattle.run_text.specs.declared.last.Last.TheVariants.{Verdict, Settled}
use Rattle.run_text.specs.declared.last.Outcome.TheVariants.{Agreed, Known}
use Rattle.run_text.specs.Ending.{common_output, quiet_ending, rest_ending, ending_until}
use Rattle.run_text.proofs.Looks.{common_some}
use Rattle.pop_journal.proofs.RunKinds.{is_watched_until}
use Rattle.pop_settle.specs.Chosen.{proof_at}
use Rattle.pop_settle.proofs.HushedLeaves.{states_listed}
use Rattle.cert_json.specs.declared.stable.StableBundle.{StableBundle}
use Rattle.pop_checker.specs.Silent.{is_silent}
use Rattle.pop_settle.specs.Resting.{resting_net}
use Rattle.tool_bundles.specs.Bundles.{IsBegunBy}
use Rattle.tool_rejections.specs.Judged.{IsJudged}
use Rattle.tool_courses.specs.Course.{Course, course_of}
use Rattle.tool_bundles.proofs.Begun.{begun_two, begun_few}
use Rattle.tool_bundles.proofs.InputSize.{length-input_crowd}
use Rattle.tool_courses.proofs.ProvedBundles.{same_leaves}
use Rattle.tool_courses.proofs.Ran.{run_reaches, run_tuples}
use Rattle.pop_tool.specs.Runs.{IsLastLine}
use Rattle.pop_tool.proofs.BundleInput.{bundle_input, begun_counts}
use Rattle.pop_tool.proofs.SilentBundles.{file_right}
use Rattle.pop_tool.proofs.LastLine.{is_last, only_last}

-- words mean the same in both nets of a course
pub course_lanes : (bundle : StableBundle) (counts : List ℕ) → HaveSameLanes (course_of bundle counts).rest (course_of bundle counts).net
course_lanes bundle counts = by_kind (is_silent bundle.proof)
  where
    by_kind : (b : Bool) → HaveSameLanes (cond b bundle.net (resting_net bundle.net bundle.proof counts)) bundle.net
    by_kind true = refl
    by_kind false = states_listed bundle.net.leaves (proof_at counts bundle.proof).leaves

module _ (first second : List ℕ) (bundle : StableBundle) (counts : List ℕ) (begins : IsBegunBy first second (Ok (bundle, counts))) where
  abbrev course : Course
  course = course_of bundle counts

  abbrev start : CrowdModel
  start = input_crowd course.net counts

  pub enough : AGENT_LEAST ≤ input_size course.net counts
  enough = begun_two begins.0 second bundle counts (sym begins.2)

  pub least_start : AGENT_LEAST ≤ length start
  least_start =
      let l = enough in
      let e = length-input_crowd course.net counts in omega (arith, l, e)

  pub most_start : length start ≤ AGENT_LIMIT
  most_start =
      let l = begun_few begins.0 second bundle counts (sym begins.2) in
      let e = length-input_crowd course.net counts in omega (arith, l, e)

  pub is_input : IsInput (length course.net.variables) (number_of_helpers course.net) counts
  is_input = begun_counts first second bundle counts begins

-- what is told of a crowd in which a run ends that leaves no pair
module _ (first second : List ℕ) (bundle : StableBundle) (counts : List ℕ) (begins : IsBegunBy first second (Ok (bundle, counts))) (valid : IsJudged bundle None) (end : CrowdModel) (some : 1 ≤ length end)
    (reached : Reachable (Step bundle.net) (input_crowd bundle.net counts) end) where
  abbrev truth : Bool
  truth = predicate_value bundle.pred.tree counts

  told_silent : is_silent bundle.proof ≡ true → IsTerminal (Step bundle.net) end → rest_ending Agreed (common_output bundle.net end) ≡ Verdict truth
  told_silent silent terminal =
      let input = bundle_input first second bundle counts begins in
      let right = ((file_right bundle silent input.value input.file valid).computes counts end (is_input first second bundle counts begins) reached).right terminal in
      ap quiet_ending (common_some bundle.net end truth some right)

  told_by_kind : (b : Bool) → is_silent bundle.proof ≡ b → IsTerminal (Step (cond b bundle.net (resting_net bundle.net bundle.proof counts))) end
      → rest_ending (cond b Agreed (Known truth)) (common_output bundle.net end) ≡ cond b (Verdict truth) (Settled truth)
  told_by_kind true silent terminal = told_silent silent terminal
  told_by_kind false goals terminal = refl

  pub told_at_rest : IsTerminal (Step (course_of bundle counts).rest) end
      → rest_ending (course_of bundle counts).outcome (common_output (course_of bundle counts).net end) ≡ (course_of bundle counts).told
  told_at_rest = told_by_kind (is_silent bundle.proof) refl

-- a run of its net from its input crowd
module _ (first second : List ℕ) (bundle : StableBundle) (counts : List ℕ) (begins : IsBegunBy first second (Ok (bundle, counts))) (valid : IsJudged bundle None)
    (kind : RunKind) (spec : RunSpec) (rounds : List (List Meeting)) (end : CrowdModel)
    (run : IsRunOfUntil kind (course_of bundle counts).rest (course_of bundle counts).net (input_crowd (course_of bundle counts).net counts) spec rounds end) where
  abbrev way : Course
  way = course_of bundle counts

  pub reached : Reachable (Step way.net) (input_crowd way.net counts) end
  reached = run_reaches way.rest way.net counts (enough first second bundle counts begins) kind spec rounds end run

  pub rest_tuples : All (IsTuple way.rest) end
  rest_tuples =
      subst (λ (n : ℕ). All (λ (t : Tuple). length t ≡ n) end) (sym (same_leaves bundle counts))
      (run_tuples way.rest way.net counts (enough first second bundle counts begins) kind spec rounds end run)

  some_agent : 1 ≤ length end
  some_agent =
      let begun = input_crowd way.net counts in
      let two = least_start first second bundle counts begins in
      let same : length (replay way.net (joined rounds) begun) ≡ length begun = length-replay way.net (joined rounds) begun in
      let ends : length (replay way.net (joined rounds) begun) ≡ length end = ap (length {A = Tuple}) (is_watched_until way.rest way.net begun spec rounds end kind run).replays in
      omega (arith, same, ends, two)

  told : IsTerminal (Step way.rest) end → rest_ending way.outcome (common_output way.net end) ≡ way.told
  told = told_at_rest first second bundle counts begins valid end some_agent reached

  pub run_ends : IsLastLine way.rest way.told end (ending_until way.rest way.outcome way.net end)
  run_ends = is_last way.rest way.net end rest_tuples way.outcome way.told told

  pub run_ends_only : (last : Last) → IsLastLine way.rest way.told end last → last ≡ ending_until way.rest way.outcome way.net end
  run_ends_only = only_last way.rest way.net end rest_tuples way.outcome way.told told
