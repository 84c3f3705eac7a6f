-- Where a run leads.
use Rattle.std.proofs.Common.{ℕ, ◌+◌, ◌≤◌, List, length, subst, arith}
use Rattle.std.specs.Prelude.{All, sum}
use Rattle.pop_leaf.specs.NetModel.{NetModel, CrowdModel, IsTuple, number_of_helpers}
use Rattle.pop_leaf.specs.InputCrowd.{input_crowd}
use Rattle.pop_leaf.specs.Step.{Step}
use Rattle.pop_leaf.specs.Reachable.{Reachable}
use Rattle.pop_net.proofs.Tuples.{input_tuples, reachable_tuples}
use Rattle.tool_bundles.proofs.InputSize.{length-input_crowd}
use Rattle.pop_crowd.specs.declared.crowd.Meeting.{Meeting}
use Rattle.pop_crowd.proofs.Reached.{replay_leads}
use Rattle.run_spec.specs.declared.kind.RunKind.{RunKind}
use Rattle.run_spec.specs.declared.spec.RunSpec.{RunSpec}
use Rattle.run_picks.specs.Run.{joined}
use Rattle.run_picks.specs.WatchedRun.{IsRunOfUntil}
use Rattle.pop_journal.proofs.RunKinds.{are_watched, is_watched_until, run_form_until}

module _ (rest net : NetModel) (counts : List ℕ) (two : 2 ≤ sum counts + number_of_helpers net) (kind : RunKind) (spec : RunSpec) (rounds : List (List Meeting)) (end : CrowdModel) (is : IsRunOfUntil kind rest net (input_crowd net counts) spec rounds end) where
  -- the last crowd is reached from the input crowd
  pub run_reaches : Reachable (Step net) (input_crowd net counts) end
  run_reaches =
      let start = input_crowd net counts in
      let long : 2 ≤ length start = omega (arith, two, length-input_crowd net counts) in
      let run = is_watched_until rest net start spec rounds end kind is in
      let form = are_watched spec (length start) rounds kind (run_form_until rest net start spec rounds end long kind is) in
      let r = replay_leads net (joined rounds) start (input_tuples net counts) form.meetings in
      subst (λ (c : CrowdModel). Reachable (Step net) start c) run.replays (r.0, r.2)

  pub run_tuples : All (IsTuple net) end
  run_tuples = reachable_tuples net (input_crowd net counts) end (input_tuples net counts) run_reaches
