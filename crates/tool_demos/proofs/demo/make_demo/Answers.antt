use Rattle.std.proofs.Common.{length, List, ℕ, ◌≤◌, ap, sym, subst, ◌∙◌, arith}
use Rattle.std.proofs.lemmas.List.{length-map}
use Rattle.pop_leaf.specs.NetModel.{CrowdModel}
use Rattle.pop_net.specs.Lanes.{crowd_of, tuple_of}
use Rattle.run_spec.specs.declared.spec.RunSpec.{RunSpec}
use Rattle.run_picks.specs.Run.{IsRun}
use Rattle.tool_bundles.proofs.InputSize.{length-input_crowd}
use Rattle.tool_demos.proofs.Changed.{run_small}
use Rattle.tool_courses.proofs.Ends.{run_last}
use Rattle.tool_demos.proofs.demo.make_demo.Goals as goal

pub case_output-requires-clause-run : goal.case_output-requires-clause-run
case_output-requires-clause-run g c =
    let case = c.args.demo.case in
    let net = case.checked.net in
    let crowd = c.args.demo.crowd in
    let spec = c.demo_run-spec.result in
    let input = c.requires.start in
    let start = crowd_of net crowd in
    let long = ap (length {A = List ℕ}) input.crowd ∙ length-input_crowd net case.counts in
    let two : 2 ≤ length start = omega (arith, long, input.input.two_agents) in
    let ran = c.in_ok-end.end in
    let end = crowd_of net ran.crowd in
    let is = rw c.net.ensures at c.in_ok-end.ensures in record {
      input = input.input;
      run = subst (λ (t : CrowdModel × RunSpec). IsRun net t.0 t.1 ran.rounds end) (λ i. (input.crowd i, c.demo_run-spec.ensures.run i)) is.run.run;
      last = run_last net end spec (length ran.rounds) ran.end is.run.ends;
      agents = is.run.agents ∙ sym (length-map crowd (tuple_of net)) ∙ ap (length {A = List ℕ}) input.crowd;
      few = run_small net start spec ran.rounds end two c.demo_run-spec.ensures.limits is.run.run;
    }
