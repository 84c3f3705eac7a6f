use Rattle.std.proofs.Common.{◌≡◌, Ok, Some, None, Result, refl, ap, subst, ◌∙◌}
use Rattle.base_lines.specs.Lines.{lines_of}
use Rattle.pop_leaf.specs.NetModel.{CrowdModel}
use Rattle.pop_leaf.specs.InputCrowd.{input_crowd}
use Rattle.pop_net.specs.Lanes.{crowd_of}
use Rattle.tool_texts.specs.declared.refusal.Refusal.{Refusal}
use Rattle.tool_texts.specs.declared.output.Output.{Output}
use Rattle.tool_texts.specs.Steps.{GivesStep}
use Rattle.tool_texts.proofs.Goes.{gives_obeys}
use Rattle.tool_courses.specs.Course.{Course, course_of}
use Rattle.tool_courses.specs.Proved.{proved_net, proved_course}
use Rattle.tool_replays.specs.Replay.{replay_output, OfBegun}
use Rattle.tool_courses.proofs.ProvedBundles.{proved_start}
use Rattle.tool_replays.proofs.replay.replay_begun.Goals as goal

pub returns-in-Ok : goal.returns-in-Ok
returns-in-Ok c =
    let bundle = c.args.bundle in
    let counts = c.args.start.counts in
    let lines = lines_of c.args.text.now in
    let course = course_of bundle counts in
    let start = input_crowd course.net counts in
    let of = rw c.as_slice-counts.ensures at c.in-Ok.ensures.proved in
    let from = rw c.as_slice-counts.ensures at c.replay_from.ensures in
    let crowd : crowd_of (proved_net c.in-Ok.proved) c.args.start.crowd ≡ start =
    (proved_start bundle counts c.in-Ok.proved c.args.start of c.requires.start).crowd
    ∙ ap (λ (d : Course). input_crowd d.net counts) of.course in
    gives_obeys (OfBegun c.args.kind lines (bundle, counts)) (λ (o : Output). o) c.replay_from.result (replay_output c.args.kind course start lines)
    (None, of.valid, refl)
    (subst (λ (d : Course). GivesStep (λ (o : Output). o) c.replay_from.result (replay_output c.args.kind d start lines)) of.course
    (subst (λ (s : CrowdModel). GivesStep (λ (o : Output). o) c.replay_from.result (replay_output c.args.kind (proved_course c.in-Ok.proved counts) s lines)) crowd from))

pub returns-in-Err-Fault : goal.returns-in-Err-Fault
returns-in-Err-Fault c = (
  Some c.in-Err-Fault.rejected,
  rw c.in-Err-Fault.field-0-is at c.in-Err-Fault.ensures.fault,
  ap (λ (o : Output). (let made : Result Output Refusal = Ok o in made)) (rw c.in-Err-Fault.rejected-is at c.in_ok-rejection_output-in-Err-Fault.ensures),
)
