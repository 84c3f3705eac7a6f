-- A command that makes a run doesn't end by a fault of reading.
use Rattle.std.proofs.Common.{ℕ, List, Option, Some, None, Result, Ok, sym, ap, subst, ◌∙◌}
use Rattle.run_spec.specs.declared.kind.RunKind.{RunKind}
use Rattle.run_spec.specs.declared.spec.RunSpec.{RunSpec}
use Rattle.pop_checker.specs.declared.stable_fault.StableRejected.{StableRejected}
use Rattle.tool_texts.specs.declared.refusal.Refusal.{Refusal}
use Rattle.tool_texts.specs.declared.output.Output.{Output}
use Rattle.tool_texts.specs.Lines.{just_two}
use Rattle.tool_texts.proofs.Goes.{after_keeps}
use Rattle.cert_json.specs.declared.stable.StableBundle.{StableBundle}
use Rattle.tool_bundles.proofs.OtherEndings.{IsOther, refused}
use Rattle.tool_courses.proofs.Endings.{run_ending_other}
use Rattle.tool_runs.specs.Run.{OfJudged, OfLines, RunGives}

judged_other : (kind : RunKind) (spec : RunSpec) (lines : List ℕ) (bundle : StableBundle) (counts : List ℕ) (judged : Option StableRejected) (output : Output) → OfJudged kind spec lines bundle counts judged output → IsOther (Ok output)
judged_other kind spec lines bundle counts None output is e = run_ending_other is.pair (sym is.ending ∙ e)
judged_other kind spec lines bundle counts (Some rejected) output is e = absurd (cc (ap (λ (o : Output). o.ending) is, e))

pub run_other : (kind : RunKind) (spec : RunSpec) (lines : List (List ℕ)) (given : Result Output Refusal) → RunGives kind spec lines given → IsOther given
run_other kind spec lines =
    after_keeps IsOther refused (just_two lines) (OfLines kind spec)
    (λ found given is. after_keeps IsOther refused is.0 _
    (λ begin given is. subst IsOther (sym is.4) (judged_other kind spec _ begin.0 begin.1 is.0 is.1 is.3)) given is.2)
