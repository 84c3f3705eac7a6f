-- What `run` and `watch` make of the lines of their input: a bundle, of which leaves may have goals, and a crowd line.
use Rattle.std.specs.Prelude.{◌≡◌, ℕ, List, ◌++◌, Option, Some, None, Result, Ok}
use Rattle.base_lines.specs.Lines.{ended}
use Rattle.run_spec.specs.declared.kind.RunKind.{RunKind}
use Rattle.run_spec.specs.declared.spec.RunSpec.{RunSpec}
use Rattle.pop_checker.specs.declared.stable_fault.StableRejected.{StableRejected}
use Rattle.tool_texts.specs.declared.refusal.Refusal.{Refusal}
use Rattle.tool_texts.specs.declared.output.Output.{Output}
use Rattle.tool_texts.specs.Steps.{After}
use Rattle.tool_texts.specs.Lines.{just_two}
use Rattle.cert_json.specs.declared.stable.StableBundle.{StableBundle}
use Rattle.tool_bundles.specs.Bundles.{IsBegunBy}
use Rattle.tool_rejections.specs.Judged.{IsJudged}
use Rattle.tool_rejections.specs.Rejections.{rejection_output}
use Rattle.tool_courses.specs.Course.{course_of}
use Rattle.tool_courses.specs.RunOutput.{IsRunOutput}

-- a valid proof lets its net run
abbrev pub OfJudged : RunKind → RunSpec → List ℕ → StableBundle → List ℕ → Option StableRejected → Output → Type 0
OfJudged kind spec lines bundle counts None output =
    IsRunOutput kind spec lines (course_of bundle counts) counts output
OfJudged kind spec lines bundle counts (Some rejected) output = output ≡ rejection_output rejected

abbrev pub OfBegun : RunKind → RunSpec → List ℕ → StableBundle × List ℕ → Result Output Refusal → Type 0
OfBegun kind spec lines begin given =
    (judged : Option StableRejected) × (output : Output) × IsJudged begin.0 judged
    × OfJudged kind spec lines begin.0 begin.1 judged output × (given ≡ Ok output)

abbrev pub OfLines : RunKind → RunSpec → List ℕ × List ℕ → Result Output Refusal → Type 0
OfLines kind spec lines given =
    (begin : Result (StableBundle × List ℕ) Refusal) × IsBegunBy lines.0 lines.1 begin
    × After begin (OfBegun kind spec (ended lines.0 ++ ended lines.1)) given

-- what the command that makes a run of this kind gives for the lines of its input
abbrev pub RunGives : RunKind → RunSpec → List (List ℕ) → Result Output Refusal → Type 0
RunGives kind spec lines given = After (just_two lines) (OfLines kind spec) given
