use Rattle.std.proofs.Common.{◌≡◌, ◌++◌, ℕ, List, Result, Ok, Err, refl, sym, subst, rules}
use Rattle.base_lines.specs.Lines.{lines_of, ended}
use Rattle.run_spec.specs.declared.kind.RunKind.{RunKind}
use Rattle.run_spec.specs.declared.spec.RunSpec.{RunSpec}
use Rattle.cert_json.specs.declared.stable.StableBundle.{StableBundle}
use Rattle.tool_texts.specs.declared.refusal.Refusal.{Refusal}
use Rattle.tool_texts.specs.declared.output.Output.{Output}
use Rattle.tool_texts.specs.Steps.{After, MayStop}
use Rattle.tool_texts.proofs.Goes.{may_stop}
use Rattle.tool_bundles.specs.Bundles.{IsBegunBy}
use Rattle.tool_runs.specs.Run.{OfBegun, OfLines, RunGives}
use Rattle.tool_courses.proofs.Leads.{prepares_wider}
use Rattle.tool_runs.proofs.run.prepare_run.Goals as goal

-- what is given for the two lines is given for the lines
for_lines : (kind : RunKind) (spec : RunSpec) (found : List ℕ × List ℕ) (step : Result (List ℕ × List ℕ) Refusal) (given : Result Output Refusal) → step ≡ Ok found → OfLines kind spec found given → After step (OfLines kind spec) given
for_lines kind spec found step given is of = subst (λ (r : Result (List ℕ × List ℕ) Refusal). After r (OfLines kind spec) given) (sym is) of

pub returns-clause-leads : goal.returns-clause-leads
returns-clause-leads c =
    let lines = c.in_ok-lines.lines in
    let begin : StableBundle × List ℕ = (c.in_ok-bundle.bundle, c.in_ok-bundle.start.counts) in
    prepares_wider (OfBegun c.args.kind c.args.spec (ended lines.0.now ++ ended lines.1.now) begin) (RunGives c.args.kind c.args.spec (lines_of c.args.input.now))
    (λ given of. for_lines c.args.kind c.args.spec (lines.0.now, lines.1.now) _ given c.in_ok-lines.ensures (Ok begin, c.in_ok-bundle.ensures.begun, of)) c.prepare_begun.result c.prepare_begun.ensures.leads

pub returns-in_err-bundle-clause-leads : goal.returns-in_err-bundle-clause-leads
returns-in_err-bundle-clause-leads c =
    let lines = c.in_ok-lines.lines in
    let stopped : MayStop (RunGives c.args.kind c.args.spec (lines_of c.args.input.now)) c.in_err-bundle.field-0.0 =
    may_stop (IsBegunBy lines.0.now lines.1.now) (RunGives c.args.kind c.args.spec (lines_of c.args.input.now))
    (λ r is. for_lines c.args.kind c.args.spec (lines.0.now, lines.1.now) _ (Err r) c.in_ok-lines.ensures (Err r, is, refl)) _ c.in_err-bundle.ensures.begun in
    search rules
