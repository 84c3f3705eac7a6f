use Rattle.std.proofs.Common.{◌≡◌, ℕ, List, Result, Ok, Err, refl, sym, subst, rules}
use Rattle.base_lines.specs.Lines.{lines_of}
use Rattle.run_spec.specs.declared.kind.RunKind.{RunKind}
use Rattle.cert_json.specs.declared.stable.StableBundle.{StableBundle}
use Rattle.tool_texts.specs.declared.refusal.Refusal.{Refusal}
use Rattle.tool_texts.specs.declared.output.Output.{Output}
use Rattle.tool_texts.specs.Steps.{After, MayStop}
use Rattle.tool_texts.proofs.Goes.{obeys_wider, may_stop}
use Rattle.tool_bundles.specs.Bundles.{IsBegunBy}
use Rattle.tool_replays.specs.Replay.{OfBegun, OfLines, ReplayGives}
use Rattle.tool_replays.proofs.replay.replay_input.Goals as goal

abbrev Three : Type 0
Three = List ℕ × List ℕ × List (List ℕ)

-- what is given for the two lines and the journal is given for the lines
for_lines : (kind : RunKind) (found : Three) (step : Result Three Refusal) (given : Result Output Refusal) → step ≡ Ok found → OfLines kind found given → After step (OfLines kind) given
for_lines kind found step given is of = subst (λ (r : Result Three Refusal). After r (OfLines kind) given) (sym is) of

pub returns : goal.returns
returns c =
    let found : Three = (c.in_ok-first.first.now, c.in_ok-first.second.now, lines_of c.in_ok-first.text.now) in
    let begin : StableBundle × List ℕ = (c.in_ok-bundle.bundle, c.in_ok-bundle.start.counts) in
    obeys_wider (OfBegun c.args.kind found.2 begin) (ReplayGives c.args.kind (lines_of c.args.input.now))
    (λ given of. for_lines c.args.kind found _ given c.in_ok-first.ensures.lines (Ok begin, c.in_ok-bundle.ensures.begun, of)) _ c.replay_begun.result c.replay_begun.ensures

pub returns-in_err-bundle : goal.returns-in_err-bundle
returns-in_err-bundle c =
    let found : Three = (c.in_ok-first.first.now, c.in_ok-first.second.now, lines_of c.in_ok-first.text.now) in
    let stopped : MayStop (ReplayGives c.args.kind (lines_of c.args.input.now)) c.in_err-bundle.field-0.0 =
    may_stop (IsBegunBy found.0 found.1) (ReplayGives c.args.kind (lines_of c.args.input.now))
    (λ r is. for_lines c.args.kind found _ (Err r) c.in_ok-first.ensures.lines (Err r, is, refl)) _ c.in_err-bundle.ensures.begun in
    search rules
