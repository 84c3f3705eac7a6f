use Rattle.std.proofs.Common.{◌≡◌, ℕ, List, Result, Ok, Err, refl, sym, subst, rules}
use Rattle.base_lines.specs.Lines.{lines_of}
use Rattle.tool_texts.specs.declared.refusal.Refusal.{Refusal}
use Rattle.tool_texts.specs.declared.output.Output.{Output}
use Rattle.tool_texts.specs.Steps.{After, MayStop}
use Rattle.tool_texts.proofs.Goes.{obeys_wider, may_stop}
use Rattle.cert_json.specs.declared.stable.StableBundle.{StableBundle}
use Rattle.tool_bundles.specs.Bundles.{IsBegunBy}
use Rattle.tool_proofs.specs.Settle.{OfBegun, OfLines, SettleGives}
use Rattle.tool_proofs.proofs.settle.settle_input.Goals as goal

-- what is given for the two lines is given for the lines
for_lines : (found : List ℕ × List ℕ) (step : Result (List ℕ × List ℕ) Refusal) (given : Result Output Refusal) → step ≡ Ok found → OfLines found given → After step OfLines given
for_lines found step given is of = subst (λ (r : Result (List ℕ × List ℕ) Refusal). After r OfLines given) (sym is) of

pub returns : goal.returns
returns c =
    let lines = c.in_ok-lines.lines in
    let begin : StableBundle × List ℕ = (c.in_ok-bundle.bundle, c.in_ok-bundle.start.counts) in
    obeys_wider (OfBegun begin.0 begin.1) (SettleGives (lines_of c.args.input.now))
    (λ given of. for_lines (lines.0.now, lines.1.now) _ given c.in_ok-lines.ensures (Ok begin, c.in_ok-bundle.ensures.begun, of)) _ c.settle_begun.result (rw c.as_slice.ensures at c.settle_begun.ensures)

pub returns-in_err-bundle : goal.returns-in_err-bundle
returns-in_err-bundle c =
    let lines = c.in_ok-lines.lines in
    let stopped : MayStop (SettleGives (lines_of c.args.input.now)) c.in_err-bundle.field-0.0 =
    may_stop (IsBegunBy lines.0.now lines.1.now) (SettleGives (lines_of c.args.input.now))
    (λ r is. for_lines (lines.0.now, lines.1.now) _ (Err r) c.in_ok-lines.ensures (Err r, is, refl)) _ c.in_err-bundle.ensures.begun in
    search rules
