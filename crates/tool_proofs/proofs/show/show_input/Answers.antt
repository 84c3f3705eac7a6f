use Rattle.std.proofs.Common.{◌≡◌, ℕ, List, Result, Ok, Err, refl, sym, subst, rules}
use Rattle.base_lines.specs.Lines.{lines_of}
use Rattle.tool_texts.specs.declared.refusal.Refusal.{Refusal}
use Rattle.tool_texts.specs.declared.output.Output.{Output}
use Rattle.tool_texts.specs.Steps.{After, MayStop}
use Rattle.tool_texts.proofs.Goes.{obeys_wider, may_stop}
use Rattle.tool_bundles.specs.Bundles.{IsBundleOf}
use Rattle.tool_proofs.specs.Show.{OfBundle, OfLine, ShowGives}
use Rattle.tool_proofs.proofs.show.show_input.Goals as goal

-- what is given for the one line is given for the lines
for_line : (line : List ℕ) (step : Result (List ℕ) Refusal) (given : Result Output Refusal) → step ≡ Ok line → OfLine line given → After step OfLine given
for_line line step given is of = subst (λ (r : Result (List ℕ) Refusal). After r OfLine given) (sym is) of

pub returns : goal.returns
returns c =
    obeys_wider (OfBundle c.in_ok-bundle.bundle) (ShowGives (lines_of c.args.input.now))
    (λ given of. for_line _ _ given c.in_ok-line.ensures (Ok c.in_ok-bundle.bundle, c.in_ok-bundle.ensures.bundle, of)) _ c.judge.result c.judge.ensures

pub returns-in_err-bundle : goal.returns-in_err-bundle
returns-in_err-bundle c =
    let stopped : MayStop (ShowGives (lines_of c.args.input.now)) c.in_err-bundle.field-0.0 =
    may_stop (IsBundleOf c.in_ok-line.line.now) (ShowGives (lines_of c.args.input.now))
    (λ r is. for_line _ _ (Err r) c.in_ok-line.ensures (Err r, is, refl)) _ c.in_err-bundle.ensures.bundle in
    search rules
