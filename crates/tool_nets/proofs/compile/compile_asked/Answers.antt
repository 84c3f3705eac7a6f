use Rattle.std.proofs.Common.{Result, Ok, refl, sym, subst}
use Rattle.tool_texts.specs.declared.refusal.Refusal.{Refusal}
use Rattle.tool_texts.specs.declared.output.Output.{Output}
use Rattle.tool_texts.specs.Steps.{After, Obeys}
use Rattle.tool_texts.proofs.Goes.{gives_obeys}
use Rattle.tool_nets.specs.Compile.{compiled_output, OfFitting}
use Rattle.tool_nets.proofs.compile.compile_asked.Goals as goal

pub returns : goal.returns
returns c =
    let bundle = c.in_ok-bundle.bundle in
    let rule = OfFitting c.args.choice c.args.names.now c.args.pred in
    let given : Obeys (rule tt) (λ (o : Output). o) c.output_of.result =
    gives_obeys (rule tt) (λ (o : Output). o) c.output_of.result (Ok (compiled_output bundle)) (bundle, c.in_ok-bundle.ensures.compiled, refl) c.output_of.ensures in
    subst (λ (s : Result (Unit {0}) Refusal). Obeys (After s rule) (λ (o : Output). o) c.output_of.result) (sym c.in_ok-bundle.ensures.fits) given
