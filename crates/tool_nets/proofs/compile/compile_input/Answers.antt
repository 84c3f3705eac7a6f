use Rattle.std.proofs.Common.{List, ℕ, Result, sym, subst}
use Rattle.pres_ast.specs.PredModel.{PredModel}
use Rattle.tool_texts.specs.declared.refusal.Refusal.{Refusal}
use Rattle.tool_texts.specs.declared.output.Output.{Output}
use Rattle.tool_texts.specs.Steps.{After, Obeys}
use Rattle.tool_nets.specs.Compile.{OfAsked}
use Rattle.tool_nets.proofs.compile.compile_input.Goals as goal

pub returns : goal.returns
returns c =
    subst (λ (s : Result (List (List ℕ) × PredModel) Refusal). Obeys (After s (OfAsked c.args.choice)) (λ (o : Output). o) c.compile_asked.result) (sym c.in_ok-names.ensures.asked) c.compile_asked.ensures
