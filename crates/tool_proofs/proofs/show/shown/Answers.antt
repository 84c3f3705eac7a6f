use Rattle.std.proofs.Common.{◌≡◌, ℕ, List, ◌++◌, Result, Ok, ap, ◌∙◌}
use Rattle.cert_show.specs.Lines.{text_of}
use Rattle.cert_show.specs.Shown.{shown_of}
use Rattle.tool_texts.specs.declared.refusal.Refusal.{Refusal}
use Rattle.tool_texts.specs.declared.output.Output.{Output}
use Rattle.tool_texts.specs.declared.output.Ending.TheVariants.{Done}
use Rattle.tool_proofs.proofs.Shown.{showable}
use Rattle.tool_proofs.proofs.show.shown.Goals as goal

pub push_shown-requires-clause-proof : goal.push_shown-requires-clause-proof
push_shown-requires-clause-proof c =
    let bundle = c.args.bundle.now in
    showable bundle.net bundle.pred bundle.proof c.leaf_count-formed.ensures.formed c.requires.valid c.requires.limits.within

pub returns : goal.returns
returns c =
    let text = c.in_ok-text.text in
    (text.items, c.in_ok-text.ensures, ap (λ (o : Output). (let made : Result Output Refusal = Ok o in made)) (c.new.ensures ∙ ap (λ (t : List ℕ). (let o : Output = record { text = t; ending = Done } in o)) c.in_ok-push_shown.ensures))
