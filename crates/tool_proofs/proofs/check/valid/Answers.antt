use Rattle.std.proofs.Common.{◌≡◌, ℕ, List, Result, Ok, ap}
use Rattle.tool_texts.specs.declared.refusal.Refusal.{Refusal}
use Rattle.tool_texts.specs.declared.output.Output.{Output}
use Rattle.tool_proofs.proofs.check.valid.Goals as goal

pub returns : goal.returns
returns c = (c.in_ok-text.text.items, c.in_ok-text.ensures, ap (λ (o : Output). (let made : Result Output Refusal = Ok o in made)) c.new.ensures)
