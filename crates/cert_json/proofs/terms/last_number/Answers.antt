use Rattle.std.proofs.Common.{ap, ◌∙◌}
use Rattle.std.specs.Prelude.{option_map}
use Rattle.cert_base.specs.declared.fact.Term.{Term}
use Rattle.cert_json.proofs.Lasts.{last_of_all}
use Rattle.cert_json.proofs.terms.last_number.Goals as goal

pub returns-in-Some : goal.returns-in-Some
returns-in-Some c = ap (option_map (λ (t : Term). t.at)) c.in-Some.ensures.value ∙ last_of_all (λ (t : Term). t.at) c.args.found.now
