use Rattle.std.proofs.Common.{ap, ◌∙◌, ℕ}
use Rattle.std.specs.Prelude.{option_map}
use Rattle.base_json.specs.Shapes.{last_of}
use Rattle.cert_json.proofs.Sets
use Rattle.cert_json.proofs.Lasts.{last_of_all}
use Rattle.cert_json.proofs.terms.last_state.Goals as goal

pub returns-in-Some : goal.returns-in-Some
returns-in-Some c =
    rw c.from.ensures (ap (option_map (λ (n : ℕ). n)) c.in-Some.ensures.value ∙ last_of_all (λ (n : ℕ). n) c.args.found.now ∙ ap last_of (Sets.map_same c.args.found.now))
