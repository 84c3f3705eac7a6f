-- A line has one JSON value, or none.
use Rattle.std.proofs.Common.{◌≡◌, ℕ, List, Option, Some, None, refl, sym, ◌∙◌}
use Rattle.serde_json.specs.Data.{Data}
use Rattle.tool_texts.specs.Json.{HasValue}

pub one_value : (line : List ℕ) (v w : Option Data) → HasValue line v → HasValue line w → v ≡ w
one_value line None None r s = refl
one_value line (Some d) (Some e) r s = sym r.1 ∙ s.1
one_value line None (Some e) r s = absurd (cc (r s.0, s.1))
one_value line (Some d) None r s = absurd (cc (s r.0, r.1))
