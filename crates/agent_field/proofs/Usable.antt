-- A token is as usable after a step as it was before.
use Rattle.std.proofs.Common.{◌≡◌, ap, ◌∙◌}
use Rattle.agent_field.specs.declared.field.Field.{Field}
use Rattle.agent_field.specs.declared.view.View.{View}
use Rattle.agent_field.specs.Steps.{Mine}
use Rattle.agent_field.specs.Tokens.{SeatToken, IsUsable, Becomes}

pub still_usable : (f : Field) (t u : SeatToken) (v : View) → IsUsable f t → Becomes t u v → v.live ≡ t.me.0.live → v.setup ≡ t.me.0.setup → IsUsable f u
still_usable f t u v was step live setup = record {
  table = step.table ∙ was.table;
  live = ap (λ (m : Mine). m.0.live) step.me ∙ live ∙ was.live;
  ours = ap (λ (m : Mine). m.0.setup) step.me ∙ setup ∙ was.ours;
}
