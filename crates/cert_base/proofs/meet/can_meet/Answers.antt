use Rattle.std.proofs.Common.{◌∙◌, ap, sym}
use Rattle.std.specs.Prelude.{not, ◌==◌, ◌||◌, ℕ}
use Rattle.cert_base.proofs.Meetings.{meet-react}
use Rattle.cert_base.proofs.meet.can_meet.Goals as goal

pub returns : goal.returns
returns c =
    c.is_changed.ensures ∙ sym (meet-react c.args.leaf.now c.args.p c.args.q ∙ ap (λ (z : ℕ × ℕ). not (z.0 == c.args.p) || not (z.1 == c.args.q)) (sym c.react-r.ensures.reaction))
