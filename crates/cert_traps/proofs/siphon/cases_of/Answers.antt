use Rattle.std.proofs.Common.{◌∙◌, [], ◌∷◌, ap}
use Rattle.cert_traps.proofs.Lists.{three_cases}
use Rattle.cert_traps.proofs.siphon.cases_of.Goals as goal

pub returns : goal.returns
returns c =
    c.from_vec.ensures
    ∙ three_cases c.new-cases.result.items c.push.new.self.items c.push-2.new.self.items c.push-3.new.self.items c.in_ok-some_entered.field-0 c.in_ok-only.field-0 c.in_ok-none_inside.field-0 _ _ _
    c.new-cases.ensures.items c.in_ok-push.ensures.items c.in_ok-push-2.ensures.items c.in_ok-push-3.ensures.items
    c.in_ok-some_entered.ensures (c.in_ok-only.ensures ∙ ap (λ fact. fact ∷ []) c.in_ok-some_started.ensures) c.in_ok-none_inside.ensures
