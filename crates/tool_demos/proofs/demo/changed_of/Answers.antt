use Rattle.std.proofs.Common.{rules, ◌≡◌, ◌<◌, length, get_or, ap, ◌∙◌, arith}
use Rattle.std.specs.Prelude.{count_by}
use Rattle.pop_crowd.specs.declared.crowd.Meeting.{Meeting}
use Rattle.tool_demos.proofs.Changed.{changed_more, changed_small}
use Rattle.tool_demos.proofs.demo.changed_of.Goals as goal

pub overflow_add-total : goal.overflow_add-total
overflow_add-total c =
    let rounds = c.args.rounds.now in
    let i = c.loop-meetings.meetings-index in
    let less : i < length rounds = search rules in
    let here : c.changed_in.result ≡ count_by (λ (m : Meeting). m.changed) (get_or rounds i c.meetings-item.result) = c.changed_in.ensures.count ∙ ap (count_by (λ (m : Meeting). m.changed)) (c.as_slice.ensures ∙ c.meetings-item.is) in
    let more = changed_more rounds i c.meetings-item.result less in
    let small = changed_small rounds c.requires in omega (arith, here, more, small, c.loop-meetings.invariant)
