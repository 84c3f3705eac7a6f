use Rattle.std.proofs.Common.{[], ◌∷◌, ◌++◌, take, ap, sym, ◌∙◌}
use Rattle.std.proofs.lemmas.List.{take_more}
use Rattle.std.proofs.lemmas.Option.{slice_get_within, get_or_from_slice_get}
use Rattle.pop_settle.proofs.walk.Walk.of_crowd.Goals as goal

pub loop-agent-preserved : goal.loop-agent-preserved
loop-agent-preserved c =
    let crowd = c.args.crowd.now in
    let within = slice_get_within crowd c.loop-agent.agent c.word.result c.word.ensures in
    c.in_ok-push.ensures.items
    ∙ ap (λ xs. xs ++ c.word.result ∷ []) c.loop-agent.invariant
    ∙ ap (λ w. take c.loop-agent.agent crowd ++ w ∷ []) (sym (get_or_from_slice_get crowd c.loop-agent.agent c.word.result c.word.result c.word.ensures))
    ∙ sym (take_more crowd c.loop-agent.agent c.word.result within)
