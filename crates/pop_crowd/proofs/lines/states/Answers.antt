use Rattle.std.proofs.Common.{[], ◌∷◌, ◌++◌, ap, sym, ◌∙◌, arith, take}
use Rattle.std.proofs.lemmas.List.{take_more, take_all}
use Rattle.pop_net.specs.Lanes.{tuple_of}
use Rattle.pop_net.proofs.Packing.{is_tuple}
use Rattle.pop_crowd.proofs.lines.states.Goals as goal

pub loop-leaf-preserved : goal.loop-leaf-preserved
loop-leaf-preserved c =
    let tuple = tuple_of c.args.net.now c.args.word in
    let long = is_tuple c.args.net.now c.args.word in
    c.in_ok-push.ensures.items ∙ ap (λ xs. xs ++ c.lane.result ∷ []) c.loop-leaf.invariant ∙ ap (λ x. take c.loop-leaf.leaf tuple ++ x ∷ []) c.lane.ensures.state ∙ sym (take_more tuple c.loop-leaf.leaf 0 (omega (arith, long)))

pub returns : goal.returns
returns c =
    let long = is_tuple c.args.net.now c.args.word in
    c.loop-leaf.invariant ∙ take_all c.loop-leaf.leaf (tuple_of c.args.net.now c.args.word) (omega (arith, long))
