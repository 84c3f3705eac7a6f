use Rattle.std.proofs.Common.{◌++◌, ◌∷◌, [], ◌∙◌, append_assoc, zero-add, ap, sym}
use Rattle.std.specs.List.{range_with_len}
use Rattle.std.proofs.lemmas.List.FromFn.{map-range_with_len_more}
use Rattle.cert_base.specs.declared.node.Node.TheVariants.{Present}
use Rattle.std.specs.Prelude.{map}
use Rattle.comp_trees.proofs.preorder.push_present.Goals as goal

pub loop-p-preserved : goal.loop-p-preserved
loop-p-preserved c =
    let old = c.args.nodes.now.items in
    let p = c.loop-p.p in
    c.in_ok-push.ensures.items
    ∙ ap (λ xs. xs ++ Present p ∷ []) c.loop-p.invariant
    ∙ append_assoc old (map Present (range_with_len 0 p)) (Present p ∷ [])
    ∙ ap (λ xs. old ++ xs) (sym (map-range_with_len_more Present 0 p p (zero-add p)))
