use Rattle.std.proofs.Common.{◌++◌, ◌∷◌, [], ◌∙◌, ap, sym}
use Rattle.comp_trees.proofs.preorder.leader_set.Goals as goal
use Rattle.base_laws.proofs.Ranges.{range_one_more}

pub loop-p-preserved : goal.loop-p-preserved
loop-p-preserved c =
    c.in_ok-push.ensures.items ∙ ap (λ xs. xs ++ c.loop-p.p ∷ []) c.loop-p.invariant ∙ sym (range_one_more c.loop-p.p)
