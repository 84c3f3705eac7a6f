use Rattle.std.proofs.Common.{◌≡◌, List, ℕ, ap, subst, ◌∙◌}
use Rattle.std.specs.Prelude.{IfOk}
use Rattle.pop_leaf.specs.LeafModel.{LeafModel}
use Rattle.pop_leaf.specs.Hushed.{hushed}
use Rattle.cert_base.specs.ValidLayers.{moves_of_layers}
use Rattle.cert_sets.proofs.goal_moves.kept_leaf.Goals as goal

pub returns-clause-kept : goal.returns-clause-kept
returns-clause-kept c =
    subst (λ (moves : List ℕ). IfOk c.hushed_leaf.result (λ (made : LeafModel). made ≡ hushed c.args.leaf.now moves))
    (c.as_slice-2.ensures.value ∙ c.in_ok-moves.ensures ∙ ap moves_of_layers c.as_slice.ensures)
    c.hushed_leaf.ensures
