use Rattle.std.proofs.Common.{Bool, ap, arith}
use Rattle.std.specs.Prelude.{◌==◌}
use Rattle.pop_leaf.specs.declared.leaf.Move.{Move}
use Rattle.comp_trees.specs.SortedLayers.{leader_kind}
use Rattle.comp_trees.proofs.PlacesMore.{places_more}
use Rattle.std.proofs.lemmas.Grind.{common_steps}
use Rattle.comp_trees.proofs.sorting.layer.Goals as goal

pub loop-t-preserved : goal.loop-t-preserved
loop-t-preserved c =
    let test : Move → Bool = λ t. leader_kind c.args.leaders t == c.args.kind in
    places_more test c.args.leaf.now.moves c.loop-t.t c.move_at.result (c.kind_of.result == c.args.kind) c.loop-t.moves.items c.push_if.new.numbers.items c.move_at.ensures (ap (λ k. k == c.args.kind) c.kind_of.ensures) c.loop-t.invariant c.in_ok-push_if.ensures

pub returns : goal.returns
returns c = grind (arith, common_steps)
