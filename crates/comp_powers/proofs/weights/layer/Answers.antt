use Rattle.std.proofs.Common.{Bool, ap, arith}
use Rattle.std.specs.Prelude.{◌==◌}
use Rattle.pop_leaf.specs.declared.leaf.Move.{Move}
use Rattle.comp_powers_leaf.specs.PowersLayers.{kind_at}
use Rattle.comp_trees.proofs.PlacesMore.{places_more}
use Rattle.std.proofs.lemmas.Grind.{common_steps}
use Rattle.comp_powers.proofs.MoveBelow.{move_below}
use Rattle.comp_powers.proofs.weights.layer.Goals as goal

pub loop-t-preserved : goal.loop-t-preserved
loop-t-preserved c =
    let test : Move → Bool = λ t. kind_at c.args.roles.now t == c.args.kind in
    places_more test c.args.leaf.now.moves c.loop-t.t c.move_at.result (c.kind_in.result == c.args.kind) c.loop-t.moves.items c.push_if.new.numbers.items c.move_at.ensures (ap (λ k. k == c.args.kind) c.kind_in.ensures) c.loop-t.invariant c.in_ok-push_if.ensures

pub returns : goal.returns
returns c = grind (arith, common_steps)

pub kind_in-requires-clause-first : goal.kind_in-requires-clause-first
kind_in-requires-clause-first c =
    let below = move_below c.args.leaf.now c.loop-t.t c.move_at.result c.state_count-states.ensures.formed c.move_at.ensures in
    omega (arith, below.0, c.requires)

pub kind_in-requires-clause-second : goal.kind_in-requires-clause-second
kind_in-requires-clause-second c =
    let below = move_below c.args.leaf.now c.loop-t.t c.move_at.result c.state_count-states.ensures.formed c.move_at.ensures in
    omega (arith, below.1, c.requires)
