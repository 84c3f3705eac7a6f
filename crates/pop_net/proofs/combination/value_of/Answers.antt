use Rattle.std.proofs.Common.{false, sym, ◌∙◌, ap, arith, length}
use Rattle.std.specs.Prelude.{Some}
use Rattle.pop_leaf.specs.declared.item.Item.TheVariants.{Leaf}
use Rattle.pop_leaf.specs.NetModel.{truth}
use Rattle.pop_net.proofs.Values.{no_value, valued_next}
use Rattle.pop_net.proofs.combination.value_of.Goals as goal

pub returns-in-None : goal.returns-in-None
returns-in-None c =
    sym (no_value (truth c.args.outputs.now) c.args.combine.now c.loop-item.item-index (Leaf 0) c.loop-item.values false c.loop-item-test.true c.loop-item.invariant c.in-None.ensures.found)

pub loop-item-preserved : goal.loop-item-preserved
loop-item-preserved c =
    valued_next (truth c.args.outputs.now) c.args.combine.now c.loop-item.item-index (Leaf 0) c.loop-item.values c.push.new.self c.loop-item-test.true c.loop-item.invariant
    (c.in-Some.ensures.found ∙ ap Some (sym c.push.ensures))
    (omega (arith, c.in-Some.ensures.fewer, ap length c.push.ensures))
