use Rattle.pop_leaf.specs.NetModel.{truth}
use Rattle.pop_net.proofs.Values.{Valued}
use Rattle.pop_net.proofs.combination.value_of.Given as goal

abbrev pub invariant-loop-item : goal.invariant-loop-item
invariant-loop-item l = Valued (truth l.outputs) l.combine l.item-index l.values
