use Rattle.std.proofs.Common.{◌≡◌, ◌++◌, map, take}
use Rattle.cert_base.specs.declared.node.Node.TheVariants.{Twin}
use Rattle.comp_powers.proofs.trees.push_twins.Given as goal

abbrev pub invariant-loop-q : goal.invariant-loop-q
invariant-loop-q l = l.nodes.items ≡ l.fn.nodes.items ++ map Twin (take l.q-index l.places)
