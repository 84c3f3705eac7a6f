use Rattle.std.proofs.Common.{◌≡◌, ◌++◌, ◌+◌, ◌-◌, map}
use Rattle.std.specs.List.{range_with_len}
use Rattle.cert_base.specs.declared.node.Node.TheVariants.{Present}
use Rattle.comp_flock.proofs.trees.push_present.Given as goal

abbrev pub invariant-loop-p : goal.invariant-loop-p
invariant-loop-p l = l.nodes.items ≡ l.fn.nodes.items ++ map Present (range_with_len (l.top + 1) (l.p - (l.top + 1)))
