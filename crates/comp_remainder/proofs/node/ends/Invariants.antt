use Rattle.std.proofs.Common.{◌≡◌, map}
use Rattle.std.specs.List.{range_with_len}
use Rattle.comp_remainder.specs.RemainderProof.{remainder_leader_node}
use Rattle.comp_remainder.proofs.node.ends.Given as goal

abbrev pub invariant-loop-p : goal.invariant-loop-p
invariant-loop-p l = l.nodes.items ≡ map (remainder_leader_node l.leaf l.modulus.number l.rest l.answer) (range_with_len 0 l.p)
