use Rattle.std.proofs.Common.{◌≡◌, drop}
use Rattle.cert_tree.specs.Refusals.{first_for, first_from}
use Rattle.cert_tree.specs.Walks.{waiting, IsSound}
use Rattle.cert_tree.proofs.tree.walk_nodes.Given as goal

abbrev pub invariant-loop-number : goal.invariant-loop-number
invariant-loop-number l = record {
  sound : IsSound l.walk;
  same : first_for l.leaf l.dead l.fn.facts l.nodes ≡ first_from l.leaf l.dead (waiting l.walk) l.number (drop l.number l.nodes);
}
