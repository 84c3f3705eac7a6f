use Rattle.std.proofs.Common.{◌≡◌, take, length}
use Rattle.std.specs.Prelude.{IfSome, slice_get}
use Rattle.pop_net.specs.Lanes.{crowd_of}
use Rattle.pop_settle.specs.Settlement.{states_in}
use Rattle.pop_settle.specs.Groups.{AreGroups}
use Rattle.pop_settle.proofs.groups.Groups.of_leaf.Given as goal

abbrev pub invariant-loop-agent : goal.invariant-loop-agent
invariant-loop-agent l = record {
  grouped : AreGroups (states_in l.leaf (crowd_of l.net (take l.agent l.words))) l.groups.groups.items;
  count : IfSome (slice_get l.net.leaves l.leaf) (λ leaf. length l.groups.groups.items ≡ length leaf.states);
}
