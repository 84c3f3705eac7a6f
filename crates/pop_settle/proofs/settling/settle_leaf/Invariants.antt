use Rattle.std.proofs.Common.{◌≡◌, length}
use Rattle.std.specs.Prelude.{IfSome, slice_get}
use Rattle.pop_net.specs.Lanes.{crowd_of}
use Rattle.pop_settle.specs.Settlement.{states_in}
use Rattle.pop_settle.specs.Groups.{AreGroups}
use Rattle.pop_settle.specs.Walks.{IsQuietBefore, WalksOn}
use Rattle.pop_settle.proofs.settling.settle_leaf.Given as goal

abbrev pub invariant-loop-number : goal.invariant-loop-number
invariant-loop-number l = record {
  walked : WalksOn l.by.net.now l.by.proof.now l.fn.walk l.walk;
  count : IfSome (slice_get l.by.net.now.leaves l.leaf) (λ leaf. length l.groups.groups.items ≡ length leaf.states);
  grouped : AreGroups (states_in l.leaf (crowd_of l.by.net.now l.walk.words.items)) l.groups.groups.items;
  quiet : IsQuietBefore l.by.net.now l.by.proof.now (crowd_of l.by.net.now l.walk.words.items) l.leaf l.number;
}
