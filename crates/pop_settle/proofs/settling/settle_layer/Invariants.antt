use Rattle.std.proofs.Common.{◌≡◌, length}
use Rattle.pop_net.specs.Lanes.{crowd_of}
use Rattle.pop_settle.specs.Settlement.{states_in}
use Rattle.pop_settle.specs.Groups.{AreGroups}
use Rattle.pop_settle.specs.Walks.{IsQuietBefore, WalksOn}
use Rattle.pop_settle.proofs.Fuel.{fuel}
use Rattle.pop_settle.proofs.settling.settle_layer.Given as goal

abbrev pub invariant-takes : goal.invariant-takes
invariant-takes l = record {
  walked : WalksOn l.by.net.now l.by.proof.now l.fn.walk l.walk;
  count : length l.groups.groups.items ≡ length l.fn.groups.groups.items;
  grouped : AreGroups (states_in l.place.leaf (crowd_of l.by.net.now l.walk.words.items)) l.groups.groups.items;
  quiet : IsQuietBefore l.by.net.now l.by.proof.now (crowd_of l.by.net.now l.walk.words.items) l.place.leaf l.place.number;
}

abbrev pub decreases-takes : goal.decreases-takes
decreases-takes l = fuel l.place.layer.now.weights (states_in l.place.leaf (crowd_of l.by.net.now l.walk.words.items))
