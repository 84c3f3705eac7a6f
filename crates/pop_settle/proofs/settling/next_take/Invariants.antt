use Rattle.std.proofs.Common.{◌≡◌, ℕ, ◌-◌, ◌<◌, List, length}
use Rattle.pop_settle.specs.Groups.{AreGroups}
use Rattle.pop_settle.specs.Search.{IsIdle}
use Rattle.pop_settle.proofs.settling.next_take.Given as goal

abbrev pub invariant-places : goal.invariant-places
invariant-places l = record {
  count : length l.groups.groups.items ≡ length l.fn.groups.groups.items;
  idle : (states : List ℕ) → AreGroups states l.fn.groups.groups.items → AreGroups states l.groups.groups.items × ((k : ℕ) → k < l.place → IsIdle l.list.leaf.now l.list.moves.now states k);
}

abbrev pub decreases-places : goal.decreases-places
decreases-places l = length l.list.moves.now - l.place
