use Rattle.std.proofs.Common.{◌≡◌, [], length}
use Rattle.std.specs.Prelude.{All}
use Rattle.pop_settle.proofs.groups.Groups.empty.Given as goal

abbrev pub invariant-loop-state : goal.invariant-loop-state
invariant-loop-state l = record {
  count : length l.groups.items ≡ l._state;
  blank : All (λ group. group.keys ≡ []) l.groups.items;
}
