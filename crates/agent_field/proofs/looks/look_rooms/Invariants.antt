use Rattle.std.proofs.Common.{◌≡◌, ◌≤◌, [], length}
use Rattle.std.specs.Prelude.{All, vec_capacity}
use Rattle.agent_field.proofs.looks.look_rooms.Given as goal

abbrev pub invariant-loop : goal.invariant-loop
invariant-loop l = record {
  count : length l.rooms.items ≡ l.counter;
  rooms : All (λ room. (room.items ≡ []) × (l.agents ≤ vec_capacity room)) l.rooms.items;
}
