use Rattle.std.proofs.Common.{◌≡◌, drop, length}
use Rattle.std.specs.Mem.Slots.{slots_items}
use Rattle.agent_field.specs.Layouts.{Serves, renewed}
use Rattle.agent_field.proofs.close.renew.Given as goal

abbrev pub invariant-loop-m : goal.invariant-loop-m
invariant-loop-m l = record {
  so_far : renewed l.shards (slots_items l.closed.words) (drop l.m-index l.meetings) l.words ≡ renewed l.shards (slots_items l.closed.words) l.meetings l.initial.words;
  count : length l.words ≡ length l.initial.words;
  serves : Serves l.layout l.words l.shards;
}
