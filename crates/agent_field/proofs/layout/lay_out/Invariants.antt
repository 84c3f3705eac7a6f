use Rattle.std.proofs.Common.{◌≡◌, ◌+◌, ◌≤◌, ◌∷◌, length, map, min, replicate, take}
use Rattle.std.specs.Prelude.{vec_capacity}
use Rattle.pop_net.specs.declared.net.Word.{Word}
use Rattle.agent_field.specs.declared.places.TheConstants.{HEAD_WORDS}
use Rattle.agent_field.specs.Standing.{in_turns}
use Rattle.agent_field.proofs.layout.lay_out.Given as goal

abbrev pub invariant-loop-a : goal.invariant-loop-a
invariant-loop-a l = record {
  laid : l.all.items ≡ 0 ∷ 0 ∷ in_turns (replicate (min l.a l.shards) 0) (map (λ (w : Word). w.0) (take l.a l.words));
  count : length l.all.items ≡ HEAD_WORDS + min l.a l.shards + l.a;
  room : HEAD_WORDS + l.shards + length l.words ≤ vec_capacity l.all;
}
