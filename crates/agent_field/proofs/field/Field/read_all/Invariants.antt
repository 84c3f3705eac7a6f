use Rattle.std.proofs.Common.{◌≤◌}
use Rattle.std.specs.Prelude.{vec_capacity}
use Rattle.agent_field.specs.Tokens.{HasReadAll}
use Rattle.agent_field.proofs.field.Field.read_all.Given as goal

abbrev pub invariant-loop-a : goal.invariant-loop-a
invariant-loop-a l = record {
  read : HasReadAll l.a l.out.items l.initial.token l.token;
  room : l.self.agents ≤ vec_capacity l.out;
}
