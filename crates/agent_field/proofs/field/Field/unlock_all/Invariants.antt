use Rattle.std.proofs.Common.{◌≡◌, ◌<◌, ℕ, List, []}
use Rattle.pop_net.specs.declared.net.Word.{Word}
use Rattle.agent_field.specs.Steps.{below, with_known, with_locks}
use Rattle.agent_field.specs.Tokens.{Becomes}
use Rattle.agent_field.proofs.field.Field.unlock_all.Given as goal

abbrev pub invariant-loop-s : goal.invariant-loop-s
invariant-loop-s l = record {
  known : List (ℕ × Word);
  freed : Becomes l.initial.token l.token (with_known known (with_locks (below l.s) l.initial.token.me.0));
  forgot : l.s < l.self.shards → known ≡ [];
}
