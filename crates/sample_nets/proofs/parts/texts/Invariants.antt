use Rattle.std.proofs.Common.{◌≡◌, length}
use Rattle.sample_nets.proofs.parts.texts.Given as goal

abbrev pub invariant-loop-name : goal.invariant-loop-name
invariant-loop-name l = length l.list.items ≡ l.name-index
