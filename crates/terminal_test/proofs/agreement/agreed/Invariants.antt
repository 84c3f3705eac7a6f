use Rattle.std.proofs.Common.{◌≡◌, ℕ, ◌<◌, get_or}
use Rattle.pop_net.specs.declared.net.Word.{Word}
use Rattle.pop_leaf.specs.NetModel.{output_of}
use Rattle.pop_net.specs.Lanes.{tuple_of}
use Rattle.terminal_test.proofs.agreement.agreed.Given as goal

abbrev pub invariant-loop-agent : goal.invariant-loop-agent
invariant-loop-agent l = (d : ℕ) (w : Word) → d < l.agent → output_of l.net (tuple_of l.net (get_or l.crowd d w)) ≡ l.first
