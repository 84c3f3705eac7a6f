use Rattle.std.proofs.Common.{rules}
use Rattle.pop_net.proofs.combination.take_value.Goals as goal

pub returns-in_ok-pop-in-Not-clause-found : goal.returns-in_ok-pop-in-Not-clause-found
returns-in_ok-pop-in-Not-clause-found c = search rules
