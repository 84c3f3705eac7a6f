use Rattle.std.proofs.Common.{rules}
use Rattle.pop_checker.proofs.combination.net_pred_is.Goals as goal

pub returns-then-are_over : goal.returns-then-are_over
returns-then-are_over c = search rules
