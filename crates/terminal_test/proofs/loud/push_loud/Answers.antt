use Rattle.std.proofs.Common.{rules}
use Rattle.terminal_test.proofs.loud.push_loud.Goals as goal

pub returns-else-not-is_silent : goal.returns-else-not-is_silent
returns-else-not-is_silent c = search rules
