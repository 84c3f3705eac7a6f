use Rattle.std.proofs.Common.{rules}
use Rattle.terminal_test.proofs.restless.are_held.Goals as goal

pub returns-then-p-q : goal.returns-then-p-q
returns-then-p-q c = search rules
