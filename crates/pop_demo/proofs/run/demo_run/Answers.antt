use Rattle.std.proofs.Common.{rules}
use Rattle.pop_demo.proofs.run.demo_run.Goals as goal

pub returns-clause-run : goal.returns-clause-run
returns-clause-run c = search rules
