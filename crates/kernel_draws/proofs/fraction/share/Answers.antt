use Rattle.std.proofs.Common.{arith}
use Rattle.kernel_draws.proofs.Shares.{narrow}
use Rattle.kernel_draws.proofs.fraction.share.Goals as goal

-- src/fraction.rt:53:9
pub returns-then-high-eq0 : goal.returns-then-high-eq0
returns-then-high-eq0 c = narrow 18446744073709551616 c.args.good c.args.among c.requires.less (omega arith)
