use Rattle.std.proofs.Common.{arith}
use Rattle.terminal_test.proofs.Outputs.{all_output}
use Rattle.terminal_test.proofs.agreement.agreed.Goals as goal

pub returns : goal.returns
returns c = all_output c.args.net.now c.args.crowd.now c.output-first.result (λ d w l. c.loop-agent.invariant d w (omega arith))
