use Rattle.std.proofs.Common.{◌^◌, ◌<◌}
use Rattle.kernel_draws.proofs.skip.skipped.Given as goal

abbrev pub invariant-loop-step : goal.invariant-loop-step
invariant-loop-step l = l.skip < 2 ^ l.step
