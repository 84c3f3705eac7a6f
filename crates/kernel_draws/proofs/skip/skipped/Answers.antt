use Rattle.std.proofs.Common.{arith}
use Rattle.std.proofs.lemmas.Nat.{pow_below}
use Rattle.kernel_draws.proofs.skip.skipped.Goals as goal

-- src/skip.rt:41:9
pub overflow_mul-skip : goal.overflow_mul-skip
overflow_mul-skip c = omega (arith, pow_below c.loop-step.step 101 (omega arith))

-- src/skip.rt:44:13
pub overflow_add-skip : goal.overflow_add-skip
overflow_add-skip c = omega (arith, pow_below c.loop-step.step 101 (omega arith))

-- src/skip.rt:28:1
pub returns : goal.returns
returns c = omega (arith, pow_below c.loop-step.step 101 (omega arith))
