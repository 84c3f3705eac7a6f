use Rattle.std.proofs.Common.{sym, arith}
use Rattle.kernel_draws.proofs.Halves.{by_halves}
use Rattle.kernel_draws.proofs.fraction.times.Goals as goal

-- src/fraction.rt:40:1
pub returns : goal.returns
returns c =
    rw (
      c.high-8.ensures.value,
      c.high-7.ensures.value,
      c.high-6.ensures.value,
      c.product-2.ensures.value,
      c.high-5.ensures.value,
      c.high-4.ensures.value,
      c.low-6.ensures.value,
      c.low-5.ensures.value,
      c.high-3.ensures.value,
      c.product.ensures.value,
      c.low-4.ensures.value,
      c.low-3.ensures.value,
      c.product-other.ensures.value,
      c.high-2.ensures.value,
      c.low-2.ensures.value,
      c.product-middle.ensures.value,
      c.low.ensures.value,
      c.high.ensures.value,
    )
    (sym (by_halves 18446744073709551616 c.args.a c.args.b (omega arith)))
