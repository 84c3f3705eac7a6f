use Rattle.std.proofs.Common.{length, ap, arith}
use Rattle.std.proofs.lemmas.Fmt.{length-decimal-le}
use Rattle.base_lines.proofs.numerals.Numeral.of.Goals as goal

pub put_bytes-len-requires : goal.put_bytes-len-requires
put_bytes-len-requires c =
    omega (arith, length-decimal-le 3 c.args.n (omega arith) (omega (arith, c.requires)) (omega (arith, c.requires)), ap length c.format.ensures.text, ap length c.as_bytes-digits.ensures.value)

pub invariant_of-result : goal.invariant_of-result
invariant_of-result c =
    omega (arith, length-decimal-le 3 c.args.n (omega arith) (omega (arith, c.requires)) (omega (arith, c.requires)), ap length c.format.ensures.text, ap length c.as_bytes-digits.ensures.value, c.put_bytes-len.ensures.moved)
