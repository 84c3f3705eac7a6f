use Rattle.std.proofs.Common.{rules, ◌≡◌, ◌%◌, ◌-◌, ◌/◌, ◌^◌, arith}
use Rattle.run_picks.proofs.divisor.Divisor.remainder.Goals as goal
use Rattle.run_picks.proofs.divisor.Divisor.remainder.Goals.{then-rest-number, else-rest-number}
use Rattle.run_picks.proofs.Quotients.{near_quotient, right_quotient, low_quotient}

pub overflow_sub-rest : goal.overflow_sub-rest
overflow_sub-rest c =
    let same : c.from-3.result ≡ c.from.result = search rules in
    let inverse : c.from-2.result ≡ (2 ^ 64 - 1) / c.from-number.result = search rules in
    omega (
      arith,
      near_quotient c.from.result c.from-number.result c.from-2.result inverse (omega arith) (omega arith)
          (omega arith),
    )

pub returns : goal.returns
returns c =
    let same : c.from-3.result ≡ c.from.result = search rules in
    let inverse : c.from-2.result ≡ (2 ^ 64 - 1) / c.from-number.result = search rules in
    let rest : c.from.result % c.from-number.result ≡ c.args.n % c.args.self.now = search rules in
    elim c.if-rest-number.branch [
      | then-rest-number w ↦
          cc (
            w.result-is,
            same,
            rest,
            right_quotient c.from.result c.from-number.result c.from-2.result inverse
                (omega arith) (omega arith) (omega arith) (omega arith),
          )
      | else-rest-number w ↦
          cc (
            w.result-is,
            same,
            rest,
            low_quotient c.from.result c.from-number.result c.from-2.result inverse
                (omega arith) (omega arith) (omega arith) (omega arith),
          )
    ]
