use Rattle.std.proofs.Common.{◌+◌, ◌*◌, ◌^◌, ◌≤◌, ap, arith}
use Rattle.std.proofs.Math.Nat.{pow-le-pow_right}
use Rattle.std.proofs.lemmas.Nat.{pow-add}
use Rattle.kernel_draws.proofs.fraction.share_by_bits.Goals as goal
use Rattle.kernel_draws.proofs.fraction.share_by_bits.Goals.{then-among-rest, else-among-rest}

-- src/fraction.rt:66:5
pub loop-bit-preserved : goal.loop-bit-preserved
loop-bit-preserved c =
    let e = pow-add 2 c.loop-bit._bit 1 in
    let g = ap (λ n. c.args.good * n) e in
    elim c.if-among-rest.branch [
      | then-among-rest w ↦
          (omega arith, omega (arith, ap (λ n. n * c.args.among) w.found-is, w.rest-is, g), omega arith)
      | else-among-rest w ↦
          (omega arith, omega (arith, ap (λ n. n * c.args.among) w.found-is, w.rest-is, g), omega arith)
    ]

pub overflow_mul-found : goal.overflow_mul-found
overflow_mul-found c =
    let e = pow-add 2 c.loop-bit._bit 1 in
    let h : 2 ^ (c.loop-bit._bit + 1) ≤ 2 ^ 128 = pow-le-pow_right (omega arith) {i = c.loop-bit._bit + 1} {j = 128} (omega arith) in omega arith

pub overflow_add-found : goal.overflow_add-found
overflow_add-found c =
    let e = pow-add 2 c.loop-bit._bit 1 in
    let h : 2 ^ (c.loop-bit._bit + 1) ≤ 2 ^ 128 = pow-le-pow_right (omega arith) {i = c.loop-bit._bit + 1} {j = 128} (omega arith) in omega arith
