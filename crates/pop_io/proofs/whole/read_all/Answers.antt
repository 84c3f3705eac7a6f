use Rattle.std.proofs.Common.{refl, arith, ◌++◌, length-append, take, rules}
use Rattle.std.proofs.lemmas.List.{length-take}
use Rattle.std.proofs.lemmas.Result.{err_from_is_err_and}
use Rattle.std.proofs.KnownBytes.{Consumes-trans}
use Rattle.pop_io.proofs.whole.read_all.Goals as goal

pub returns-then-count-len-clause-long : goal.returns-then-count-len-clause-long
returns-then-count-len-clause-long g c =
    let more = take c.in-Ok.count c.take.new.out in (
      c.loop-bytes.bytes.items ++ more,
      Consumes-trans _ _ _ _ _ c.loop-bytes.invariant.consumed c.in-Ok.ensures.bytes.0,
      (λ _. simp (length-append, length-take) (omega (arith, c.in-Ok.ensures.bound)), λ _. refl),
    )

pub returns-in_err-extend_from_slice-in-Ok-clause-long : goal.returns-in_err-extend_from_slice-in-Ok-clause-long
returns-in_err-extend_from_slice-in-Ok-clause-long g c =
    let p = err_from_is_err_and c.from_residual.result c.from_residual.ensures.1 in
    let more = take c.in-Ok.count c.take.new.out in (
      c.loop-bytes.bytes.items ++ more,
      Consumes-trans _ _ _ _ _ c.loop-bytes.invariant.consumed c.in-Ok.ensures.bytes.0,
      (λ e. absurd (cc (p.1, p.2, e)), λ lt. absurd (omega (arith, length-append c.loop-bytes.bytes.items more, length-take c.in-Ok.count c.take.new.out))),
    )

pub returns-in-Err-clause-whole : goal.returns-in-Err-clause-whole
returns-in-Err-clause-whole c = search rules

pub returns-in-Err-clause-end : goal.returns-in-Err-clause-end
returns-in-Err-clause-end c = search rules

pub returns-in-Ok-eq0-clause-fault : goal.returns-in-Ok-eq0-clause-fault
returns-in-Ok-eq0-clause-fault c = search rules
