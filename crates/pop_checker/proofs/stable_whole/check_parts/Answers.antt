use Rattle.std.proofs.Common.{◌<◌, length, ap, arith}
use Rattle.std.proofs.lemmas.Result.{err_from_is_err_and}
use Rattle.theory_nets.proofs.LeafByLeaf.{part_at}
use Rattle.pop_checker.proofs.PartWalk.{part_more, all_hold, named_by}
use Rattle.pop_checker.specs.ValidStable.{ValidPart, part_bound}
use Rattle.pop_checker.specs.StableRejections.{IsPartRejected, IsStableRejected}
use Rattle.pop_checker.proofs.StableFirsts.{first_rejected}
use Rattle.pop_checker.proofs.stable_whole.check_parts.Goals as goal

pub returns-in_err-more-clause-fault : goal.returns-in_err-more-clause-fault
returns-in_err-more-clause-fault c =
    let p = err_from_is_err_and c.from_residual.result c.from_residual.ensures.1 in
    let net = c.args.net.now in
    let number = c.loop-number.number in
    let leaf = c.leaf.result.now in
    let part = c.index-parts-number.result in
    let here = part_at c.args.proof.now.leaves c.as_slice-parts.result.now number part c.as_slice-parts.ensures c.loop-number-test.true c.index-parts-number.is in
    λ q. rw (p.1, p.2)
    (named_by (IsPartRejected leaf part number) (IsStableRejected net q c.args.proof.now) c.in_err-more.field-0.0
    (λ fault is. first_rejected net c.args.proof.now q number leaf part fault c.loop-number.invariant.holds c.leaf.ensures here is)
    c.in_err-more.ensures.fault)

pub returns-in_err-more-clause-accepts : goal.returns-in_err-more-clause-accepts
returns-in_err-more-clause-accepts c =
    let p = err_from_is_err_and c.from_residual.result c.from_residual.ensures.1 in
    let here = part_at c.args.proof.now.leaves c.as_slice-parts.result.now c.loop-number.number c.index-parts-number.result c.as_slice-parts.ensures c.loop-number-test.true c.index-parts-number.is in
    let l : c.loop-number.number < length c.args.net.now.leaves = omega (arith, c.loop-number-test.true, ap length c.as_slice-parts.ensures, c.requires.one_each) in
    λ valid. rw (p.1, p.2) (c.in_err-more.ensures.accepts (valid c.loop-number.number c.leaf.result.now c.index-parts-number.result l c.leaf.ensures here))

pub loop-number-preserved : goal.loop-number-preserved
loop-number-preserved c =
    part_more ValidPart part_bound c.args.net.now c.args.proof.now.leaves c.as_slice-parts.result.now c.loop-number.number c.loop-number.bound c.in_ok-more.more c.leaf.result.now c.index-parts-number.result c.as_slice-parts.ensures c.loop-number-test.true c.index-parts-number.is c.leaf.ensures c.in_ok-more.ensures.valid c.in_ok-more.ensures.bound c.loop-number.invariant

pub returns-clause-valid : goal.returns-clause-valid
returns-clause-valid c =
    all_hold ValidPart part_bound c.args.net.now c.args.proof.now.leaves c.as_slice-parts.result.now c.loop-number.number c.loop-number.bound c.as_slice-parts.ensures (omega (arith, c.loop-number-test.false)) c.requires.one_each c.loop-number.invariant
