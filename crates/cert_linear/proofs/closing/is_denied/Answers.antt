use Rattle.std.proofs.Common.{◌∙◌, sym, ap, arith}
use Rattle.std.specs.List.{list_any}
use Rattle.cert_base.specs.ClosingTests.{denies}
use Rattle.std.proofs.lemmas.List.{take_all}
use Rattle.std.proofs.lemmas.List.Folds.{list_any_more}
use Rattle.cert_linear.proofs.Coefficients.{same_sum, same_size, same_same}
use Rattle.cert_linear.proofs.closing.is_denied.Goals as goal

pub is_denied_by-requires-clause-size : goal.is_denied_by-requires-clause-size
is_denied_by-requires-clause-size c = same_size _ c.args.sum.now c.loop-fact.sum c.loop-fact.invariant.stays c.requires.size

pub loop-fact-preserved : goal.loop-fact-preserved
loop-fact-preserved c = record {
  stays = same_same c.args.sum.now c.loop-fact.sum c.is_denied_by.new.sum c.loop-fact.invariant.stays c.in_ok-is_denied_by.ensures.stays;
  tidy = c.in_ok-is_denied_by.ensures.tidy;
  none = λ row is.
      let here = c.in_ok-is_denied_by.ensures.value row (same_sum row c.args.sum.now c.loop-fact.sum c.loop-fact.invariant.stays is) in
      let before = c.loop-fact.invariant.none row is in
      list_any_more (denies c.args.modulus row) c.args.facts.now c.loop-fact.fact-index c.fact-item.result (omega arith) ∙ rw (before, ← c.fact-item.is, ← here) c.if-branch.false;
}

pub returns-clause-denied : goal.returns-clause-denied
returns-clause-denied c = λ row is. sym (c.loop-fact.invariant.none row is) ∙ ap (list_any (denies c.args.modulus row)) (take_all c.loop-fact.fact-index c.args.facts.now c.loop-fact-test.false)
