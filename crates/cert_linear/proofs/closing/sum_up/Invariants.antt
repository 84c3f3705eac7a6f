use Rattle.std.proofs.Common.{◌≡◌, true, ◌*◌, take}
use Rattle.cert_base.specs.ClosingTests.{all_named, sum_of}
use Rattle.cert_linear.specs.Sums.{may_by, IsTidy, IsSum, IsSumWithin}
use Rattle.cert_linear.proofs.closing.sum_up.Given as goal
use Rattle.cert_linear.specs.declared.sum.TheConstants.{PRODUCT_LIMIT}

abbrev pub invariant-loop-term : goal.invariant-loop-term
invariant-loop-term l = record {
  named : all_named (may_by l.modulus) l.facts (take l.term-index l.terms) ≡ true;
  sum : IsSum (sum_of l.facts (take l.term-index l.terms)) l.sum;
  size : IsSumWithin (l.term-index * PRODUCT_LIMIT) l.sum;
  tidy : IsTidy l.sum;
}
