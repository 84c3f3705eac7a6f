use Rattle.std.proofs.Common.{◌≡◌, false, take}
use Rattle.std.specs.List.{list_any}
use Rattle.cert_base.specs.declared.fact.Row.{Row}
use Rattle.cert_base.specs.ClosingTests.{denies}
use Rattle.cert_linear.specs.Sums.{IsTidy, IsSum, IsSame}
use Rattle.cert_linear.proofs.closing.is_denied.Given as goal

abbrev pub invariant-loop-fact : goal.invariant-loop-fact
invariant-loop-fact l = record {
  stays : IsSame l.initial.sum l.sum;
  tidy : IsTidy l.sum;
  none : (row : Row) → IsSum row l.initial.sum → list_any (denies l.modulus row) (take l.fact-index l.facts) ≡ false;
}
