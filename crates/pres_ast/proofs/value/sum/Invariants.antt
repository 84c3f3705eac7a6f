use Rattle.std.proofs.Common.{◌≡◌, ◌≤◌, ◌*◌, ◌+ℤ◌, nat_abs, drop}
use Rattle.pres_ast.specs.PredicateValue.{weighted_sum}
use Rattle.pres_ast.proofs.value.sum.Given as goal
use Rattle.pres_ast.specs.declared.limits.TheConstants.{PRODUCT_LIMIT}

abbrev pub invariant-loop-i : goal.invariant-loop-i
invariant-loop-i l = record {
  sum : l.total +ℤ weighted_sum (drop l.i l.coefs) (drop l.i l.counts) ≡ weighted_sum l.coefs l.counts;
  size : nat_abs l.total ≤ l.i * PRODUCT_LIMIT;
}
