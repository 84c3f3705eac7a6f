-- The predicate of an atom is within the limits of predicates.
use Rattle.std.proofs.Common.{ℕ, zero, suc, ◌≤◌, List, length, refl, arith}
use Rattle.std.specs.Prelude.{ℤ, pos, negsuc, nat_abs}
use Rattle.pres_ast.specs.PredTree.{LessThan}
use Rattle.pres_ast.specs.PredModel.{IsPred}
use Rattle.comp_trees.proofs.Bits.{power-le}
use Rattle.comp_counting.specs.declared.limits.TheConstants.{POWER_LIMIT}
use Rattle.comp_counting.specs.FlockAtoms.{enough_for, IsOffset}

bound-small : (bound : ℤ) → nat_abs bound ≤ enough_for bound
bound-small (pos zero) = omega arith
bound-small (pos (suc n)) = omega arith
bound-small (negsuc n) = omega arith

pub offset_is_pred : (coefs : List ℤ) (bound : ℤ) (k : ℕ) → IsOffset coefs bound k → IsPred (length coefs) (LessThan coefs bound)
offset_is_pred coefs bound k is =
    let abs = bound-small bound in
    let within = is.within in
    let most = power-le k POWER_LIMIT is.high in
    record {
      some_variable = is.sum.some;
      variables = is.sum.few;
      atoms = ((refl, is.sum.small), omega (arith, abs, within, most));
      weight = omega arith;
    }
