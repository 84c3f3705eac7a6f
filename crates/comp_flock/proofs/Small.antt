-- The predicate of a flock atom is within the limits of predicates.
use Rattle.std.proofs.Common.{ℕ, List, length}
use Rattle.std.specs.Prelude.{ℤ}
use Rattle.pres_ast.specs.PredTree.{LessThan}
use Rattle.pres_ast.specs.PredModel.{IsPred}
use Rattle.comp_counting.specs.FlockAtoms.{flock_bound, IsFlock}
use Rattle.comp_flock.proofs.Offsets.{flock-offset}
use Rattle.comp_counting.proofs.Small.{offset_is_pred}

pub flock_is_pred : (coefs : List ℤ) (k : ℕ) → IsFlock coefs k → IsPred (length coefs) (LessThan coefs (flock_bound k))
flock_is_pred coefs k is = offset_is_pred coefs (flock_bound k) k (flock-offset coefs k is)
