-- Which outputs are wrong.
use Rattle.std.proofs.Common.{◌≡◌, ℕ, ◌+◌, Bool, true, false, refl}
use Rattle.std.specs.Prelude.{◌==◌, not}
use Rattle.cert_base.specs.FactsAndCases.{differs}
use Rattle.comp_counting.specs.FullState.{flock_output}

-- where there are enough, all outputs but that of 2^k are wrong, and else that of 2^k alone
pub wrong-enough : (says : Bool) (k z : ℕ) → differs says (flock_output says k z) ≡ not (z == k + 1)
wrong-enough true k z = refl
wrong-enough false k z = refl

pub wrong-too-few : (says : Bool) (k z : ℕ) → differs (not says) (flock_output says k z) ≡ (z == k + 1)
wrong-too-few true k z = refl
wrong-too-few false k z = twice (z == k + 1)
  where
    twice : (b : Bool) → not (not b) ≡ b
    twice true = refl
    twice false = refl
