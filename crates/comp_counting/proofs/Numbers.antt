-- Numbers that are no less than 0.
use Rattle.std.proofs.Common.{◌≡◌, ℕ, true, arith}
use Rattle.std.specs.Prelude.{pos, int_le}
use Rattle.std.proofs.lemmas.Int.{ints}
use Rattle.cert_base.proofs.WeightedSums.{le-test}

-- a number that is no less than 0
pub zero_le : (n : ℕ) → int_le (pos 0) (pos n) ≡ true
zero_le n = le-test (pos 0) (pos n) (omega (arith, ints))
