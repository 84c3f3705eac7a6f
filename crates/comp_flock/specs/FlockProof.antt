-- FlockProof: the whole proof for a built leaf of a flock atom, with an offset or without.
use Rattle.std.specs.Prelude.{ℕ, ◌^◌, if◌then◌else◌, true, List, ℤ, nat_abs, nat_le}
use Rattle.std.specs.List.{list_all}
use Rattle.cert_base.specs.declared.proof.LeafProof.{LeafProof}
use Rattle.comp_counting.specs.declared.limits.TheConstants.{POWER_LIMIT}
use Rattle.comp_counting.specs.FlockAtoms.{flock_bound}
use Rattle.comp_flock.specs.CountProof.{count_part}
use Rattle.comp_flock.specs.FlockLeaf.{power_worths}

-- what an agent in 2^k counts for at most: 2^k, or more than any coefficient
abbrev pub full_size : List ℤ → ℕ → ℕ
full_size coefs k = if list_all (λ a. nat_le (nat_abs a) (2 ^ k)) coefs then 2 ^ k else 2 ^ POWER_LIMIT

abbrev pub offset_part : List ℤ → ℤ → ℕ → LeafProof
offset_part coefs bound k = count_part coefs bound true (2 ^ k) (full_size coefs k) (power_worths k) k k

abbrev pub flock_part : List ℤ → ℕ → LeafProof
flock_part coefs k = offset_part coefs (flock_bound k) k
