-- PrefixProof: the whole proof for a built leaf of prefixes.
use Rattle.std.specs.Prelude.{ℕ, ◌^◌, false, List, ℤ}
use Rattle.cert_base.specs.declared.proof.LeafProof.{LeafProof}
use Rattle.comp_counting.specs.declared.limits.TheConstants.{POWER_LIMIT}
use Rattle.comp_counting.specs.FlockAtoms.{enough_for}
use Rattle.comp_flock.specs.CountProof.{count_part}
use Rattle.comp_flock.specs.PrefixLeaf.{bound_worths, last_place}

abbrev pub prefix_part : List ℤ → ℤ → ℕ → LeafProof
prefix_part coefs bound top =
    count_part coefs bound false (enough_for bound) (2 ^ POWER_LIMIT) (bound_worths bound top) top (last_place bound top)
