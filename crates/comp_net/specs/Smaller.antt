-- Smaller: of two leaves that an atom may have in a succinct net, a flock with an offset has fewer states than powers.
use Rattle.std.specs.Prelude.{◌≡◌, ◌<◌, ℕ, List, ℤ, length, Some}
use Rattle.comp_counting.specs.FlockAtoms.{offset_power}
use Rattle.comp_counting.specs.FullState.{flock_state_count}
use Rattle.comp_flock.specs.PrefixLeaf.{prefix_top, bound_worths}
use Rattle.comp_powers_leaf.specs.PowersLeaf.{roles}
use Rattle.comp_powers_leaf.specs.PowersRange.{powers_range}

abbrev pub SmallerLaw : Type 0
SmallerLaw =
    (coefs : List ℤ) (bound : ℤ) (k range : ℕ) → offset_power coefs bound ≡ Some k
    → powers_range coefs bound ≡ Some range → flock_state_count k < length (roles coefs range)

-- a flock of prefixes has, too
abbrev pub PrefixSmallerLaw : Type 0
PrefixSmallerLaw =
    (coefs : List ℤ) (bound : ℤ) (top range : ℕ) → prefix_top coefs bound ≡ Some top
    → powers_range coefs bound ≡ Some range
    → length (bound_worths bound top) < length (roles coefs range)
