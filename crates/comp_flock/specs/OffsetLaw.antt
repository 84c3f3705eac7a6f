-- OffsetLaw: the built leaf of a flock with an offset is well formed, no two of its moves take the same states, and its
-- proof is valid; and which power it has.
use Rattle.std.specs.Prelude.{◌≡◌, ◌≤◌, ℕ, ◌^◌, true, List, ℤ, length, AllPairs, Some}
use Rattle.std.specs.List.{list_all}
use Rattle.pop_leaf.specs.LeafModel.{IsLeaf}
use Rattle.pop_leaf.specs.Reaction.{Differ}
use Rattle.pres_ast.specs.PredModel.{IsAtomSum}
use Rattle.cert_base.specs.ValidProof.{ValidLeafProof}
use Rattle.cert_base.specs.ProofLimits.{IsLeafProofWithin}
use Rattle.comp_counting.specs.declared.limits.TheConstants.{POWER_LIMIT}
use Rattle.comp_counting.specs.FlockAtoms.{is_counted, says_enough, enough_for, offset_power, IsOffset}
use Rattle.comp_flock.specs.FlockLeaf.{HasSpareRoom, offset_leaf_of}
use Rattle.comp_flock.specs.FlockProof.{offset_part}

pub record IsOffsetRight (coefs : List ℤ) (bound : ℤ) (k spare : ℕ) : Type 0 where
  pub formed : IsLeaf (offset_leaf_of coefs bound k spare)
  pub single : AllPairs Differ (offset_leaf_of coefs bound k spare).moves
  pub valid : ValidLeafProof (offset_leaf_of coefs bound k spare) (offset_part coefs bound k)
  pub within : IsLeafProofWithin (length coefs) (offset_part coefs bound k)

abbrev pub OffsetLaw : Type 0
OffsetLaw =
    (coefs : List ℤ) (bound : ℤ) (k spare : ℕ) → IsOffset coefs bound k → HasSpareRoom bound k spare
    → IsOffsetRight coefs bound k spare

-- 2^k is the least power of two that is no less than c
pub record IsLeastPower (c k : ℕ) : Type 0 where
  pub enough : c ≤ 2 ^ k
  pub least : (j : ℕ) → c ≤ 2 ^ j → k ≤ j

-- the power that is found
abbrev pub PowerLaw : Type 0
PowerLaw =
    (coefs : List ℤ) (bound : ℤ) (k : ℕ) → IsAtomSum coefs → offset_power coefs bound ≡ Some k
    → IsOffset coefs bound k × IsLeastPower (enough_for bound) k

-- one is found for each c up to the limit
abbrev pub EveryLaw : Type 0
EveryLaw =
    (coefs : List ℤ) (bound : ℤ) → list_all (is_counted (says_enough bound) (enough_for bound)) coefs ≡ true
    → enough_for bound ≤ 2 ^ POWER_LIMIT → (k : ℕ) × (offset_power coefs bound ≡ Some k)
