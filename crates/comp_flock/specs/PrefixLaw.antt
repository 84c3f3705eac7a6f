-- PrefixLaw: the built leaf of prefixes is well formed and has few states and no helpers, no two of its moves take the
-- same states, and its proof is valid; and which atoms have one.
use Rattle.std.specs.Prelude.{◌≡◌, ◌≤◌, ℕ, ◌+◌, ◌^◌, true, List, [], ℤ, length, AllPairs, Some}
use Rattle.std.specs.List.{list_all}
use Rattle.pop_leaf.specs.LeafModel.{IsLeaf}
use Rattle.pop_leaf.specs.Reaction.{Differ}
use Rattle.pres_ast.specs.PredModel.{IsAtomSum}
use Rattle.cert_base.specs.ValidProof.{ValidLeafProof}
use Rattle.cert_base.specs.ProofLimits.{IsLeafProofWithin}
use Rattle.comp_counting.specs.declared.limits.TheConstants.{POWER_LIMIT}
use Rattle.comp_counting.specs.FlockAtoms.{is_counted, says_enough, enough_for}
use Rattle.comp_flock.specs.PrefixLeaf.{IsPrefix, prefix_top, prefix_leaf_of}
use Rattle.comp_flock.specs.PrefixProof.{prefix_part}

pub record IsPrefixRight (coefs : List ℤ) (bound : ℤ) (top : ℕ) : Type 0 where
  pub formed : IsLeaf (prefix_leaf_of coefs bound top)
  pub few : length (prefix_leaf_of coefs bound top).states ≤ top + top + 2
  pub alone : (prefix_leaf_of coefs bound top).helpers ≡ []
  pub single : AllPairs Differ (prefix_leaf_of coefs bound top).moves
  pub valid : ValidLeafProof (prefix_leaf_of coefs bound top) (prefix_part coefs bound top)
  pub within : IsLeafProofWithin (length coefs) (prefix_part coefs bound top)

abbrev pub PrefixLaw : Type 0
PrefixLaw = (coefs : List ℤ) (bound : ℤ) (top : ℕ) → IsPrefix coefs bound top → IsPrefixRight coefs bound top

-- the place that is found is that of the greatest one
abbrev pub TopLaw : Type 0
TopLaw =
    (coefs : List ℤ) (bound : ℤ) (top : ℕ) → IsAtomSum coefs → prefix_top coefs bound ≡ Some top
    → IsPrefix coefs bound top

-- one is found for each c up to the limit
abbrev pub EveryLaw : Type 0
EveryLaw =
    (coefs : List ℤ) (bound : ℤ) → list_all (is_counted (says_enough bound) (enough_for bound)) coefs ≡ true
    → enough_for bound ≤ 2 ^ POWER_LIMIT → (top : ℕ) × (prefix_top coefs bound ≡ Some top)
