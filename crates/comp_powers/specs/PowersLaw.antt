-- PowersLaw: the built leaf of powers is well formed and has few states, no two of its moves take the same states, and
-- its proof is valid.
use Rattle.std.specs.Prelude.{◌≡◌, ◌≤◌, ℕ, ◌+◌, ◌*◌, List, ℤ, AllPairs, length, Some}
use Rattle.pop_leaf.specs.LeafModel.{IsLeaf}
use Rattle.pop_leaf.specs.Reaction.{Differ}
use Rattle.cert_base.specs.ValidProof.{ValidLeafProof}
use Rattle.cert_base.specs.ProofLimits.{IsLeafProofWithin}
use Rattle.pres_ast.specs.PredModel.{IsAtomSum}
use Rattle.pop_leaf.specs.declared.limits.TheConstants.{STATE_LIMIT}
use Rattle.comp_powers_leaf.specs.PowersLeaf.{roles, powers_leaf_of, IsPowers, HasRoom}
use Rattle.comp_powers_leaf.specs.PowersRange.{powers_range}
use Rattle.comp_powers.specs.PowersProof.{powers_part}

pub record ArePowersRight (coefs : List ℤ) (bound : ℤ) (k spare : ℕ) : Type 0 where
  pub formed : IsLeaf (powers_leaf_of coefs bound k spare)
  pub few : length (powers_leaf_of coefs bound k spare).states ≤ 2 * k + 5 + (k + 1) * length coefs
  pub single : AllPairs Differ (powers_leaf_of coefs bound k spare).moves
  pub valid : ValidLeafProof (powers_leaf_of coefs bound k spare) (powers_part coefs bound k spare)
  pub within : IsLeafProofWithin (length coefs) (powers_part coefs bound k spare)

abbrev pub PowersLaw : Type 0
PowersLaw = (coefs : List ℤ) (bound : ℤ) (k spare : ℕ) → IsPowers coefs bound k → HasRoom k spare → ArePowersRight coefs bound k spare

-- the range that is found suffices, unless the leaf has too many states for it
abbrev pub RangeLaw : Type 0
RangeLaw =
    (coefs : List ℤ) (bound : ℤ) (k : ℕ) → IsAtomSum coefs → powers_range coefs bound ≡ Some k
    → length (roles coefs k) ≤ STATE_LIMIT → IsPowers coefs bound k
