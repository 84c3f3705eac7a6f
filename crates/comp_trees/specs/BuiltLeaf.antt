-- BuiltLeaf: what a built leaf is together with its part of a proof.
use Rattle.std.specs.Prelude.{◌≡◌, ℕ, AllPairs}
use Rattle.pop_leaf.specs.LeafModel.{LeafModel}
use Rattle.pop_leaf.specs.Reaction.{Differ}
use Rattle.pres_ast.specs.PredModel.{PredModel}
use Rattle.cert_base.specs.declared.proof.LeafProof.{LeafProof}
use Rattle.cert_base.specs.ProofBound.{layers_bound}
use Rattle.cert_base.specs.ValidProof.{ValidLeafProof}
use Rattle.cert_base.specs.ProofLimits.{IsLeafProofWithin}
use Rattle.cert_base.specs.TameLayers.{TameLayers}

-- the leaf is the defined one, and the part is a valid proof of the predicate for it, which allows so many steps per
-- agent
pub record IsBuilt (defined : LeafModel) (pred : PredModel) (steps : ℕ) (leaf : LeafModel) (part : LeafProof)
    : Type 0 where
  pub leaf_is : leaf ≡ defined
  pub pred_is : part.pred ≡ pred
  pub valid : ValidLeafProof leaf part
  pub bound : layers_bound part.layers ≡ steps
  pub within : IsLeafProofWithin pred.variables part
  -- so it settles soon
  pub tame : TameLayers leaf part.layers
  -- no two moves take the same states
  pub single : AllPairs Differ leaf.moves
