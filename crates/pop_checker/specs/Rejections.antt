-- Rejections: the first part of a proof that is not valid.
use Rattle.std.specs.Prelude.{◌≡◌, ℕ, ◌<◌, Bool, true, false, [], length, Some, slice_get}
use Rattle.pres_ast.specs.PredModel.{PredModel}
use Rattle.pop_leaf.specs.LeafModel.{LeafModel}
use Rattle.pop_leaf.specs.NetModel.{NetModel}
use Rattle.cert_base.specs.declared.proof.Proof.{Proof}
use Rattle.cert_base.specs.declared.proof.LeafProof.{LeafProof}
use Rattle.cert_base.specs.FactsAndCases.{base_list}
use Rattle.cert_base.specs.ValidLayers.{ValidLayers}
use Rattle.cert_base.specs.Closes.{Closes}
use Rattle.cert_base.specs.ValidProof.{ValidLeafProof, CombinesTo}
use Rattle.cert_layers.specs.declared.fault.LayerWhy.{LayerWhy}
use Rattle.cert_layers.specs.LayerFaults.{AreBrokenFirst}
use Rattle.cert_tree.specs.declared.fault.TreeWhy.{TreeWhy}
use Rattle.cert_tree.specs.Refusals.{first_refused}
use Rattle.pop_checker.specs.declared.fault.Rejected.{Rejected}
use Rattle.pop_checker.specs.declared.fault.Rejected.TheVariants.{Layers, Tree, Predicate}

-- each leaf before leaf n has a valid proof
abbrev pub AreValidBefore : NetModel → Proof → ℕ → Type 0
AreValidBefore net proof n =
    (i : ℕ) (leaf : LeafModel) (part : LeafProof) → i < n → slice_get net.leaves i ≡ Some leaf
    → slice_get proof.leaves i ≡ Some part → ValidLeafProof leaf part

-- the fault is the first of a leaf's proof: first the layers, then the tree for true, then the tree for false
abbrev pub RejectsLayers : LeafModel → LeafProof → LayerWhy → Type 0
RejectsLayers leaf part why = AreBrokenFirst leaf part.layers why

abbrev pub RejectsTree : LeafModel → LeafProof → Bool → ℕ → TreeWhy → Type 0
RejectsTree leaf part true node why =
    ValidLayers leaf part.layers × (first_refused leaf part.pred true part.on_true ≡ Some (node, why))
RejectsTree leaf part false node why =
    ValidLayers leaf part.layers × Closes leaf (base_list leaf part.pred true) part.on_true []
    × (first_refused leaf part.pred false part.on_false ≡ Some (node, why))

-- leaf i and its proof are the first that are rejected
pub record IsFirstRejected (net : NetModel) (proof : Proof) (i : ℕ) (Rejects : LeafModel → LeafProof → Type 0)
    : Type 0 where
  pub before : AreValidBefore net proof i
  pub leaf : LeafModel
  pub part : LeafProof
  pub leaf_is : slice_get net.leaves i ≡ Some leaf
  pub part_is : slice_get proof.leaves i ≡ Some part
  pub rejected : Rejects leaf part

-- the first part that is not valid: leaf by leaf its layers and its two trees, and last the predicate
abbrev pub IsRejected : NetModel → PredModel → Proof → Rejected → Type 0
IsRejected net p proof (Layers i why) = IsFirstRejected net proof i (λ leaf part. RejectsLayers leaf part why)
IsRejected net p proof (Tree i value node why) =
    IsFirstRejected net proof i (λ leaf part. RejectsTree leaf part value node why)
IsRejected net p proof Predicate = AreValidBefore net proof (length net.leaves) × ¬ (CombinesTo net proof p)
