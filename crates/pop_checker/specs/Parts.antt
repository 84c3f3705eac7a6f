-- Parts: what the check of one leaf's proof says.
use Rattle.std.specs.Prelude.{◌≡◌, ℕ, ◌<◌, Bool, true, false, List, Some, slice_get}
use Rattle.pres_ast.specs.PredModel.{PredModel}
use Rattle.pop_leaf.specs.LeafModel.{LeafModel}
use Rattle.pop_leaf.specs.NetModel.{NetModel}
use Rattle.cert_base.specs.declared.proof.LeafProof.{LeafProof}
use Rattle.cert_base.specs.declared.node.Node.{Node}
use Rattle.cert_base.specs.ValidProof.{ValidLeafProof}
use Rattle.cert_base.specs.Ends.{EndsRight}
use Rattle.cert_tree.specs.Refusals.{first_refused}
use Rattle.pop_checker.specs.declared.fault.Rejected.{Rejected}
use Rattle.pop_checker.specs.declared.fault.Rejected.TheVariants.{Layers, Tree, Predicate}
use Rattle.pop_checker.specs.Rejections.{RejectsLayers, RejectsTree}

-- a leaf's proof is valid, and its trees leave no wrong end
pub record IsRightPart (leaf : LeafModel) (part : LeafProof) : Type 0 where
  pub valid : ValidLeafProof leaf part
  pub on_true : EndsRight leaf part.pred.tree true
  pub on_false : EndsRight leaf part.pred.tree false

-- each leaf before leaf n has a right proof
abbrev pub AreRightBefore : NetModel → List LeafProof → ℕ → Type 0
AreRightBefore net parts n =
    (i : ℕ) (leaf : LeafModel) (part : LeafProof) → i < n → slice_get net.leaves i ≡ Some leaf
    → slice_get parts i ≡ Some part → IsRightPart leaf part

-- the fault of the layers of the leaf with this number
abbrev pub IsLayersFault : LeafModel → LeafProof → ℕ → Rejected → Type 0
IsLayersFault leaf part number (Layers i why) = (i ≡ number) × RejectsLayers leaf part why
IsLayersFault leaf part number (Tree i value node why) = ⊥
IsLayersFault leaf part number Predicate = ⊥

-- the fault of the tree for a value
abbrev pub IsValueFault : LeafModel → PredModel → Bool → List Node → ℕ → Rejected → Type 0
IsValueFault leaf p value nodes number (Layers i why) = ⊥
IsValueFault leaf p value nodes number (Tree i v node why) =
    (i ≡ number) × (v ≡ value) × (first_refused leaf p value nodes ≡ Some (node, why))
IsValueFault leaf p value nodes number Predicate = ⊥

-- the fault of a leaf's proof
abbrev pub IsPartFault : LeafModel → LeafProof → ℕ → Rejected → Type 0
IsPartFault leaf part number (Layers i why) = (i ≡ number) × RejectsLayers leaf part why
IsPartFault leaf part number (Tree i value node why) = (i ≡ number) × RejectsTree leaf part value node why
IsPartFault leaf part number Predicate = ⊥
