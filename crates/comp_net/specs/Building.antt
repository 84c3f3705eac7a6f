-- Building: what a net and its proof are made of, atom by atom.
use Rattle.std.specs.Prelude.{◌≡◌, ℕ, List, [], ◌∷◌, ◌++◌, length, map}
use Rattle.pop_leaf.specs.LeafModel.{LeafModel}
use Rattle.pop_leaf.specs.declared.item.Item.TheVariants.{Leaf}
use Rattle.pres_ast.specs.PredTree.{PredTree}
use Rattle.cert_base.specs.declared.proof.LeafProof.{LeafProof}
use Rattle.cert_base.specs.ProofBound.{layers_bound}
use Rattle.cert_base.specs.ValidProof.{ValidLeafProof}
use Rattle.cert_base.specs.ProofLimits.{IsLeafProofWithin}
use Rattle.cert_base.specs.TameLayers.{TameLayers}
use Rattle.comp_net.specs.declared.choice.NetLeaves.{NetLeaves}
use Rattle.comp_net.specs.declared.building.Built.{Built}
use Rattle.comp_net.specs.Atoms.{atoms, postfix}
use Rattle.comp_net.specs.BuiltNet.{leaf_of}
use Rattle.comp_net.specs.BuiltBound.{atom_steps}

-- a valid proof for an atom and its leaf in a net with so many helpers
pub record IsAtomProof (choice : NetLeaves) (helpers : ℕ) (atom : PredTree) (part : LeafProof) : Type 0 where
  pub tree_is : part.pred.tree ≡ atom
  pub valid : ValidLeafProof (leaf_of choice helpers atom) part
  pub within : IsLeafProofWithin (length (leaf_of choice helpers atom).inputs) part
  pub bound : layers_bound part.layers ≡ atom_steps choice atom
  pub tame : TameLayers (leaf_of choice helpers atom) part.layers

-- an atom's leaf, and a valid proof for it
pub record IsAtom (choice : NetLeaves) (helpers : ℕ) (atom : PredTree) (leaf : LeafModel) (part : LeafProof)
    : Type 0 where
  pub leaf_is : leaf ≡ leaf_of choice helpers atom
  pub proof : IsAtomProof choice helpers atom part

-- one for each atom
abbrev pub AreAtomProofs : NetLeaves → ℕ → List PredTree → List LeafProof → Type 0
AreAtomProofs choice helpers [] [] = Unit {0}
AreAtomProofs choice helpers [] (part ∷ parts) = ⊥
AreAtomProofs choice helpers (atom ∷ more) [] = ⊥
AreAtomProofs choice helpers (atom ∷ more) (part ∷ parts) =
    IsAtomProof choice helpers atom part × AreAtomProofs choice helpers more parts

-- the proofs of these atoms were added after those of any others
abbrev pub AddProofs : NetLeaves → ℕ → List PredTree → List LeafProof → List LeafProof → Type 0
AddProofs choice helpers added before after =
    (others : List PredTree) → AreAtomProofs choice helpers others before
    → AreAtomProofs choice helpers (others ++ added) after

-- a leaf, its proof, and the item that stands for it were added
pub record AddsLeaf (leaf : LeafModel) (part : LeafProof) (before after : Built) : Type 0 where
  pub leaves : after.leaves.items ≡ before.leaves.items ++ leaf ∷ []
  pub parts : after.parts.items ≡ before.parts.items ++ part ∷ []
  pub items : after.items.items ≡ before.items.items ++ Leaf (length before.leaves.items) ∷ []

-- the leaves of a tree's atoms, their proofs, and the tree in postfix were added
pub record AddsTree (choice : NetLeaves) (helpers : ℕ) (tree : PredTree) (before after : Built) : Type 0 where
  pub leaves : after.leaves.items ≡ before.leaves.items ++ map (leaf_of choice helpers) (atoms tree)
  pub parts : AddProofs choice helpers (atoms tree) before.parts.items after.parts.items
  pub items : after.items.items ≡ before.items.items ++ postfix (length before.leaves.items) tree
