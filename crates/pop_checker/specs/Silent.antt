-- Silent: a proof in which each leaf falls silent.
use Rattle.std.specs.Prelude.{◌≡◌, ◌↔◌, ℕ, Bool, true, false, List, [], ◌∷◌, map, Some, slice_get}
use Rattle.std.specs.List.{list_all}
use Rattle.pres_ast.specs.PredModel.{PredModel}
use Rattle.pop_leaf.specs.LeafModel.{LeafModel}
use Rattle.pop_leaf.specs.NetModel.{NetModel}
use Rattle.cert_base.specs.declared.proof.LeafProof.{LeafProof}
use Rattle.cert_base.specs.declared.proof.Proof.{Proof}
use Rattle.cert_base.specs.declared.stable.StablePart.{StablePart}
use Rattle.cert_base.specs.declared.stable.StablePart.TheVariants.{Silent, Stable}
use Rattle.cert_base.specs.declared.stable.StableProof.{StableProof}
use Rattle.cert_base.specs.ProofBound.{proof_bound}
use Rattle.cert_base.specs.ValidProof.{ValidProof}
use Rattle.cert_layers.specs.TameWork.{AreTameInTime}
use Rattle.pop_checker.specs.TameEach.{AreTameInTimeEach}
use Rattle.pop_checker.specs.ValidStable.{ValidPart, stable_bound, ValidStableProof}

-- whether the leaf falls silent
abbrev pub is_silent_part : StablePart → Bool
is_silent_part (Silent part) = true
is_silent_part (Stable goals) = false

-- whether each leaf falls silent
abbrev pub is_silent : StableProof → Bool
is_silent proof = list_all is_silent_part proof.leaves

abbrev pub silent_parts : List StablePart → List LeafProof
silent_parts [] = []
silent_parts (Silent part ∷ parts) = part ∷ silent_parts parts
silent_parts (Stable goals ∷ parts) = silent_parts parts

-- the parts of the leaves that fall silent
abbrev pub silent_proof : StableProof → Proof
silent_proof proof = record { leaves = silent_parts proof.leaves }

-- these parts, each of a leaf that falls silent
abbrev pub of_silent : Proof → StableProof
of_silent proof = record { leaves = map Silent proof.leaves }

-- the layers of the leaf are tame, told apart from others by no more work than the limit
abbrev pub IsTamePart : LeafModel → StablePart → Type 0
IsTamePart leaf (Silent part) = AreTameInTime leaf part.layers
IsTamePart leaf (Stable goals) = ⊥

-- each leaf falls silent by tame layers
abbrev pub AreTameParts : NetModel → StableProof → Type 0
AreTameParts net proof =
    (i : ℕ) (leaf : LeafModel) (part : StablePart) → slice_get net.leaves i ≡ Some leaf
    → slice_get proof.leaves i ≡ Some part → IsTamePart leaf part

-- each leaf has a valid part
abbrev pub ArePartsValid : NetModel → StableProof → Type 0
ArePartsValid net proof =
    (i : ℕ) (leaf : LeafModel) (part : StablePart) → slice_get net.leaves i ≡ Some leaf
    → slice_get proof.leaves i ≡ Some part → ValidPart leaf part

-- a proof in which each leaf falls silent is that of its parts, and means the same
pub record SilentProofs : Type 0 where
  pub same : (proof : StableProof) → is_silent proof ≡ true → of_silent (silent_proof proof) ≡ proof
  pub silent : (proof : Proof) → is_silent (of_silent proof) ≡ true
  pub parts : (proof : Proof) → silent_proof (of_silent proof) ≡ proof
  pub bound : (proof : Proof) → stable_bound (of_silent proof) ≡ proof_bound proof
  pub valid : (net : NetModel) (p : PredModel) (proof : Proof)
      → ValidStableProof net p (of_silent proof) ↔ ValidProof net p proof
  pub tame : (net : NetModel) (proof : Proof) → AreTameParts net (of_silent proof) ↔ AreTameInTimeEach net proof
