-- A proof in which each leaf falls silent is that of its parts.
use Rattle.std.proofs.Common.{◌≡◌, ℕ, zero, suc, ◌+◌, Bool, true, false, List, [], ◌∷◌, length, map, Some, refl, sym, ap, subst, ◌∙◌}
use Rattle.std.specs.Prelude.{◌↔◌, slice_get, sum_by}
use Rattle.std.specs.List.{list_all}
use Rattle.std.proofs.lemmas.List.Sums.{sum_by-cons}
use Rattle.pres_ast.specs.PredTree.{PredTree}
use Rattle.pres_ast.specs.PredModel.{PredModel}
use Rattle.pop_leaf.specs.LeafModel.{LeafModel}
use Rattle.pop_leaf.specs.NetModel.{NetModel, combined}
use Rattle.cert_base.specs.declared.proof.LeafProof.{LeafProof}
use Rattle.cert_base.specs.declared.proof.Proof.{Proof}
use Rattle.cert_base.specs.declared.stable.StablePart.{StablePart}
use Rattle.cert_base.specs.declared.stable.StablePart.TheVariants.{Silent, Stable}
use Rattle.cert_base.specs.declared.stable.StableProof.{StableProof}
use Rattle.cert_base.specs.ProofBound.{layers_bound, proof_bound}
use Rattle.cert_base.specs.ValidProof.{trees, ValidLeafProof, ValidProof}
use Rattle.cert_layers.specs.TameWork.{AreTameInTime}
use Rattle.pop_checker.specs.TameEach.{AreTameInTimeEach}
use Rattle.pop_checker.specs.ValidStable.{ValidPart, part_bound, stable_bound, predicate_alone, ValidStableProof}
use Rattle.pop_checker.specs.Silent.{is_silent_part, is_silent, silent_parts, silent_proof, of_silent, IsTamePart, AreTameParts, SilentProofs}

same_parts : (parts : List StablePart) → list_all is_silent_part parts ≡ true → map Silent (silent_parts parts) ≡ parts
same_parts [] all = refl
same_parts (Silent part ∷ parts) all = ap (λ (ps : List StablePart). Silent part ∷ ps) (same_parts parts all)
same_parts (Stable goals ∷ parts) all = absurd (cc all)

all_silent : (parts : List LeafProof) → list_all is_silent_part (map Silent parts) ≡ true
all_silent [] = refl
all_silent (part ∷ parts) = all_silent parts

parts_back : (parts : List LeafProof) → silent_parts (map Silent parts) ≡ parts
parts_back [] = refl
parts_back (part ∷ parts) = ap (λ (ps : List LeafProof). part ∷ ps) (parts_back parts)

bounds : (parts : List LeafProof) → sum_by part_bound (map Silent parts) ≡ sum_by (λ (part : LeafProof). layers_bound part.layers) parts
bounds [] = refl
bounds (part ∷ parts) =
    sum_by-cons part_bound (Silent part) (map Silent parts)
    ∙ ap (λ n. layers_bound part.layers + n) (bounds parts)
    ∙ sym (sum_by-cons (λ (p : LeafProof). layers_bound p.layers) part parts)

same_length : (parts : List LeafProof) → length (map Silent parts) ≡ length parts
same_length [] = refl
same_length (part ∷ parts) = ap suc (same_length parts)

same_trees : (parts : List LeafProof) → map (λ (part : LeafProof). part.pred.tree) (map predicate_alone (map Silent parts)) ≡ map (λ (part : LeafProof). part.pred.tree) parts
same_trees [] = refl
same_trees (part ∷ parts) = ap (λ (ts : List PredTree). part.pred.tree ∷ ts) (same_trees parts)

-- the part at a place
part_in : (parts : List LeafProof) (i : ℕ) (part : StablePart) → slice_get (map Silent parts) i ≡ Some part → (own : LeafProof) × (slice_get parts i ≡ Some own) × (Silent own ≡ part)
part_in [] i part e = cc
part_in (own ∷ parts) zero part e = (own, refl, cc)
part_in (own ∷ parts) (suc i) part e = part_in parts i part e

pub silent_listed : (parts : List LeafProof) (i : ℕ) (part : LeafProof) → slice_get parts i ≡ Some part → slice_get (map Silent parts) i ≡ Some (Silent part)
silent_listed [] i part e = cc
silent_listed (own ∷ parts) zero part e = let same : own ≡ part = cc in ap (λ (p : LeafProof). Some (Silent p)) same
silent_listed (own ∷ parts) (suc i) part e = silent_listed parts i part e

module _ (net : NetModel) (p : PredModel) (proof : Proof) where
  combines : combined (trees (map (λ (part : LeafProof). part.pred.tree) (map predicate_alone (map Silent proof.leaves)))) net.combine ≡ combined (trees (map (λ (part : LeafProof). part.pred.tree) proof.leaves)) net.combine
  combines = ap (λ (ts : List PredTree). combined (trees ts) net.combine) (same_trees proof.leaves)

  valid_back : ValidStableProof net p (of_silent proof) → ValidProof net p proof
  valid_back v =
      record {
        one_each = sym (same_length proof.leaves) ∙ v.one_each;
        leaves = λ i leaf part h k. v.leaves i leaf (Silent part) h (silent_listed proof.leaves i part k);
        combination = sym combines ∙ v.combination;
      }

  valid_on : ValidProof net p proof → ValidStableProof net p (of_silent proof)
  valid_on v =
      record {
        one_each = same_length proof.leaves ∙ v.one_each;
        leaves = λ i leaf part h k.
            let own = part_in proof.leaves i part k in
            subst (ValidPart leaf) own.2 (v.leaves i leaf own.0 h own.1);
        combination = combines ∙ v.combination;
      }

module _ (net : NetModel) (proof : Proof) where
  tame_back : AreTameParts net (of_silent proof) → AreTameInTimeEach net proof
  tame_back t i leaf part h k = t i leaf (Silent part) h (silent_listed proof.leaves i part k)

  tame_on : AreTameInTimeEach net proof → AreTameParts net (of_silent proof)
  tame_on t i leaf part h k =
      let own = part_in proof.leaves i part k in
      subst (IsTamePart leaf) own.2 (t i leaf own.0 h own.1)

pub silent_proofs : SilentProofs
silent_proofs =
    record {
      same = λ proof all. ap (λ (parts : List StablePart). (let made : StableProof = record { leaves = parts } in made)) (same_parts proof.leaves all);
      silent = λ proof. all_silent proof.leaves;
      parts = λ proof. ap (λ (parts : List LeafProof). (let made : Proof = record { leaves = parts } in made)) (parts_back proof.leaves);
      bound = λ proof. bounds proof.leaves;
      valid = λ net p proof. (valid_back net p proof, valid_on net p proof);
      tame = λ net proof. (tame_back net proof, tame_on net proof);
    }
