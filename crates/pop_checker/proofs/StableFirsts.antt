-- The first part that is not valid, and what is left when there is none.
use Rattle.std.proofs.Common.{◌≡◌, ℕ, true, false, length, sym, subst}
use Rattle.std.specs.Prelude.{Some, slice_get}
use Rattle.std.proofs.lemmas.List.Elements.{All-map, All-weaker}
use Rattle.std.proofs.lemmas.Option.{slice_get_within}
use Rattle.pres_ast.specs.PredModel.{PredModel}
use Rattle.pop_leaf.specs.LeafModel.{LeafModel}
use Rattle.pop_leaf.specs.NetModel.{NetModel}
use Rattle.cert_base.specs.declared.proof.LeafProof.{LeafProof}
use Rattle.cert_base.specs.declared.stable.StablePart.{StablePart}
use Rattle.cert_base.specs.declared.stable.StablePart.TheVariants.{Silent, Stable}
use Rattle.cert_base.specs.declared.stable.StableProof.{StableProof}
use Rattle.cert_base.specs.StableProof.{pred_of_part, IsPartWithin, IsStableProofWithin}
use Rattle.cert_base.specs.ValidProof.{CombinesTo}
use Rattle.pop_checker.specs.declared.fault.Rejected.TheVariants.{Layers, Tree, Predicate}
use Rattle.pop_checker.proofs.Firsts.{AreOver}
use Rattle.pop_checker.specs.declared.stable_fault.StableRejected.{StableRejected}
use Rattle.pop_checker.specs.declared.stable_fault.StableRejected.TheVariants.{Plain, Goal}
use Rattle.pop_checker.specs.ValidStable.{ArePartsValidBefore, predicate_alone, predicates_alone, ValidStableProof}
use Rattle.pop_checker.specs.StableRejections.{IsPartRejected, IsFirstPart, IsStableRejected}

module _ (net : NetModel) (proof : StableProof) (i : ℕ) (leaf : LeafModel) (part : StablePart) (before : ArePartsValidBefore net proof.leaves i) (h : slice_get net.leaves i ≡ Some leaf) (k : slice_get proof.leaves i ≡ Some part) where
  first_at : (rejected : StableRejected) (j : ℕ) → IsPartRejected leaf part i rejected → j ≡ i → IsFirstPart net proof j rejected
  first_at rejected j is same =
      subst (λ (n : ℕ). IsFirstPart net proof n rejected) (sym same)
      (record { before = before; leaf = leaf; part = part; leaf_is = h; part_is = k; rejected_is = is })

-- the fault of the first leaf that is rejected is the whole check's
pub first_rejected : (net : NetModel) (proof : StableProof) (p : PredModel) (i : ℕ) (leaf : LeafModel) (part : StablePart) (rejected : StableRejected) → ArePartsValidBefore net proof.leaves i → slice_get net.leaves i ≡ Some leaf → slice_get proof.leaves i ≡ Some part → IsPartRejected leaf part i rejected → IsStableRejected net p proof rejected
first_rejected net proof p i leaf (Silent part) (Plain (Layers j why)) before h k is = first_at net proof i leaf (Silent part) before h k (Plain (Layers j why)) j is is.0
first_rejected net proof p i leaf (Silent part) (Plain (Tree j value node why)) before h k is = first_at net proof i leaf (Silent part) before h k (Plain (Tree j value node why)) j is is.0
first_rejected net proof p i leaf (Silent part) (Plain Predicate) before h k is = absurd is
first_rejected net proof p i leaf (Silent part) (Goal j value why) before h k is = absurd is
first_rejected net proof p i leaf (Stable goals) (Plain rejected) before h k is = absurd is
first_rejected net proof p i leaf (Stable goals) (Goal j true why) before h k is = first_at net proof i leaf (Stable goals) before h k (Goal j true why) j is is.0
first_rejected net proof p i leaf (Stable goals) (Goal j false why) before h k is = first_at net proof i leaf (Stable goals) before h k (Goal j false why) j is is.0

part_over : (n : ℕ) (part : StablePart) → IsPartWithin n part → (pred_of_part part).variables ≡ n
part_over n (Silent part) within = within.pred
part_over n (Stable goals) within = within.pred

pub alone_over : (net : NetModel) (proof : StableProof) → IsStableProofWithin (length net.variables) (length net.leaves) proof → AreOver net (predicates_alone proof)
alone_over net proof within =
    let n = length net.variables in
    All-map (λ (part : LeafProof). part.pred.variables ≡ n) predicate_alone proof.leaves
    (All-weaker (IsPartWithin n) (λ (part : StablePart). (pred_of_part part).variables ≡ n) (part_over n) proof.leaves within.parts)

-- all leaves are right, and their predicates combine
pub valid_from : (net : NetModel) (proof : StableProof) (p : PredModel) → length proof.leaves ≡ length net.leaves → ArePartsValidBefore net proof.leaves (length net.leaves) → CombinesTo net (predicates_alone proof) p → ValidStableProof net p proof
valid_from net proof p e valid combines =
    record {
      one_each = e;
      leaves = λ i leaf part h k. valid i leaf part (slice_get_within net.leaves i leaf h) h k;
      combination = combines;
    }
