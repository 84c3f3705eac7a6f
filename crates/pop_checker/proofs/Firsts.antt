-- The first part of a proof that is not valid.
use Rattle.std.proofs.Common.{◌≡◌, ℕ, Bool, true, false, length, sym, subst}
use Rattle.std.specs.Prelude.{Some, slice_get, ◌↔◌, IsTrue, All}
use Rattle.std.proofs.lemmas.Option.{slice_get_within}
use Rattle.pres_ast.specs.PredModel.{PredModel}
use Rattle.pop_leaf.specs.LeafModel.{LeafModel}
use Rattle.pop_leaf.specs.NetModel.{NetModel}
use Rattle.cert_base.specs.declared.proof.Proof.{Proof}
use Rattle.cert_base.specs.declared.proof.LeafProof.{LeafProof}
use Rattle.cert_base.specs.ProofLimits.{IsProofWithin}
use Rattle.pop_checker.specs.Combination.{IsNetPred}
use Rattle.cert_base.specs.ValidProof.{ValidProof, CombinesTo}
use Rattle.pop_checker.specs.declared.fault.Rejected.{Rejected}
use Rattle.pop_checker.specs.declared.fault.Rejected.TheVariants.{Layers, Tree, Predicate}
use Rattle.pop_checker.specs.Rejections.{AreValidBefore, RejectsLayers, RejectsTree, IsFirstRejected, IsRejected}
use Rattle.pop_checker.specs.Parts.{AreRightBefore, IsPartFault}

pub right-valid : (net : NetModel) (proof : Proof) (n : ℕ) → AreRightBefore net proof.leaves n → AreValidBefore net proof n
right-valid net proof n right = λ i leaf part l h k. (right i leaf part l h k).valid

-- the fault of the first leaf that is not right is the whole check's
pub first_fault : (net : NetModel) (proof : Proof) (p : PredModel) (i : ℕ) (leaf : LeafModel) (part : LeafProof) (fault : Rejected) → AreRightBefore net proof.leaves i → slice_get net.leaves i ≡ Some leaf → slice_get proof.leaves i ≡ Some part → IsPartFault leaf part i fault → IsRejected net p proof fault
first_fault net proof p i leaf part (Layers j why) right h k is =
    subst (λ (n : ℕ). IsFirstRejected net proof n (λ l q. RejectsLayers l q why)) (sym is.0)
    (record { before = right-valid net proof i right; leaf = leaf; part = part; leaf_is = h; part_is = k; rejected = is.1 })
first_fault net proof p i leaf part (Tree j value node why) right h k is =
    subst (λ (n : ℕ). IsFirstRejected net proof n (λ l q. RejectsTree l q value node why)) (sym is.0)
    (record { before = right-valid net proof i right; leaf = leaf; part = part; leaf_is = h; part_is = k; rejected = is.1 })
first_fault net proof p i leaf part Predicate right h k is = absurd is

pub all_valid : (net : NetModel) (proof : Proof) (p : PredModel) → ValidProof net p proof → AreValidBefore net proof (length net.leaves)
all_valid net proof p v i leaf part l h k = v.leaves i leaf part h k

-- each predicate of the proof is over the net's variables
abbrev pub AreOver : NetModel → Proof → Type 0
AreOver net proof = All (λ (part : LeafProof). part.pred.variables ≡ length net.variables) proof.leaves

pub within_over : (net : NetModel) (proof : Proof) → IsProofWithin (length net.variables) (length net.leaves) proof → AreOver net proof
within_over net proof within k d l = (within.parts k d l).pred

net_pred : (net : NetModel) (proof : Proof) (p : PredModel) → p.variables ≡ length net.variables → AreOver net proof → CombinesTo net proof p → IsNetPred net proof p
net_pred net proof p e over combines = record { combination = combines; variables = e; parts = over }

pub not_combined : (net : NetModel) (proof : Proof) (p : PredModel) (b : Bool) → (IsTrue b ↔ IsNetPred net proof p) → b ≡ false → p.variables ≡ length net.variables → AreOver net proof → CombinesTo net proof p → ⊥
not_combined net proof p true tells e same over combines = cc
not_combined net proof p false tells e same over combines =
    let clash : false ≡ true = tells.1 (net_pred net proof p same over combines) in cc

pub combined_by : (net : NetModel) (proof : Proof) (p : PredModel) (b : Bool) → (IsTrue b ↔ IsNetPred net proof p) → b ≡ true → CombinesTo net proof p
combined_by net proof p b tells e = (tells.0 e).combination

-- all leaves are right, and their predicates combine
pub valid_from : (net : NetModel) (proof : Proof) (p : PredModel) → length proof.leaves ≡ length net.leaves → AreRightBefore net proof.leaves (length net.leaves) → CombinesTo net proof p → ValidProof net p proof
valid_from net proof p e right combines =
    record {
      one_each = e;
      leaves = λ i leaf part h k. (right i leaf part (slice_get_within net.leaves i leaf h) h k).valid;
      combination = combines;
    }
