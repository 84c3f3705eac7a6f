-- The proof of a built leaf of `Rest` is valid and within the limits.
use Rattle.std.proofs.Common.{◌≡◌, ◌∙◌, refl, ap, sym, subst, true, false, ℕ, ◌<◌, ◌≤◌, List, length, arith}
use Rattle.std.specs.Prelude.{ℤ}
use Rattle.pop_leaf.specs.LeafModel.{LeafModel}
use Rattle.pop_leaf.specs.declared.limits.TheConstants.{HELPER_LIMIT}
use Rattle.pres_ast.specs.PredModel.{PredModel}
use Rattle.cert_base.specs.declared.layer.Layer.{Layer}
use Rattle.cert_base.specs.declared.node.Node.{Node}
use Rattle.cert_base.specs.declared.proof.LeafProof.{LeafProof}
use Rattle.cert_base.specs.ValidProof.{ValidLeafProof}
use Rattle.cert_base.specs.ProofLimits.{IsLeafProofWithin}
use Rattle.comp_remainder.specs.RemainderLeaf.{remainder_leaf_of}
use Rattle.comp_remainder.proofs.Formed.{remainder-formed}
use Rattle.comp_remainder.specs.RemainderLayers.{remainder_layers}
use Rattle.comp_remainder.specs.RemainderProof.{congruence, remainder_tree, remainder_part}
use Rattle.comp_remainder.proofs.Layers.{layers-valid, layers-tame}
use Rattle.cert_base.specs.TameLayers.{TameLayers}
use Rattle.comp_remainder.proofs.Trees.{tree-true, tree-false}
use Rattle.comp_remainder.proofs.Within.{layers-within, nodes-within}

pub remainder-valid : (coefs : List ℤ) (m rest spare : ℕ) → 1 ≤ length coefs → length coefs ≤ 16 → 2 ≤ m → m ≤ 200 → rest < m → spare ≤ HELPER_LIMIT → ValidLeafProof (remainder_leaf_of coefs m rest spare) (remainder_part coefs m rest spare)
remainder-valid coefs m rest spare some few low high below held =
    let formed = remainder-formed coefs m rest spare some few (omega arith) high held in
    record {
      layers = layers-valid coefs m rest spare;
      on_true = tree-true coefs m rest spare low high below formed;
      on_false = tree-false coefs m rest spare low high below formed;
    }

pub remainder-within : (coefs : List ℤ) (m rest spare : ℕ) → 1 ≤ length coefs → length coefs ≤ 16 → 2 ≤ m → m ≤ 200 → rest < m → spare ≤ HELPER_LIMIT → IsLeafProofWithin (length coefs) (remainder_part coefs m rest spare)
remainder-within coefs m rest spare some few low high below held =
    let formed = remainder-formed coefs m rest spare some few (omega arith) high held in
    record {
      pred = refl;
      layer_count = omega arith;
      layers = layers-within coefs m rest spare low high below formed;
      on_true = nodes-within coefs m rest spare low high below formed true;
      on_false = nodes-within coefs m rest spare low high below formed false;
    }

-- the proof as the code puts it together
pub part-as : (coefs : List ℤ) (m rest spare : ℕ) (leaf : LeafModel) (pred : PredModel) (layers : List Layer) (on_true on_false : List Node) → leaf ≡ remainder_leaf_of coefs m rest spare → pred ≡ congruence coefs m rest → layers ≡ remainder_layers leaf m → on_true ≡ remainder_tree leaf m rest true → on_false ≡ remainder_tree leaf m rest false → record { pred = pred; layers = layers; on_true = on_true; on_false = on_false } ≡ remainder_part coefs m rest spare
part-as coefs m rest spare leaf pred layers on_true on_false el ep ey ea eb =
    let part : PredModel → List Layer → List Node → List Node → LeafProof = λ p y a b. record { pred = p; layers = y; on_true = a; on_false = b } in
    let built = remainder_leaf_of coefs m rest spare in
    let layers_are : layers ≡ remainder_layers built m = ey ∙ ap (λ l. remainder_layers l m) el in
    let true_is : on_true ≡ remainder_tree built m rest true = ea ∙ ap (λ l. remainder_tree l m rest true) el in
    let false_is : on_false ≡ remainder_tree built m rest false = eb ∙ ap (λ l. remainder_tree l m rest false) el in
    ap (λ p. part p layers on_true on_false) ep
    ∙ ap (λ y. part (congruence coefs m rest) y on_true on_false) layers_are
    ∙ ap (λ a. part (congruence coefs m rest) (remainder_layers built m) a on_false) true_is
    ∙ ap (λ b. part (congruence coefs m rest) (remainder_layers built m) (remainder_tree built m rest true) b) false_is

pub whole-valid : (coefs : List ℤ) (m rest spare : ℕ) (leaf : LeafModel) (part : LeafProof) → leaf ≡ remainder_leaf_of coefs m rest spare → part ≡ remainder_part coefs m rest spare → 1 ≤ length coefs → length coefs ≤ 16 → 2 ≤ m → m ≤ 200 → rest < m → spare ≤ HELPER_LIMIT → ValidLeafProof leaf part
whole-valid coefs m rest spare leaf part el ep some few low high below held =
    subst (λ l. ValidLeafProof l part) (sym el) (subst (ValidLeafProof (remainder_leaf_of coefs m rest spare)) (sym ep) (remainder-valid coefs m rest spare some few low high below held))

pub whole-tame : (coefs : List ℤ) (m rest spare : ℕ) (leaf : LeafModel) (part : LeafProof) → leaf ≡ remainder_leaf_of coefs m rest spare → part ≡ remainder_part coefs m rest spare → TameLayers leaf part.layers
whole-tame coefs m rest spare leaf part el ep =
    subst (λ l. TameLayers l part.layers) (sym el) (subst (λ (p : LeafProof). TameLayers (remainder_leaf_of coefs m rest spare) p.layers) (sym ep) (layers-tame coefs m rest spare))
