-- What is written is the file of the proof.
use Rattle.std.proofs.Common.{◌≡◌, ℕ, ◌<◌, ◌^◌, List, [], ◌∷◌, length, map, codes, ℤ, pos, negsuc, Some, Ok, refl, arith, sym, ap, ◌∙◌}
use Rattle.std.specs.Prelude.{All, Result, Err, IfOk}
use Rattle.std.proofs.lemmas.Bool.{lt-ltb}
use Rattle.serde_json.specs.Data.{Data, string}
use Rattle.serde_json.specs.Find.{get}
use Rattle.serde_json.specs.View.{view, items_of}
use Rattle.serde_json.specs.declared.value.Value.{Value}
use Rattle.pop_io.specs.declared.fault.NoMemory.{NoMemory}
use Rattle.pop_io.specs.Names.{variable_name, AreNames}
use Rattle.base_json.specs.Parts.{IsNumber, IsInteger, IsList}
use Rattle.pres_ast.specs.PredModel.{PredModel, IsPred}
use Rattle.pres_read.specs.Canonical.{tree_text}
use Rattle.pres_read.proofs.Again.{printed_read}
use Rattle.pres_read.proofs.PredTexts.{read_meant}
use Rattle.net_json.specs.Written.{number_data, list_data, numbers_data}
use Rattle.net_json.proofs.Writes.{written_list}
use Rattle.cert_base.specs.declared.fact.Term.{Term}
use Rattle.cert_base.specs.declared.layer.Layer.{Layer}
use Rattle.cert_base.specs.declared.node.Node.{Node}
use Rattle.cert_base.specs.declared.node.Node.TheVariants.{Linear, Residue, Split, Present, Twin, Trap, Siphon, Open}
use Rattle.cert_base.specs.declared.node.Node.TheVariants.{First}
use Rattle.cert_base.specs.declared.proof.Proof.{Proof}
use Rattle.cert_base.specs.declared.proof.LeafProof.{LeafProof}
use Rattle.cert_base.specs.ProofLimits.{IsSmall, IsTermWithin, AreTermsWithin, IsSetWithin, IsNodeWithin, AreNodesWithin, IsLayerWithin, IsLeafProofWithin, IsProofWithin}
use Rattle.cert_json.specs.ProofFile.{IsPredText, IsTerm, IsNode, IsLayerFile, IsLeafProofFile}
use Rattle.cert_json.specs.Examined.{proof_at}
use Rattle.cert_json.specs.Written.{integer_data, integers_data, term_data, terms_data, node_data, nodes_data, layer_data, leaf_proof_data, proof_data}
use Rattle.cert_json.proofs.ProofLaws.{proof_again}
use Rattle.pres_read.proofs.PrintedLength.{printed_short}

number_is : (n : ℕ) → n < 2 ^ 32 → IsNumber n (number_data n)
number_is n small = let fits : n < 2 ^ 63 = omega arith in rw (lt-ltb n (2 ^ 63) fits) refl

integer_is : (z : ℤ) → IsSmall z → IsInteger z (integer_data z)
integer_is (pos n) small = let fits : n < 2 ^ 63 = omega (arith, small) in rw (lt-ltb n (2 ^ 63) fits) refl
integer_is (negsuc n) small = refl

term_is : (t : Term) → IsTermWithin t → IsTerm t (term_data t)
term_is t fits = (items_of (number_data t.at ∷ integer_data t.by ∷ []), refl, (number_is t.at fits.0, integer_is t.by fits.1))

terms_are : (ts : List Term) → AreTermsWithin ts → IsList IsTerm ts (terms_data ts)
terms_are ts fits = written_list IsTermWithin IsTerm term_data term_is ts fits.1

state_is : (q : ℕ) → q < 2 ^ 16 → IsNumber q (number_data q)
state_is q small = number_is q (omega arith)

set_is : (qs : List ℕ) → IsSetWithin qs → IsList IsNumber qs (numbers_data qs)
set_is qs fits = written_list (λ q. q < 2 ^ 16) IsNumber number_data state_is qs fits.1

node_is : (node : Node) → IsNodeWithin node → IsNode node (node_data node)
node_is (Linear terms) fits = (items_of (string (codes "lin") ∷ terms_data terms ∷ []), refl, (refl, terms_are terms fits))
node_is (Residue m terms) fits = (items_of (string (codes "residue") ∷ number_data m ∷ terms_data terms ∷ []), refl, (refl, (number_is m (omega (arith, fits.1)), terms_are terms fits.2)))
node_is (Split row) fits = (items_of (string (codes "split") ∷ terms_data row.terms ∷ integer_data row.constant ∷ []), refl, (refl, (terms_are row.terms fits.0, integer_is row.constant fits.2)))
node_is (Present p) fits = (items_of (string (codes "present") ∷ number_data p ∷ []), refl, (refl, state_is p fits))
node_is (Twin p) fits = (items_of (string (codes "twin") ∷ number_data p ∷ []), refl, (refl, state_is p fits))
node_is (Trap set) fits = (items_of (string (codes "trap") ∷ numbers_data set ∷ []), refl, (refl, set_is set fits))
node_is (Siphon set) fits = (items_of (string (codes "siphon") ∷ numbers_data set ∷ []), refl, (refl, set_is set fits))
node_is (Open f) fits = (items_of (string (codes "open") ∷ number_data f ∷ []), refl, (refl, number_is f fits))
node_is (First set) fits = (items_of (string (codes "first") ∷ numbers_data set ∷ []), refl, (refl, set_is set fits))

nodes_are : (nodes : List Node) → AreNodesWithin nodes → IsList IsNode nodes (nodes_data nodes)
nodes_are nodes fits = written_list IsNodeWithin IsNode node_data node_is nodes fits.1

layer_is : (layer : Layer) → IsLayerWithin layer → IsLayerFile layer (layer_data layer)
unfolding layer_data
layer_is layer fits =
    record {
      moves = (numbers_data layer.moves, refl, written_list (λ n. n < 2 ^ 32) IsNumber number_data number_is layer.moves fits.moves);
      weights = (integers_data layer.weights, refl, written_list IsSmall IsInteger integer_data integer_is layer.weights fits.weights);
    }

module _ (names : List (List ℕ)) (named : AreNames variable_name names) where
  pub pred_is : (p : PredModel) → p.variables ≡ length names → IsPred (length names) p.tree → IsPredText names p (string (tree_text names p.tree))
  pred_is p over limits = (
    tree_text names p.tree,
    refl,
    read_meant names (tree_text names p.tree) p
        (printed_read names p.tree named limits (printed_short names p.tree named limits) ∙ ap (λ (n : ℕ). Ok (record { variables = n; tree = p.tree })) (sym over)),
  )

  abbrev Fits : LeafProof → Type 0
  Fits part = IsLeafProofWithin (length names) part × IsPred (length names) part.pred.tree

  leaf_proof_is : (part : LeafProof) → Fits part → IsLeafProofFile names part (leaf_proof_data names part)
  unfolding leaf_proof_data
  leaf_proof_is part fits =
      record {
        pred = (string (tree_text names part.pred.tree), refl, pred_is part.pred fits.0.pred fits.1);
        layers = (list_data (map layer_data part.layers), refl, written_list IsLayerWithin IsLayerFile layer_data layer_is part.layers fits.0.layers);
        on_true = (nodes_data part.on_true, refl, nodes_are part.on_true fits.0.on_true);
        on_false = (nodes_data part.on_false, refl, nodes_are part.on_false fits.0.on_false);
      }

  pub proof_is : (proof : Proof) → All Fits proof.leaves → IsList (IsLeafProofFile names) proof.leaves (proof_data names proof)
  unfolding proof_data
  proof_is proof fits = written_list Fits (IsLeafProofFile names) (leaf_proof_data names) leaf_proof_is proof.leaves fits

  pub written_again : (proof : Proof) → All (λ part. IsPred (length names) part.pred.tree) proof.leaves → (bundle : Data) → get (codes "proof") bundle ≡ Some (proof_data names proof)
      → IsProofWithin (length names) (length proof.leaves) proof → proof_at names (length proof.leaves) bundle ≡ Ok proof
  written_again proof preds bundle has fits =
      proof_again names (length proof.leaves) bundle proof (proof_data names proof, has, proof_is proof (λ i part within. (fits.parts i part within, preds i part within))) fits

  pub result_again : (proof : Proof) (r : Result Value NoMemory) → IfOk r (λ v. view v ≡ proof_data names proof) → IfOk r (λ v. All (λ part. IsPred (length names) part.pred.tree) proof.leaves)
      → IfOk r (λ v. (bundle : Data) → get (codes "proof") bundle ≡ Some (view v) → IsProofWithin (length names) (length proof.leaves) proof → proof_at names (length proof.leaves) bundle ≡ Ok proof)
  result_again proof (Ok v) is preds = λ bundle has fits. written_again proof preds bundle (has ∙ ap (λ (d : Data). Some d) is) fits
  result_again proof (Err e) is preds = tt
