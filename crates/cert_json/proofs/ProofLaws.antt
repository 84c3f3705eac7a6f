-- What is read of a proof is in its file, and each such file is read.
use Rattle.std.proofs.Common.{◌≡◌, ℕ, List, [], length, codes, Result, Ok, Err, refl, ap, subst, arith}
use Rattle.std.specs.Prelude.{◌≢◌, IfOk, IfErr}
use Rattle.serde_json.specs.Data.{Data}
use Rattle.base_json.specs.declared.fault.FormatFault.{FormatFault}
use Rattle.base_json.specs.declared.fault.FormatFault.TheVariants as fault
use Rattle.base_json.specs.Faults.{Fault, ◌>>=◌, GivesRead}
use Rattle.base_json.specs.Paths.{member_path, item_path}
use Rattle.base_json.specs.Shapes.{object_at, member_at, member_by, text_at, item_by, each_at}
use Rattle.base_json.proofs.Steps.{bind_ok, same_ok}
use Rattle.base_json.proofs.Readers
use Rattle.base_json.proofs.Fresh.{EachFrom-All, All-EachFrom}
use Rattle.pres_ast.specs.PredModel.{PredModel}
use Rattle.pres_read.specs.declared.fault.ReadPred.{ReadPred}
use Rattle.pres_read.specs.Reading.{pred_read}
use Rattle.pres_read.proofs.PredTexts.{read_meant, meant_read}
use Rattle.cert_base.specs.declared.layer.Layer.{Layer}
use Rattle.cert_base.specs.declared.node.Node.{Node}
use Rattle.cert_base.specs.declared.proof.Proof.{Proof}
use Rattle.cert_base.specs.declared.proof.LeafProof.{LeafProof}
use Rattle.cert_base.specs.ProofLimits.{IsLeafProofWithin, IsProofWithin}
use Rattle.cert_json.specs.ProofFile.{IsPredText, IsLeafProofFile, IsProofFile}
use Rattle.cert_json.specs.Examined.{pred_or_why, pred_at, layers_at, nodes_at, leaf_proof_at, leaf_proof_item, leaf_proofs_at, proof_at}
use Rattle.cert_json.proofs.PartLaws.{layers_at-takes, layers_at-again}
use Rattle.cert_json.proofs.NodeLaws.{nodes_at-takes, nodes_at-again}

read_ok : (path : List ℕ) (r : Result PredModel ReadPred) (p : PredModel) → pred_or_why path r ≡ Ok p → r ≡ Ok p
read_ok path (Ok q) p e = ap (λ (m : PredModel). Ok m) (same_ok q p e)
read_ok path (Err f) p e = absurd cc

module _ (names : List (List ℕ)) where
  pub pred_takes : (path : List ℕ) (d : Data) (p : PredModel) → pred_at names path d ≡ Ok p → IsPredText names p d × (p.variables ≡ length names)
  unfolding pred_at
  pred_takes path d p e =
      let a = bind_ok (text_at path d) (λ s. pred_or_why path (pred_read names s)) p e in
      let r = read_ok path (pred_read names a.0) p a.2 in
      let meant = read_meant names a.0 p r in ((a.0, Readers.text_at-takes path d a.0 a.1, meant), meant.variables)

  pub pred_again : (path : List ℕ) (d : Data) (p : PredModel) → IsPredText names p d → pred_at names path d ≡ Ok p
  unfolding pred_at
  pred_again path d p is = rw (Readers.text_at-again path d is.0 is.1, meant_read names is.0 p is.2) refl

  abbrev pub Parted : Data → LeafProof → Type 0
  Parted d part = IsLeafProofFile names part d × IsLeafProofWithin (length names) part

  leaf_of : (path : List ℕ) (d : Data) (p : PredModel) (ls : List Layer) (ts fs : List Node)
      → member_by path (codes "pred") (pred_at names) d ≡ Ok p
      → member_by path (codes "layers") layers_at d ≡ Ok ls
      → member_by path (codes "true") nodes_at d ≡ Ok ts
      → member_by path (codes "false") nodes_at d ≡ Ok fs
      → Parted d (record { pred = p; layers = ls; on_true = ts; on_false = fs })
  leaf_of path d p ls ts fs ep el et ef =
      let p' = bind_ok (member_at path (codes "pred") d) (λ v. pred_at names (member_path path (codes "pred")) v) p ep in
      let l' = bind_ok (member_at path (codes "layers") d) (λ v. layers_at (member_path path (codes "layers")) v) ls el in
      let t' = bind_ok (member_at path (codes "true") d) (λ v. nodes_at (member_path path (codes "true")) v) ts et in
      let f' = bind_ok (member_at path (codes "false") d) (λ v. nodes_at (member_path path (codes "false")) v) fs ef in
      let pt = pred_takes (member_path path (codes "pred")) p'.0 p p'.2 in
      let lt = layers_at-takes (member_path path (codes "layers")) l'.0 ls l'.2 in
      let tt' = nodes_at-takes (member_path path (codes "true")) t'.0 ts t'.2 in
      let ft = nodes_at-takes (member_path path (codes "false")) f'.0 fs f'.2 in (
        record {
          pred = (p'.0, Readers.member_at-takes path (codes "pred") d p'.0 p'.1, pt.0);
          layers = (l'.0, Readers.member_at-takes path (codes "layers") d l'.0 l'.1, lt.0);
          on_true = (t'.0, Readers.member_at-takes path (codes "true") d t'.0 t'.1, tt'.0);
          on_false = (f'.0, Readers.member_at-takes path (codes "false") d f'.0 f'.1, ft.0);
        },
        record { pred = pt.1; layer_count = lt.1; layers = lt.2; on_true = tt'.1; on_false = ft.1 },
      )

  pub leaf_takes : (path : List ℕ) (d : Data) (part : LeafProof) → leaf_proof_at names path d ≡ Ok part → Parted d part
  unfolding leaf_proof_at
  leaf_takes path d part e =
      let made = λ (p : PredModel) (ls : List Layer) (ts fs : List Node). (let o : Result LeafProof Fault = Ok (record { pred = p; layers = ls; on_true = ts; on_false = fs }) in o) in
      let pred = member_by path (codes "pred") (pred_at names) d in
      let layers = member_by path (codes "layers") layers_at d in
      let trues = member_by path (codes "true") nodes_at d in
      let falses = member_by path (codes "false") nodes_at d in
      let a = bind_ok (object_at path d) (λ o. pred >>= λ p. layers >>= λ ls. trues >>= λ ts. falses >>= λ fs. made p ls ts fs) part e in
      let p = bind_ok pred (λ p. layers >>= λ ls. trues >>= λ ts. falses >>= λ fs. made p ls ts fs) part a.2 in
      let l = bind_ok layers (λ ls. trues >>= λ ts. falses >>= λ fs. made p.0 ls ts fs) part p.2 in
      let t = bind_ok trues (λ ts. falses >>= λ fs. made p.0 l.0 ts fs) part l.2 in
      let f = bind_ok falses (λ fs. made p.0 l.0 t.0 fs) part t.2 in
      let of_parts : LeafProof = record { pred = p.0; layers = l.0; on_true = t.0; on_false = f.0 } in
      subst (Parted d) {x = of_parts} (same_ok of_parts part f.2) (leaf_of path d p.0 l.0 t.0 f.0 p.1 l.1 t.1 f.1)

  pub leaf_again : (path : List ℕ) (d : Data) (part : LeafProof) → IsLeafProofFile names part d → IsLeafProofWithin (length names) part → leaf_proof_at names path d ≡ Ok part
  unfolding leaf_proof_at
  leaf_again path d part file fits =
      rw (
        Readers.object_at-again path (codes "pred") d file.pred.0 file.pred.1,
        file.pred.1,
        pred_again (member_path path (codes "pred")) file.pred.0 part.pred file.pred.2,
        file.layers.1,
        layers_at-again (member_path path (codes "layers")) file.layers.0 part.layers file.layers.2 fits.layer_count fits.layers,
        file.on_true.1,
        nodes_at-again (member_path path (codes "true")) file.on_true.0 part.on_true file.on_true.2 fits.on_true,
        file.on_false.1,
        nodes_at-again (member_path path (codes "false")) file.on_false.0 part.on_false file.on_false.2 fits.on_false,
      ) refl

  pub proof_takes : (leaves : ℕ) (d : Data) (proof : Proof) → proof_at names leaves d ≡ Ok proof → IsProofFile names proof d × IsProofWithin (length names) leaves proof
  unfolding proof_at each_at
  proof_takes leaves d proof e =
      let path = member_path [] (codes "proof") in
      let made = λ (parts : List LeafProof). (let o : Result Proof Fault = Ok (record { leaves = parts }) in o) in
      let a = bind_ok (member_by [] (codes "proof") (leaf_proofs_at names leaves) d) (λ parts. made parts) proof e in
      let m = bind_ok (member_at [] (codes "proof") d) (λ v. leaf_proofs_at names leaves path v) a.0 a.1 in
      let taken = λ (found : List LeafProof) (i : ℕ) (x : Data) (part : LeafProof) (is : item_by (leaf_proof_item names) path found i x ≡ Ok part). leaf_takes (item_path path i) x part is in
      let r = Readers.list-takes (item_by (leaf_proof_item names) path) (IsLeafProofFile names) (λ _ part. IsLeafProofWithin (length names) part) taken path leaves leaves m.0 a.0 m.2 in
      let of_parts : Proof = record { leaves = a.0 } in
      subst (λ (q : Proof). IsProofFile names q d × IsProofWithin (length names) leaves q) {x = of_parts} (same_ok of_parts proof a.2) (
        (m.0, Readers.member_at-takes [] (codes "proof") d m.0 m.1, r.0),
        record { one_each = omega (arith, r.2, r.3); parts = EachFrom-All (IsLeafProofWithin (length names)) [] a.0 r.1 },
      )

  pub proof_again : (leaves : ℕ) (d : Data) (proof : Proof) → IsProofFile names proof d → IsProofWithin (length names) leaves proof → proof_at names leaves d ≡ Ok proof
  unfolding proof_at each_at
  proof_again leaves d proof file fits =
      let path = member_path [] (codes "proof") in
      rw (
        file.1,
        Readers.list-again (item_by (leaf_proof_item names) path) (IsLeafProofFile names) (λ _ part. IsLeafProofWithin (length names) part) (λ found i x part h f. leaf_again (item_path path i) x part h f) path leaves leaves file.0 proof.leaves file.2
            (All-EachFrom (IsLeafProofWithin (length names)) [] proof.leaves fits.parts) (omega (arith, fits.one_each)) (omega (arith, fits.one_each)),
      ) refl

  pub read-file : (leaves : ℕ) (d : Data) (r : Result Proof FormatFault) → GivesRead (λ proof. proof) r (proof_at names leaves d) → IfOk r (λ proof. IsProofFile names proof d)
  read-file leaves d (Ok proof) given = (proof_takes leaves d proof given).0
  read-file leaves d (Err e) given = tt

  pub read-within : (leaves : ℕ) (d : Data) (r : Result Proof FormatFault) → GivesRead (λ proof. proof) r (proof_at names leaves d) → IfOk r (λ proof. IsProofWithin (length names) leaves proof)
  read-within leaves d (Ok proof) given = (proof_takes leaves d proof given).1
  read-within leaves d (Err e) given = tt

  pub broken-no_file : (leaves : ℕ) (d : Data) (r : Result Proof FormatFault) → GivesRead (λ proof. proof) r (proof_at names leaves d) → IfErr r (λ f. f ≢ fault.NoMemory → (proof : Proof) → IsProofFile names proof d → IsProofWithin (length names) leaves proof → ⊥)
  broken-no_file leaves d (Ok proof) given = tt
  broken-no_file leaves d (Err (fault.Broken p w)) given = λ other proof file fits. absurd (cc (given, proof_again leaves d proof file fits))
  broken-no_file leaves d (Err fault.NoMemory) given = λ other proof file fits. other refl
