-- What is read of a bundle with goals is in its file, and each such file is read.
use Rattle.std.proofs.Common.{◌≡◌, [], length, codes, Result, Ok, Err, refl, subst}
use Rattle.std.specs.Prelude.{◌≢◌, IfOk, IfErr}
use Rattle.serde_json.specs.Data.{Data}
use Rattle.base_json.specs.declared.fault.FormatFault.{FormatFault}
use Rattle.base_json.specs.declared.fault.FormatFault.TheVariants as fault
use Rattle.base_json.specs.Faults.{Fault, ◌>>=◌, GivesRead}
use Rattle.base_json.specs.Paths.{member_path}
use Rattle.base_json.specs.Shapes.{object_at, member_at, member_by}
use Rattle.base_json.proofs.Steps.{bind_ok, same_ok}
use Rattle.base_json.proofs.Readers
use Rattle.pres_ast.specs.PredModel.{PredModel}
use Rattle.pop_leaf.specs.NetModel.{NetModel}
use Rattle.net_json.specs.Examined.{net_at}
use Rattle.net_json.proofs.NetLaws.{net_at-takes, net_at-again}
use Rattle.cert_base.specs.declared.stable.StableProof.{StableProof}
use Rattle.cert_json.specs.Examined.{pred_at}
use Rattle.cert_json.proofs.ProofLaws.{pred_takes, pred_again}
use Rattle.cert_json.specs.declared.stable.StableBundle.{StableBundle}
use Rattle.cert_json.specs.StableFile.{IsStableFile}
use Rattle.cert_json.specs.StableExamined.{stable_proof_at}
use Rattle.cert_json.specs.StableBundles.{stable_claim_at, stable_bundle_at}
use Rattle.cert_json.proofs.StableParts.{proof_takes, proof_again}

pub bundle_takes : (d : Data) (bundle : StableBundle) → stable_bundle_at d ≡ Ok bundle → IsStableFile bundle d
unfolding stable_bundle_at stable_claim_at
bundle_takes d bundle e =
    let net_path = member_path [] (codes "net") in
    let pred_path = member_path [] (codes "pred") in
    let net = member_by [] (codes "net") net_at d in
    let a = bind_ok (object_at [] d) (λ o. net >>= λ n. stable_claim_at n d) bundle e in
    let n = bind_ok net (λ n. stable_claim_at n d) bundle a.2 in
    let pred = member_by [] (codes "pred") (pred_at n.0.variables) d in
    let proof = stable_proof_at n.0.variables (length n.0.leaves) d in
    let made = λ (pred : PredModel) (proof : StableProof). (let o : Result StableBundle Fault = Ok (record { net = n.0; pred = pred; proof = proof }) in o) in
    let p = bind_ok pred (λ p. proof >>= λ parts. made p parts) bundle n.2 in
    let r = bind_ok proof (λ parts. made p.0 parts) bundle p.2 in
    let n' = bind_ok (member_at [] (codes "net") d) (λ v. net_at net_path v) n.0 n.1 in
    let p' = bind_ok (member_at [] (codes "pred") d) (λ v. pred_at n.0.variables pred_path v) p.0 p.1 in
    let taken = proof_takes n.0.variables (length n.0.leaves) d r.0 r.1 in
    let of_parts : StableBundle = record { net = n.0; pred = p.0; proof = r.0 } in
    subst (λ (b : StableBundle). IsStableFile b d) {x = of_parts} (same_ok of_parts bundle r.2)
    (record {
      net = (n'.0, Readers.member_at-takes [] (codes "net") d n'.0 n'.1, net_at-takes net_path n'.0 n.0 n'.2);
      pred = (p'.0, Readers.member_at-takes [] (codes "pred") d p'.0 p'.1, (pred_takes n.0.variables pred_path p'.0 p.0 p'.2).0);
      proof = taken.0;
      within = taken.1;
    })

pub bundle_again : (d : Data) (bundle : StableBundle) → IsStableFile bundle d → stable_bundle_at d ≡ Ok bundle
unfolding stable_bundle_at stable_claim_at
bundle_again d bundle file =
    let net : NetModel = bundle.net in
    rw (
      Readers.object_at-again [] (codes "net") d file.net.0 file.net.1,
      file.net.1,
      net_at-again (member_path [] (codes "net")) file.net.0 bundle.net file.net.2,
      file.pred.1,
      pred_again net.variables (member_path [] (codes "pred")) file.pred.0 bundle.pred file.pred.2,
      proof_again net.variables (length net.leaves) d bundle.proof file.proof file.within,
    ) refl

pub read-file : (d : Data) (r : Result StableBundle FormatFault) → GivesRead (λ bundle. bundle) r (stable_bundle_at d) → IfOk r (λ bundle. IsStableFile bundle d)
read-file d (Ok bundle) given = bundle_takes d bundle given
read-file d (Err e) given = tt

pub broken-no_file : (d : Data) (r : Result StableBundle FormatFault) → GivesRead (λ bundle. bundle) r (stable_bundle_at d) → IfErr r (λ f. f ≢ fault.NoMemory → (bundle : StableBundle) → IsStableFile bundle d → ⊥)
broken-no_file d (Ok bundle) given = tt
broken-no_file d (Err (fault.Broken p w)) given = λ other bundle file. absurd (cc (given, bundle_again d bundle file))
broken-no_file d (Err fault.NoMemory) given = λ other bundle file. other refl
