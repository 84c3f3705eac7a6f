-- What is read of a leaf's part is in its file, and each such file is read.
use Rattle.std.proofs.Common.{◌≡◌, ℕ, true, false, Bool, cond, List, [], length, codes, Result, Ok, refl, subst, arith}
use Rattle.serde_json.specs.Data.{Data}
use Rattle.base_json.specs.Faults.{Fault, ◌>>=◌}
use Rattle.base_json.specs.Paths.{member_path, item_path}
use Rattle.base_json.specs.Shapes.{object_at, member_at, member_by, item_by, each_at}
use Rattle.base_json.specs.Parts.{HasMember, IsList}
use Rattle.base_json.proofs.Steps.{bind_ok, same_ok}
use Rattle.base_json.proofs.Readers
use Rattle.base_json.proofs.Fresh.{EachFrom-All, All-EachFrom}
use Rattle.pres_ast.specs.PredModel.{PredModel}
use Rattle.cert_base.specs.declared.proof.Goal.{Goal}
use Rattle.cert_base.specs.declared.stable.LeafGoals.{LeafGoals}
use Rattle.cert_base.specs.declared.stable.StablePart.{StablePart}
use Rattle.cert_base.specs.declared.stable.StablePart.TheVariants.{Silent, Stable}
use Rattle.cert_base.specs.declared.stable.StableProof.{StableProof}
use Rattle.cert_base.specs.StableProof.{AreGoalsWithin, IsPartWithin, IsStableProofWithin}
use Rattle.cert_json.specs.Examined.{pred_at, leaf_proof_at}
use Rattle.cert_json.proofs.ProofLaws.{pred_takes, pred_again, leaf_takes, leaf_again}
use Rattle.cert_json.specs.PartFile.{AreGoalsFile, has_goals_in_place, IsPartFile}
use Rattle.cert_json.specs.StableExamined.{both_goals_at, leaf_goals_at, stable_part_at, silent_part_at, part_at, part_item, parts_at, stable_proof_at}
use Rattle.cert_json.proofs.GoalLaws.{both_takes, both_again}

module _ (names : List (List ℕ)) where
  abbrev Aimed : Data → LeafGoals → Type 0
  Aimed d goals = AreGoalsFile names goals d × AreGoalsWithin (length names) goals

  goals_takes : (path : List ℕ) (d : Data) (goals : LeafGoals) → leaf_goals_at names path d ≡ Ok goals → Aimed d goals
  unfolding leaf_goals_at
  goals_takes path d goals e =
      let made = λ (p : PredModel) (both : Goal × Goal). (let o : Result LeafGoals Fault = Ok (record { pred = p; on_true = both.0; on_false = both.1 }) in o) in
      let pred = member_by path (codes "pred") (pred_at names) d in
      let both = member_by path (codes "goals") both_goals_at d in
      let a = bind_ok (object_at path d) (λ o. pred >>= λ p. both >>= λ b. made p b) goals e in
      let p = bind_ok pred (λ p. both >>= λ b. made p b) goals a.2 in
      let b = bind_ok both (λ b. made p.0 b) goals p.2 in
      let p' = bind_ok (member_at path (codes "pred") d) (λ v. pred_at names (member_path path (codes "pred")) v) p.0 p.1 in
      let b' = bind_ok (member_at path (codes "goals") d) (λ v. both_goals_at (member_path path (codes "goals")) v) b.0 b.1 in
      let pt = pred_takes names (member_path path (codes "pred")) p'.0 p.0 p'.2 in
      let bt = both_takes (member_path path (codes "goals")) b'.0 b.0 b'.2 in
      let whole : LeafGoals = record { pred = p.0; on_true = b.0.0; on_false = b.0.1 } in
      let file : AreGoalsFile names whole d = record {
        pred = (p'.0, Readers.member_at-takes path (codes "pred") d p'.0 p'.1, pt.0);
        goals = (b'.0, Readers.member_at-takes path (codes "goals") d b'.0 b'.1, bt.0);
      } in
      let fits : AreGoalsWithin (length names) whole = record { pred = pt.1; on_true = bt.1; on_false = bt.2 } in
      subst (Aimed d) {x = whole} (same_ok whole goals b.2) (file, fits)

  goals_again : (path : List ℕ) (d : Data) (goals : LeafGoals) → AreGoalsFile names goals d → AreGoalsWithin (length names) goals → leaf_goals_at names path d ≡ Ok goals
  unfolding leaf_goals_at
  goals_again path d goals file fits =
      rw (
        Readers.object_at-again path (codes "pred") d file.pred.0 file.pred.1,
        file.pred.1,
        pred_again names (member_path path (codes "pred")) file.pred.0 goals.pred file.pred.2,
        file.goals.1,
        both_again (member_path path (codes "goals")) file.goals.0 goals.on_true goals.on_false file.goals.2 fits.on_true fits.on_false,
      ) refl

  abbrev Parted : Data → StablePart → Type 0
  Parted d part = IsPartFile names part d × IsPartWithin (length names) part

  stable_takes : (path : List ℕ) (d : Data) (part : StablePart) → has_goals_in_place d ≡ true → stable_part_at names path d ≡ Ok part → Parted d part
  stable_takes path d part has e =
      let a = bind_ok (leaf_goals_at names path d) (λ goals. (let o : Result StablePart Fault = Ok (Stable goals) in o)) part e in
      let t = goals_takes path d a.0 a.1 in
      subst (Parted d) {x = Stable a.0} (same_ok (Stable a.0) part a.2) ((has, t.0), t.1)

  silent_takes : (path : List ℕ) (d : Data) (part : StablePart) → silent_part_at names path d ≡ Ok part → Parted d part
  silent_takes path d part e =
      let a = bind_ok (leaf_proof_at names path d) (λ p. (let o : Result StablePart Fault = Ok (Silent p) in o)) part e in
      let t = leaf_takes names path d a.0 a.1 in
      subst (Parted d) {x = Silent a.0} (same_ok (Silent a.0) part a.2) (t.0, t.1)

  either_takes : (b : Bool) (path : List ℕ) (d : Data) (part : StablePart) → has_goals_in_place d ≡ b → cond b (stable_part_at names path d) (silent_part_at names path d) ≡ Ok part → Parted d part
  either_takes true path d part has e = stable_takes path d part has e
  either_takes false path d part has e = silent_takes path d part e

  part_takes : (path : List ℕ) (d : Data) (part : StablePart) → part_at names path d ≡ Ok part → Parted d part
  unfolding part_at
  part_takes path d part e = either_takes (has_goals_in_place d) path d part refl e

  part_again : (path : List ℕ) (d : Data) (part : StablePart) → IsPartFile names part d → IsPartWithin (length names) part → part_at names path d ≡ Ok part
  unfolding part_at
  part_again path d (Stable goals) file fits = rw (file.0, goals_again path d goals file.1 fits) refl
  part_again path d (Silent part) file fits = rw (file.layers.1, leaf_again names path d part file fits) refl

  pub proof_takes : (leaves : ℕ) (d : Data) (proof : StableProof) → stable_proof_at names leaves d ≡ Ok proof
      → HasMember (codes "proof") (IsList (IsPartFile names) proof.leaves) d × IsStableProofWithin (length names) leaves proof
  unfolding stable_proof_at each_at
  proof_takes leaves d proof e =
      let path = member_path [] (codes "proof") in
      let made = λ (parts : List StablePart). (let o : Result StableProof Fault = Ok (record { leaves = parts }) in o) in
      let a = bind_ok (member_by [] (codes "proof") (parts_at names leaves) d) (λ parts. made parts) proof e in
      let m = bind_ok (member_at [] (codes "proof") d) (λ v. parts_at names leaves path v) a.0 a.1 in
      let taken = λ (found : List StablePart) (i : ℕ) (x : Data) (part : StablePart) (is : item_by (part_item names) path found i x ≡ Ok part). part_takes (item_path path i) x part is in
      let r = Readers.list-takes (item_by (part_item names) path) (IsPartFile names) (λ _ part. IsPartWithin (length names) part) taken path leaves leaves m.0 a.0 m.2 in
      let of_parts : StableProof = record { leaves = a.0 } in
      subst (λ (q : StableProof). HasMember (codes "proof") (IsList (IsPartFile names) q.leaves) d × IsStableProofWithin (length names) leaves q) {x = of_parts} (same_ok of_parts proof a.2) (
        (m.0, Readers.member_at-takes [] (codes "proof") d m.0 m.1, r.0),
        record { one_each = omega (arith, r.2, r.3); parts = EachFrom-All (IsPartWithin (length names)) [] a.0 r.1 },
      )

  pub proof_again : (leaves : ℕ) (d : Data) (proof : StableProof) → HasMember (codes "proof") (IsList (IsPartFile names) proof.leaves) d → IsStableProofWithin (length names) leaves proof → stable_proof_at names leaves d ≡ Ok proof
  unfolding stable_proof_at each_at
  proof_again leaves d proof file fits =
      let path = member_path [] (codes "proof") in
      rw (
        file.1,
        Readers.list-again (item_by (part_item names) path) (IsPartFile names) (λ _ part. IsPartWithin (length names) part) (λ found i x part h f. part_again (item_path path i) x part h f) path leaves leaves file.0 proof.leaves file.2
            (All-EachFrom (IsPartWithin (length names)) [] proof.leaves fits.parts) (omega (arith, fits.one_each)) (omega (arith, fits.one_each)),
      ) refl
