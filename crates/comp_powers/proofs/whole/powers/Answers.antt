use Rattle.std.proofs.Common.{◌≡◌, ◌∙◌, ap, sym, subst, length, rules, w64, SFits}
use Rattle.std.proofs.lemmas.Int.{to_z-of_z}
use Rattle.cert_base.specs.declared.proof.LeafProof.{LeafProof}
use Rattle.cert_base.specs.ProofBound.{layers_bound}
use Rattle.cert_base.specs.ProofLimits.{IsLeafProofWithin}
use Rattle.comp_powers_leaf.specs.PowersLeaf.{powers_leaf_of}
use Rattle.comp_powers.specs.PowersProof.{powers_part}
use Rattle.comp_powers.proofs.Parts.{whole-valid}
use Rattle.comp_powers.proofs.Steps.{steps_are}
use Rattle.comp_powers.proofs.Within.{powers-within}
use Rattle.comp_powers.proofs.Layers.{layers-tame}
use Rattle.cert_base.specs.TameLayers.{TameLayers}
use Rattle.comp_powers.proofs.whole.powers.Goals as goal

pub returns : goal.returns
returns c =
    let coefs = c.args.coefs.now in
    let k = c.args.k in
    let fits : SFits w64 c.args.bound = search rules in
    let same = to_z-of_z w64 c.args.bound fits in
    let leaf_is : c.in_ok-leaf.leaf ≡ powers_leaf_of coefs c.args.bound k c.args.spare = c.in_ok-leaf.ensures.built ∙ ap (λ b. powers_leaf_of coefs b k c.args.spare) same in
    let part_is : c.in_ok-proof.proof ≡ powers_part coefs c.args.bound k c.args.spare = c.in_ok-proof.ensures ∙ ap (λ b. powers_part coefs b k c.args.spare) same in
    record {
      leaf_is = leaf_is;
      pred_is = ap (λ (part : LeafProof). part.pred) part_is;
      valid = whole-valid coefs c.args.bound k c.args.spare c.in_ok-leaf.leaf c.in_ok-proof.proof leaf_is part_is c.requires.range c.requires.room;
      bound = ap (λ (part : LeafProof). layers_bound part.layers) part_is ∙ steps_are coefs k;
      within = subst (IsLeafProofWithin (length coefs)) (sym part_is) (powers-within coefs c.args.bound k c.args.spare c.requires.range c.requires.room);
      single = c.in_ok-leaf.ensures.single;
      tame = subst (λ l. TameLayers l c.in_ok-proof.proof.layers) (sym leaf_is) (subst (λ (p : LeafProof). TameLayers (powers_leaf_of coefs c.args.bound k c.args.spare) p.layers) (sym part_is) (layers-tame coefs c.args.bound k c.args.spare));
    }
