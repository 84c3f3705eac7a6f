use Rattle.std.proofs.Common.{◌≡◌, ◌∙◌, ap, sym, subst, length, arith}
use Rattle.cert_base.specs.declared.proof.LeafProof.{LeafProof}
use Rattle.cert_base.specs.ProofBound.{layers_bound}
use Rattle.cert_base.specs.ProofLimits.{IsLeafProofWithin}
use Rattle.comp_remainder.specs.RemainderLeaf.{remainder_leaf_of}
use Rattle.comp_remainder.proofs.Steps.{steps_are}
use Rattle.comp_remainder.proofs.Valid.{remainder-within, whole-valid, whole-tame}
use Rattle.comp_remainder.proofs.whole.remainder.Goals as goal

pub returns-clause-built : goal.returns-clause-built
returns-clause-built c =
    let coefs = c.args.coefs.now in
    let sum = c.requires.sum in
    let modulus = c.requires.modulus in
    let built : c.in_ok-leaf.leaf ≡ remainder_leaf_of coefs c.args.modulus c.args.rest c.args.spare = rw c.new.ensures at c.in_ok-leaf.ensures.built in
    record {
      leaf_is = built;
      pred_is = ap (λ (part : LeafProof). part.pred) c.in_ok-proof.ensures;
      valid = whole-valid coefs c.args.modulus c.args.rest c.args.spare c.in_ok-leaf.leaf _ built c.in_ok-proof.ensures sum.some sum.few modulus.low modulus.high modulus.left c.requires.spare;
      bound = ap (λ (part : LeafProof). layers_bound part.layers) c.in_ok-proof.ensures ∙ steps_are (remainder_leaf_of coefs c.args.modulus c.args.rest c.args.spare) c.args.modulus (let l = modulus.low in omega (arith, l));
      within = subst (IsLeafProofWithin (length coefs)) (sym c.in_ok-proof.ensures) (remainder-within coefs c.args.modulus c.args.rest c.args.spare sum.some sum.few modulus.low modulus.high modulus.left c.requires.spare);
      single = c.in_ok-leaf.ensures.single;
      tame = whole-tame coefs c.args.modulus c.args.rest c.args.spare c.in_ok-leaf.leaf _ built c.in_ok-proof.ensures;
    }

pub remainder_leaf-requires : goal.remainder_leaf-requires
remainder_leaf-requires c = record { inputs = record { some = c.requires.sum.some; few = c.requires.sum.few }; spare = c.requires.spare }
