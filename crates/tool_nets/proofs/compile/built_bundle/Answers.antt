use Rattle.std.proofs.Common.{◌≡◌, length, refl, ap, sym, subst, ◌∙◌}
use Rattle.std.specs.Prelude.{All}
use Rattle.std.specs.Option.{option_map}
use Rattle.cert_base.specs.declared.proof.LeafProof.{LeafProof}
use Rattle.cert_base.specs.ProofLimits.{IsProofWithin}
use Rattle.pop_leaf.specs.NetModel.{NetModel}
use Rattle.pres_ast.specs.PredModel.{IsPred}
use Rattle.tool_nets.specs.Compile.{refusal_of, unless_refused}
use Rattle.tool_nets.proofs.compile.built_bundle.Goals as goal

pub returns-in-Ok-clause-compiled : goal.returns-in-Ok-clause-compiled
returns-in-Ok-clause-compiled c =
    let built = c.in-Ok.ensures in
    let net : NetModel = c.in-Ok.net in
    let proof = c.in-Ok.proof in
    let over : c.args.pred.variables ≡ length net.variables =
    c.requires.count ∙ ap (λ (m : NetModel). length m.variables) (sym built.net) in
    record {
      net_is = built.net;
      pred_is = refl;
      valid = built.valid;
      bound = built.bound;
      writable = record {
        net = built.formed;
        variables = over;
        pred = subst (λ n. IsPred n c.args.pred.tree) over c.vars-limits.ensures.limits;
        parts = subst (λ n. All (λ (part : LeafProof). IsPred n part.pred.tree) proof.leaves) over built.preds;
        within = subst (λ n. IsProofWithin n (length net.leaves) proof) over built.within;
      };
      single = built.single;
      right = built.right;
      tame = built.tame;
    }

pub returns-in-Err-Fault-clause-fits : goal.returns-in-Err-Fault-clause-fits
returns-in-Err-Fault-clause-fits c =
    rw c.refusal_of.ensures (ap (λ found. unless_refused (option_map refusal_of found)) (rw c.in-Err-Fault.field-0-is at c.in-Err-Fault.ensures.refused))
