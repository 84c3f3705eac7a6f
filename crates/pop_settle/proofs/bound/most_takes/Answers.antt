use Rattle.std.proofs.Common.{◌≡◌, ◌≤◌, ◌^◌, ◌∙◌, length, ap, arith}
use Rattle.cert_base.specs.declared.proof.LeafProof.{LeafProof}
use Rattle.cert_base.specs.ProofBound.{layers_bound}
use Rattle.cert_layers.proofs.Bounds.{bound_more}
use Rattle.pop_settle.proofs.Bounds.{bound_fits}
use Rattle.pop_settle.proofs.bound.most_takes.Goals.{After-bound_of-bound}
use Rattle.std.proofs.lemmas.Grind.{common_steps}
use Rattle.pop_settle.proofs.bound.most_takes.Goals as goal

value : (c : After-bound_of-bound) → c.bound_of-bound.result ≡ layers_bound c.part-item.result.layers
value c = c.bound_of-bound.ensures ∙ ap layers_bound c.as_slice.ensures

small : (c : After-bound_of-bound) → c.bound_of-bound.result ≤ 2 ^ 49
small c =
    bound_fits c.args.proof.now.leaves c.as_slice-part-items.result.now c.loop-part.part-index c.bound_of-bound.result c.part-item.result c.as_slice-part-items.ensures c.loop-part-test.true c.part-item.is c.requires.layers (value c)

pub overflow_add-bound : goal.overflow_add-bound
overflow_add-bound c =
    omega (arith, small c, c.loop-part.invariant.small, c.loop-part-test.true, ap length c.as_slice-part-items.ensures, c.requires.leaves)

pub loop-part-preserved : goal.loop-part-preserved
loop-part-preserved c =
    record {
      so_far = bound_more (λ (part : LeafProof). layers_bound part.layers) c.args.proof.now.leaves c.as_slice-part-items.result.now c.loop-part.part-index c.loop-part.bound c.bound_of-bound.result _ c.part-item.result c.as_slice-part-items.ensures c.loop-part-test.true c.part-item.is (value c) c.loop-part.invariant.so_far;
      small = omega (arith, small c, c.loop-part.invariant.small);
    }

pub returns : goal.returns
returns c = grind (arith, common_steps)
