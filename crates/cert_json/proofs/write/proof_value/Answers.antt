use Rattle.std.proofs.Common.{◌∙◌, arith, length, refl}
use Rattle.std.proofs.lemmas.Option.{slice_get_read}
use Rattle.pres_ast.specs.PredModel.{IsPred}
use Rattle.serde_json.proofs.Views.{view-Array}
use Rattle.net_json.proofs.Writes.{one_more, all_written}
use Rattle.cert_json.specs.Written.{leaf_proof_data, proof_data}
use Rattle.cert_json.proofs.Lasts.{one_more_fits}
use Rattle.cert_json.proofs.write.proof_value.Goals as goal

pub returns-clause-limits : goal.returns-clause-limits
returns-clause-limits c = rw (← c.as_slice-parts.ensures) (λ k d within. c.loop-part.invariant.1 k (omega arith) d)

pub loop-part-preserved : goal.loop-part-preserved
loop-part-preserved c =
    let parts = c.as_slice-parts.result.now in
    let i = c.loop-part.part-index in
    let is = slice_get_read parts _ i _ refl c.loop-part-test.true c.part-item.is in (
      one_more (leaf_proof_data c.args.names.now) c.loop-part.list.items c.push.new.self.items parts i _ c.in_ok-leaf_proof_value.field-0 c.loop-part.invariant.0 is c.in_ok-leaf_proof_value.ensures.value c.in_ok-push.ensures.items,
      one_more_fits (λ part. IsPred (length c.args.names.now) part.pred.tree) parts i c.part-item.result c.loop-part.invariant.1 is c.in_ok-leaf_proof_value.ensures.limits,
    )

pub returns-clause-value : goal.returns-clause-value
unfolding proof_data
returns-clause-value c =
    rw (← c.as_slice-parts.ensures) (view-Array c.loop-part.list ∙ all_written (leaf_proof_data c.args.names.now) c.loop-part.list.items c.as_slice-parts.result.now c.loop-part.part-index c.loop-part.invariant.0 c.loop-part-test.false)
