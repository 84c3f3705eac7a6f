use Rattle.std.proofs.Common.{◌∙◌, rules}
use Rattle.std.proofs.lemmas.Option.{slice_get-get_or}
use Rattle.serde_json.proofs.Views.{view-Array}
use Rattle.net_json.proofs.Writes.{one_more, all_written}
use Rattle.cert_json.specs.Written.{integer_data}
use Rattle.cert_json.proofs.write.weights_value.Goals as goal

pub loop-weight-preserved : goal.loop-weight-preserved
loop-weight-preserved c =
    one_more integer_data c.loop-weight.list.items c.push.new.self.items c.args.weights.now c.loop-weight.weight-index _ c.from.result c.loop-weight.invariant (search (slice_get-get_or, rules)) c.from.ensures c.in_ok-push.ensures.items

pub returns : goal.returns
returns c = view-Array c.loop-weight.list ∙ all_written integer_data c.loop-weight.list.items c.args.weights.now c.loop-weight.weight-index c.loop-weight.invariant c.loop-weight-test.false
