use Rattle.std.proofs.Common.{◌∙◌, refl}
use Rattle.std.proofs.lemmas.Option.{slice_get_read}
use Rattle.serde_json.proofs.Views.{view-Array}
use Rattle.net_json.proofs.Writes.{one_more, all_written}
use Rattle.cert_json.specs.Written.{layer_data}
use Rattle.cert_json.proofs.write.layers_value.Goals as goal

pub loop-layer-preserved : goal.loop-layer-preserved
loop-layer-preserved c =
    one_more layer_data c.loop-layer.list.items c.push.new.self.items c.args.layers.now c.loop-layer.layer-index _ c.in_ok-layer_value.field-0 c.loop-layer.invariant (slice_get_read c.args.layers.now _ _ _ refl c.loop-layer-test.true c.layer-item.is) c.in_ok-layer_value.ensures c.in_ok-push.ensures.items

pub returns : goal.returns
returns c = view-Array c.loop-layer.list ∙ all_written layer_data c.loop-layer.list.items c.args.layers.now c.loop-layer.layer-index c.loop-layer.invariant c.loop-layer-test.false
