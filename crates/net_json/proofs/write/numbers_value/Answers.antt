use Rattle.std.proofs.Common.{◌∙◌}
use Rattle.std.proofs.lemmas.Option.{slice_get-get_or}
use Rattle.serde_json.proofs.Views.{view-Array}
use Rattle.net_json.specs.Written.{number_data}
use Rattle.net_json.proofs.Writes.{one_more, all_written}
use Rattle.net_json.proofs.write.numbers_value.Goals as goal

pub loop-number-preserved : goal.loop-number-preserved
loop-number-preserved c =
    one_more number_data c.loop-number.list.items c.push.new.self.items c.args.numbers.now c.loop-number.number-index _ c.from.result c.loop-number.invariant (slice_get-get_or _ _ _ c.loop-number-test.true) c.from.ensures c.in_ok-push.ensures.items

pub returns : goal.returns
returns c = view-Array c.loop-number.list ∙ all_written number_data c.loop-number.list.items c.args.numbers.now c.loop-number.number-index c.loop-number.invariant c.loop-number-test.false
