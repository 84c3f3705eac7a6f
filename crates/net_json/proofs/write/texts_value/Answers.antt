use Rattle.std.proofs.Common.{◌∙◌, refl}
use Rattle.std.proofs.lemmas.Option.{slice_get_read}
use Rattle.serde_json.specs.Data.{string}
use Rattle.serde_json.proofs.Views.{view-Array}
use Rattle.net_json.proofs.Writes.{one_more, all_written}
use Rattle.net_json.proofs.write.texts_value.Goals as goal

pub loop-text-preserved : goal.loop-text-preserved
loop-text-preserved c =
    one_more string c.loop-text.list.items c.push.new.self.items c.args.texts.now c.loop-text.text-index _ c.in_ok-try_from_str.field-0 c.loop-text.invariant (slice_get_read c.args.texts.now _ _ _ refl c.loop-text-test.true c.text-item.is) (rw c.as_str.ensures at c.in_ok-try_from_str.ensures) c.in_ok-push.ensures.items

pub returns : goal.returns
returns c = view-Array c.loop-text.list ∙ all_written string c.loop-text.list.items c.args.texts.now c.loop-text.text-index c.loop-text.invariant c.loop-text-test.false
