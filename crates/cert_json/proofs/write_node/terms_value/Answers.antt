use Rattle.std.proofs.Common.{◌∙◌}
use Rattle.std.proofs.lemmas.Option.{slice_get-get_or}
use Rattle.serde_json.proofs.Views.{view-Array}
use Rattle.net_json.proofs.Writes.{one_more, all_written}
use Rattle.cert_json.specs.Written.{term_data}
use Rattle.cert_json.proofs.write_node.terms_value.Goals as goal

pub loop-term-preserved : goal.loop-term-preserved
loop-term-preserved c =
    one_more term_data c.loop-term.list.items c.push.new.self.items c.args.terms.now c.loop-term.term-index _ c.in_ok-term_value.field-0 c.loop-term.invariant (slice_get-get_or _ _ _ c.loop-term-test.true) c.in_ok-term_value.ensures c.in_ok-push.ensures.items

pub returns : goal.returns
returns c = view-Array c.loop-term.list ∙ all_written term_data c.loop-term.list.items c.args.terms.now c.loop-term.term-index c.loop-term.invariant c.loop-term-test.false
