use Rattle.std.proofs.Common.{sym, ◌∙◌}
use Rattle.pop_net.specs.Lanes.{crowd_of}
use Rattle.terminal_test.proofs.Searches.{changes_at, none_more}
use Rattle.terminal_test.proofs.partner.partner.Goals as goal

pub loop-b-preserved : goal.loop-b-preserved
loop-b-preserved c =
    let net = c.args.net.now in
    none_more net (crowd_of net c.args.crowd.now) c.args.a c.loop-b.b c.loop-b.invariant
    (changes_at net c.args.crowd.now c.args.a c.loop-b.b c.word-x.result c.word.result c.word-x.ensures c.word.ensures ∙ sym c.is_enabled.ensures ∙ c.if-is_enabled.false)
