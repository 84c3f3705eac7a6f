use Rattle.std.proofs.Common.{◌≡◌, length, arith}
use Rattle.cert_traps.proofs.Lists.{partners_more, partners_all}
use Rattle.cert_traps.proofs.partners.partners.Goals as goal

pub loop-q-preserved : goal.loop-q-preserved
loop-q-preserved c =
    partners_more c.args.leaf.now c.args.state c.loop-q.q c.can_meet.result c.loop-q.table.items c.push.new.self.items c.loop-q.invariant c.can_meet.ensures c.in_ok-push.ensures.items

pub returns : goal.returns
returns c =
    let all : c.loop-q.q ≡ length c.args.leaf.now.states = omega (arith, c.state_count-q-end.ensures.count) in
    partners_all c.args.leaf.now c.args.state c.loop-q.q c.loop-q.table.items all c.loop-q.invariant
