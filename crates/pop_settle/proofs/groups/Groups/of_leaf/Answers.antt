use Rattle.std.proofs.Common.{◌≡◌, ℕ, ◌≤◌, List, length, take, get_or, sym, subst, ◌∙◌, arith}
use Rattle.std.specs.Prelude.{Option, IfSome}
use Rattle.pop_leaf.specs.LeafModel.{LeafModel}
use Rattle.pop_net.specs.Lanes.{crowd_of}
use Rattle.pop_settle.specs.Settlement.{states_in}
use Rattle.pop_settle.specs.Groups.{AreGroups}
use Rattle.pop_settle.proofs.Grouping.{one_more}
use Rattle.pop_settle.proofs.Words.{states_more, length-states_take}
use Rattle.pop_settle.proofs.groups.Groups.of_leaf.Goals as goal

pub loop-agent-preserved : goal.loop-agent-preserved
loop-agent-preserved c =
    let net = c.args.net.now in
    let words = c.args.words.now in
    let k = c.loop-agent.agent in
    let word = get_or words k (record { 0 = 0 }) in
    record {
      grouped = subst (λ (s : List ℕ). AreGroups s c.put.new.self.groups.items) (sym (states_more net c.args.leaf words k c.lane.result c.loop-agent-test.true c.lane.ensures.state))
          (one_more (states_in c.args.leaf (crowd_of net (take k words))) c.loop-agent.groups.groups.items c.lane.result k c.put.new.self.groups.items c.loop-agent.invariant.grouped (sym (length-states_take net c.args.leaf words k (let l : k ≤ length words = omega (arith, c.loop-agent-test.true) in l))) c.put.ensures.count c.in_ok-put.ensures.put);
      count = subst (λ (o : Option LeafModel). IfSome o (λ leaf. length c.put.new.self.groups.items ≡ length leaf.states)) (sym c.leaf.ensures)
          (c.put.ensures.count ∙ subst (λ (o : Option LeafModel). IfSome o (λ leaf. length c.loop-agent.groups.groups.items ≡ length leaf.states)) c.leaf.ensures c.loop-agent.invariant.count);
    }
