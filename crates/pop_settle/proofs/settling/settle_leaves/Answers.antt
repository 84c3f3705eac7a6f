use Rattle.std.proofs.Common.{◌≡◌, ℕ, length, subst, arith}
use Rattle.pop_net.specs.Lanes.{crowd_of}
use Rattle.pop_settle.specs.Walks.{IsQuietBefore}
use Rattle.pop_settle.proofs.Walking.{walk_join}
use Rattle.pop_settle.proofs.settling.settle_leaves.Goals as goal

pub loop-leaf-preserved : goal.loop-leaf-preserved
loop-leaf-preserved c = record {
  walked = walk_join c.args.by.now.net.now c.args.by.now.proof.now c.args.walk.now c.loop-leaf.walk c.settle_leaf.new.walk c.loop-leaf.invariant.walked c.in_ok-settle_leaf.ensures.walked;
  quiet = c.in_ok-settle_leaf.ensures.quiet;
}

pub returns-clause-quiet : goal.returns-clause-quiet
returns-clause-quiet c =
    subst (λ (n : ℕ). IsQuietBefore c.args.by.now.net.now c.args.by.now.proof.now (crowd_of c.args.by.now.net.now c.loop-leaf.walk.words.items) n 0)
    (let e : c.loop-leaf.leaf ≡ length c.args.by.now.net.now.leaves = omega (arith, c.loop-leaf-test.false, c.leaf_count-leaf-end.ensures.count, c.loop-leaf.auto.leaf-end) in e)
    c.loop-leaf.invariant.quiet
