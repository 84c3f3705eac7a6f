use Rattle.std.proofs.Common.{◌≡◌, ◌++◌, ◌∙◌, ◌+◌, ◌-◌, ℕ, map, ap, refl, arith}
use Rattle.cert_base.specs.declared.node.Node.{Node}
use Rattle.std.specs.Prelude.{reverse}
use Rattle.std.specs.List.{range_with_len}
use Rattle.comp_trees.specs.LeaderTree.{weighed_node}
use Rattle.comp_flock.specs.CountProof.{with_mix}
use Rattle.comp_flock.proofs.Building.{ends_more}
use Rattle.comp_flock.proofs.trees.push_ends.Goals as goal

pub loop-j-preserved : goal.loop-j-preserved
loop-j-preserved c =
    ends_more (λ p. weighed_node (with_mix c.args.leaf.now c.args.worths.now.most c.args.worths.now.list.now c.args.worths.now.k c.args.worths.now.top p)) c.args.worths.now.k c.loop-j.j (c.args.worths.now.k - c.loop-j.j) c.args.nodes.now.items c.loop-j.nodes.items c.push.new.self.items c.in_ok-with_node.field-0 (omega arith) refl c.loop-j.invariant c.in_ok-with_node.ensures c.in_ok-push.ensures.items

pub returns : goal.returns
returns c =
    let ends : ℕ → Node = λ p. weighed_node (with_mix c.args.leaf.now c.args.worths.now.most c.args.worths.now.list.now c.args.worths.now.k c.args.worths.now.top p) in
    let count : c.loop-j.j ≡ c.args.worths.now.k - c.args.worths.now.top = omega arith in
    let first : c.args.worths.now.k + 1 - c.loop-j.j ≡ c.args.worths.now.top + 1 = omega arith in
    c.loop-j.invariant
    ∙ ap (λ a. c.args.nodes.now.items ++ reverse (map ends (range_with_len a c.loop-j.j))) first
    ∙ ap (λ n. c.args.nodes.now.items ++ reverse (map ends (range_with_len (c.args.worths.now.top + 1) n))) count
