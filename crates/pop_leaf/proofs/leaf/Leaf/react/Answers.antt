use Rattle.std.proofs.Common.{◌≡◌, refl, length, ap, ◌∙◌, arith}
use Rattle.pop_leaf.specs.LeafModel.{LeafModel, IsLeaf}
use Rattle.pop_leaf.specs.Reaction.{leaf_reaction}
use Rattle.pop_leaf.proofs.Tables.{entry_read}
use Rattle.pop_leaf.proofs.Within.{reaction_within}
use Rattle.pop_leaf.proofs.Reactions.{leaf_reaction_change}
use Rattle.pop_leaf.proofs.leaf.Leaf.react.Goals as goal

same : (c : goal.After-result-1) → c.index.result.now ≡ leaf_reaction c.args.self.now c.args.x c.args.y
same c =
    let states = ap (λ (l : LeafModel). length l.states) c.self.view_is in
    c.index.ensures
    ∙ entry_read (length c.self.inside.states) c.args.x c.args.y c.self.inside.moves c.self.inside.table.items _ _ c.self.invariant.1
    (let l = c.requires.x_in in omega (arith, l, states)) (let l = c.requires.y_in in omega (arith, l, states)) (ap length c.as_slice.ensures)
    ∙ ap (λ (l : LeafModel). leaf_reaction l c.args.x c.args.y) c.self.view_is

formed : (c : goal.After-result-1) → IsLeaf c.args.self.now
formed c = rw c.self.view_is at c.self.invariant.0

pub returns : goal.returns
returns c =
    let leaf = c.args.self.now in
    let within = reaction_within leaf c.args.x c.args.y (formed c) c.requires.x_in c.requires.y_in in
    rw (same c) (record { reaction = refl; first_in = within.0; second_in = within.1; change = leaf_reaction_change leaf c.args.x c.args.y })
