use Rattle.std.proofs.Common.{◌∙◌, sym, ap, length, rules, w64, SFits}
use Rattle.std.specs.Prelude.{replicate}
use Rattle.std.proofs.lemmas.Int.{to_z-of_z}
use Rattle.comp_trees.proofs.TrapNodes.{range-constant}
use Rattle.comp_powers.proofs.values.same.Goals as goal

pub returns : goal.returns
returns c =
    let fits : SFits w64 c.args.value = search rules in
    c.in_ok-flows.ensures.items_if_clones_equal (λ y h. h)
    ∙ ap (replicate c.from.result) (to_z-of_z w64 c.args.value fits)
    ∙ ap (λ n. replicate n c.args.value) (c.from.ensures ∙ c.state_count.ensures.count)
    ∙ sym (range-constant c.args.value 0 (length c.args.leaf.now.states))
