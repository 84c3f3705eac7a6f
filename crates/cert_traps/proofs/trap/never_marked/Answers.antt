use Rattle.std.proofs.Common.{◌∙◌, ◌∷◌, ◌++◌, ap}
use Rattle.cert_base.specs.declared.fact.Fact.TheVariants.{Eq}
use Rattle.std.specs.Prelude.{pos}
use Rattle.cert_base.specs.FactsAndCases.{puts_into, no_moves, no_start_facts, no_helper_facts, count_row}
use Rattle.cert_traps.proofs.trap.never_marked.Goals as goal

pub returns : goal.returns
returns c =
    let leaf = c.args.leaf.now in
    let set = c.args.set.now in
    c.from_vec.ensures
    ∙ c.in_ok-none_there.ensures
    ∙ ap (λ facts. facts ++ no_moves leaf (puts_into set) ++ no_start_facts leaf set ++ Eq (count_row leaf set (pos 0)) ∷ no_helper_facts leaf set) c.new-facts.ensures.items
