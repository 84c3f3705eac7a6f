use Rattle.std.proofs.Common.{◌∙◌}
use Rattle.cert_tree.proofs.ShortCases.{short-fit, long-fit}
use Rattle.cert_tree.proofs.size.has_room.Goals as goal

pub returns : goal.returns
returns c = c.are_short.ensures ∙ short-fit c.args.facts.now c.args.cases.now c.if-facts-gt-FACT_LIMIT.false

pub returns-then-facts-gt-FACT_LIMIT : goal.returns-then-facts-gt-FACT_LIMIT
returns-then-facts-gt-FACT_LIMIT c =
    c.is_empty.ensures ∙ long-fit c.args.facts.now c.args.cases.now c.if-facts-gt-FACT_LIMIT.true
