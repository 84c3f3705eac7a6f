use Rattle.std.proofs.Common.{◌≡◌, ◌∙◌, map}
use Rattle.std.specs.List.{zip}
use Rattle.std.proofs.lemmas.Result.{IfOk-weaker}
use Rattle.cert_base.specs.FactsAndCases.{flow, states_of}
use Rattle.cert_base.proofs.FlowRows.{fact_of, flow_rows-facts}
use Rattle.cert_base.proofs.flow.flow_facts.Goals as goal

pub returns-clause-facts : goal.returns-clause-facts
returns-clause-facts c =
    IfOk-weaker c.facts_of.result
    (λ facts. facts.items ≡ map (fact_of c.args.leaf.now) (zip c.in_ok-flow_rows.field-0.items (states_of c.args.leaf.now)))
    (λ facts. facts.items ≡ map (flow c.args.leaf.now) (states_of c.args.leaf.now))
    (λ facts e. e ∙ flow_rows-facts c.args.leaf.now c.in_ok-flow_rows.field-0.items c.in_ok-flow_rows.ensures.rows)
    c.facts_of.ensures
