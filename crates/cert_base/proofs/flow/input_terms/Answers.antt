use Rattle.std.proofs.Common.{◌∙◌, map, arith}
use Rattle.std.specs.Prelude.{◌==◌}
use Rattle.cert_base.specs.FactsAndCases.{indicator}
use Rattle.std.proofs.lemmas.List.{length-map}
use Rattle.cert_base.proofs.TermLists.{terms_from-all}
use Rattle.cert_base.proofs.FlowRows.{input_entered}
use Rattle.cert_base.proofs.flow.input_terms.Goals as goal

pub loop-i-preserved : goal.loop-i-preserved
loop-i-preserved c =
    input_entered c.args.leaf.now.inputs c.args.q c.loop-i.i c.input.result c.variable_of_input.result c.from.result c.loop-i.terms c.push.new.self c.input.ensures.start c.variable_of_input.ensures c.from.ensures c.in_ok-push.ensures
    ∙ c.loop-i.invariant

pub returns : goal.returns
returns c =
    terms_from-all 0 c.loop-i.i (map (λ start. indicator (start == c.args.q)) c.args.leaf.now.inputs) c.loop-i.terms (omega (arith, c.input_count-i-end.ensures.count, length-map c.args.leaf.now.inputs (λ start. indicator (start == c.args.q)))) c.loop-i.invariant
