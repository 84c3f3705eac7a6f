use Rattle.std.proofs.Common.{◌∙◌, ap, sym}
use Rattle.std.specs.Prelude.{Some}
use Rattle.std.proofs.lemmas.Option.{slice_get-get_or}
use Rattle.cert_base.specs.FactsAndCases.{is_about_inputs}
use Rattle.cert_traps.proofs.Lists.{kept_more, kept_all}
use Rattle.cert_traps.proofs.inputs.keep_about_inputs.Goals as goal

pub loop-fact-preserved : goal.loop-fact-preserved
loop-fact-preserved c =
    kept_more (is_about_inputs c.args.leaf.now) c.args.facts.now c.loop-fact.fact-index c.fact-item.result c.args.kept.now.items c.loop-fact.kept.items c.keep.new.kept.items
    (slice_get-get_or c.args.facts.now c.loop-fact.fact-index c.fact-item.result c.loop-fact-test.true ∙ ap (λ fact. Some fact) (sym c.fact-item.is)) c.loop-fact.invariant c.in_ok-keep.ensures

pub returns : goal.returns
returns c =
    kept_all (is_about_inputs c.args.leaf.now) c.args.facts.now c.loop-fact.fact-index c.args.kept.now.items c.loop-fact.kept.items c.loop-fact-test.false c.loop-fact.invariant
