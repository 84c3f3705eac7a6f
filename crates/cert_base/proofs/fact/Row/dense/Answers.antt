use Rattle.std.proofs.Common.{◌∙◌, rules, w64, SFits, get_or}
use Rattle.std.specs.Prelude.{pos}
use Rattle.cert_base.proofs.TermLists.{terms_from-read, terms_from-all, row_written}
use Rattle.cert_base.proofs.fact.Row.dense.Goals as goal

pub loop-i-preserved : goal.loop-i-preserved
loop-i-preserved c =
    let fits : SFits w64 (get_or c.args.coefs.now c.loop-i.i (pos 0)) = search rules in
    terms_from-read c.args.first c.loop-i.i c.args.coefs.now c.loop-i.terms c.push.new.self c.loop-i-test.true fits c.in_ok-push.ensures
    ∙ c.loop-i.invariant

pub returns : goal.returns
returns c =
    let fits : SFits w64 c.args.constant = search rules in
    row_written c.into_row.result c.loop-i.terms _ c.args.constant fits c.into_row.ensures
    (terms_from-all c.args.first c.loop-i.i c.args.coefs.now c.loop-i.terms c.loop-i-test.false c.loop-i.invariant)
