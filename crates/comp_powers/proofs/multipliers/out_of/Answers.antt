use Rattle.std.proofs.Common.{◌∙◌, ap, length, arith}
use Rattle.std.specs.Prelude.{pos, slice_index_or}
use Rattle.std.proofs.lemmas.List.{length-map}
use Rattle.std.proofs.lemmas.Result.{IfOk-weaker}
use Rattle.comp_powers.proofs.Listed.{company-most}
use Rattle.comp_powers.proofs.multipliers.out_of.Goals as goal

pub returns-clause-short : goal.returns-clause-short
returns-clause-short c =
    let leaf = c.args.leaf.now in
    let states = c.as_slice.result.now in
    let most = company-most leaf c.args.state in
    let long = ap length (c.as_slice.ensures.value ∙ c.in_ok-states.ensures.states) in
    IfOk-weaker c.picked.result _ _
    (λ multipliers h. let own = ap length h ∙ length-map states (λ q. slice_index_or c.args.out.now q (pos 0)) in omega (arith, own, long, most))
    c.picked.ensures
