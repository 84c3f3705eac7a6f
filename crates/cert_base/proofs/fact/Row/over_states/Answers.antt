use Rattle.std.proofs.Common.{◌≡◌, length, arith, rules, w64, to_z, of_z, SFits}
use Rattle.std.proofs.lemmas.Result.{IfOk-weaker}
use Rattle.cert_base.specs.Rows.{terms_from, state_row}
use Rattle.cert_base.proofs.TermLists.{row_behind}
use Rattle.cert_base.proofs.fact.Row.over_states.Goals as goal

pub returns : goal.returns
returns c =
    let fits : SFits w64 c.args.constant = search rules in
    IfOk-weaker c.dense.result
    (λ row. row ≡ record { terms = terms_from c.variable_of_state.result c.args.coefs.now; constant = to_z w64 (of_z w64 c.args.constant) })
    (λ row. row ≡ state_row c.args.leaf.now c.args.coefs.now c.args.constant)
    (λ row e. row_behind (length c.args.leaf.now.inputs) c.variable_of_state.result c.args.coefs.now c.args.constant row fits (omega (arith, c.variable_of_state.ensures.value)) e)
    c.dense.ensures
