use Rattle.std.proofs.Common.{◌≡◌, ◌∙◌, length, ap, rules, w64, to_z, of_z, SFits}
use Rattle.std.proofs.lemmas.Int.{to_z-of_z}
use Rattle.std.proofs.lemmas.Result.{IfOk-weaker}
use Rattle.std.proofs.lemmas.List.FromFn.{length-range_with_len}
use Rattle.cert_base.specs.FactsAndCases.{is_in, states_of, count_row}
use Rattle.cert_base.specs.Rows.{state_row}
use Rattle.cert_traps.proofs.Lists.{flags_coefs, length-coefs}
use Rattle.cert_traps.proofs.trap.count_in.Goals as goal

pub over_states-requires : goal.over_states-requires
over_states-requires c =
    length-coefs (is_in c.args.set.now) (states_of c.args.leaf.now) c.as_slice.result.now c.as_slice-2.result.now (c.as_slice.ensures.value ∙ c.in_ok-flags.ensures.flags) (c.as_slice-2.ensures.value ∙ c.in_ok-coefs.ensures)
    ∙ length-range_with_len 0 (length c.args.leaf.now.states)

pub returns-clause-row : goal.returns-clause-row
returns-clause-row c =
    let fits : SFits w64 c.args.constant = search rules in
    IfOk-weaker c.over_states.result
    (λ row. row ≡ state_row c.args.leaf.now c.as_slice-2.result.now (to_z w64 (of_z w64 c.args.constant)))
    (λ row. row ≡ count_row c.args.leaf.now c.args.set.now c.args.constant)
    (λ row e.
    e
    ∙ ap (state_row c.args.leaf.now c.as_slice-2.result.now) (to_z-of_z w64 c.args.constant fits)
    ∙ ap (λ coefs. state_row c.args.leaf.now coefs c.args.constant) (flags_coefs (is_in c.args.set.now) (states_of c.args.leaf.now) c.as_slice.result.now c.as_slice-2.result.now (c.as_slice.ensures.value ∙ c.in_ok-flags.ensures.flags) (c.as_slice-2.ensures.value ∙ c.in_ok-coefs.ensures)))
    c.over_states.ensures
