use Rattle.std.proofs.Common.{◌≡◌, ◌∙◌, ap, arith, rules, w64, to_z, of_z, SFits}
use Rattle.std.proofs.lemmas.Int.{to_z-of_z}
use Rattle.std.specs.Prelude.{pos, ◌-ℤ◌}
use Rattle.cert_base.specs.declared.fact.Fact.TheVariants.{Ge}
use Rattle.cert_base.specs.Rows.{input_row}
use Rattle.cert_base.specs.FactsAndCases.{is_in, helpers_among}
use Rattle.cert_traps.proofs.Lists.{flags_coefs, length-coefs}
use Rattle.cert_traps.proofs.siphon.some_started.Goals as goal

pub over_inputs-requires : goal.over_inputs-requires
over_inputs-requires c =
    let long = length-coefs (is_in c.args.set.now) c.args.leaf.now.inputs c.as_slice.result.now c.as_slice-2.result.now (c.as_slice.ensures.value ∙ c.in_ok-flags.ensures.flags) (c.as_slice-2.ensures.value ∙ c.in_ok-coefs.ensures) in
    omega (arith, long, c.in_ok-flags.ensures.formed.input_count)

pub returns : goal.returns
returns c =
    let count = to_z-of_z w64 c.from.result (search rules) in
    let less : SFits w64 (c.from.result -ℤ pos 1) = search rules in
    let constant : to_z w64 (of_z w64 (to_z w64 (of_z w64 c.from.result) -ℤ pos 1)) ≡ (pos (helpers_among c.args.leaf.now c.args.set.now) -ℤ pos 1) =
    ap (λ z. to_z w64 (of_z w64 (z -ℤ pos 1))) count ∙ to_z-of_z w64 (c.from.result -ℤ pos 1) less ∙ ap (λ z. z -ℤ pos 1) (c.from.ensures ∙ ap pos c.helpers.ensures) in
    let coefs = flags_coefs (is_in c.args.set.now) c.args.leaf.now.inputs c.as_slice.result.now c.as_slice-2.result.now (c.as_slice.ensures.value ∙ c.in_ok-flags.ensures.flags) (c.as_slice-2.ensures.value ∙ c.in_ok-coefs.ensures) in
    ap Ge
    (c.in_ok-over_inputs.ensures
    ∙ ap (λ a. input_row c.as_slice-2.result.now a) constant
    ∙ ap (λ coefs. input_row coefs (pos (helpers_among c.args.leaf.now c.args.set.now) -ℤ pos 1)) coefs)

pub helpers-requires : goal.helpers-requires
helpers-requires c = c.in_ok-flags.ensures.formed
