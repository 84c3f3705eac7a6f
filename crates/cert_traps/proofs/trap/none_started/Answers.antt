use Rattle.std.proofs.Common.{◌∙◌, length, ap, arith}
use Rattle.std.proofs.lemmas.List.{length-map}
use Rattle.cert_base.specs.FactsAndCases.{is_in}
use Rattle.cert_traps.proofs.Lists.{inputs_zero}
use Rattle.cert_traps.proofs.trap.none_started.Goals as goal

pub push_zeros-requires : goal.push_zeros-requires
push_zeros-requires c =
    let long = ap length (c.as_slice.ensures.value ∙ c.in_ok-flags.ensures.flags) ∙ length-map c.args.leaf.now.inputs (is_in c.args.set.now) in
    omega (arith, long, c.in_ok-flags.ensures.formed.input_count, c.variable_of_input.ensures)

pub returns : goal.returns
returns c =
    inputs_zero c.args.leaf.now c.args.set.now c.variable_of_input.result c.as_slice.result.now c.args.facts.now.items c.push_zeros.new.facts.items c.variable_of_input.ensures (c.as_slice.ensures.value ∙ c.in_ok-flags.ensures.flags) c.in_ok-push_zeros.ensures
