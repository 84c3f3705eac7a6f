use Rattle.std.proofs.Common.{◌∙◌, length, ap, arith}
use Rattle.std.proofs.lemmas.List.{length-map}
use Rattle.cert_traps.specs.Roles.{passes_role}
use Rattle.cert_traps.proofs.Lists.{moves_zero}
use Rattle.cert_traps.proofs.trap.none_taken.Goals as goal

pub returns : goal.returns
returns c =
    moves_zero c.args.leaf.now (passes_role c.args.set.now c.args.role) c.variable_of_move.result c.as_slice.result.now c.args.facts.now.items c.push_zeros.new.facts.items (omega (arith, c.variable_of_move.ensures.value)) (c.as_slice.ensures.value ∙ c.in_ok-flags.ensures) c.in_ok-push_zeros.ensures

pub push_zeros-requires : goal.push_zeros-requires
push_zeros-requires c =
    let long = ap length (c.as_slice.ensures.value ∙ c.in_ok-flags.ensures) ∙ length-map c.args.leaf.now.moves (passes_role c.args.set.now c.args.role) in
    omega (arith, long, c.variable_of_move.ensures.value, c.variable_of_move.ensures.small)
