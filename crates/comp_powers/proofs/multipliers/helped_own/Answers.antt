use Rattle.std.proofs.Common.{ap, length, arith}
use Rattle.cert_base.specs.FactsAndCases.{puts_into, is_in}
use Rattle.comp_powers.specs.PowersProof.{hubs}
use Rattle.comp_powers.proofs.Closing.{places-most}
use Rattle.comp_powers.proofs.multipliers.helped_own.Goals as goal

pub returns-clause-short : goal.returns-clause-short
returns-clause-short c =
    let leaf = c.args.leaf.now in
    let formed = c.state_count-formed.ensures.formed in
    let moves = ap length c.in_ok-moves.ensures in
    let inputs = ap length c.in_ok-inputs.ensures in
    omega (arith, c.in_ok-extend_from_slice.ensures.len, c.in_ok-own.ensures.len, c.len.ensures, c.len-2.ensures, moves, inputs, places-most 0 (puts_into hubs) leaf.moves, places-most 0 (is_in hubs) leaf.inputs, formed.move_count, formed.input_count)
