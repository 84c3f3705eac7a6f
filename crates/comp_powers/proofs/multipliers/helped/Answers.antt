use Rattle.std.proofs.Common.{◌∙◌, ap, length, arith}
use Rattle.comp_powers.specs.PowersProof.{none}
use Rattle.comp_powers.proofs.Listed.{long_of}
use Rattle.comp_powers.proofs.multipliers.helped.Goals as goal

pub mixed-requires : goal.mixed-requires
mixed-requires c =
    let flows = ap length c.as_slice.ensures.value ∙ long_of c.args.leaf.now none c.in_ok-none.none.items c.in_ok-none.ensures in
    let own = ap length c.as_slice-2.ensures.value in
    omega (arith, flows, own, c.in_ok-own.ensures.short, c.requires)
