use Rattle.std.proofs.Common.{◌∙◌, ap, length, arith}
use Rattle.std.specs.Prelude.{pos}
use Rattle.comp_powers.proofs.Listed.{long_of}
use Rattle.comp_powers.proofs.multipliers.no_leak.Goals as goal

pub mixed-requires : goal.mixed-requires
mixed-requires c =
    let long = ap length c.as_slice.ensures.value ∙ long_of c.args.leaf.now (λ q. pos 0) c.in_ok-none.none.items c.in_ok-none.ensures in
    omega (arith, long, c.requires)
