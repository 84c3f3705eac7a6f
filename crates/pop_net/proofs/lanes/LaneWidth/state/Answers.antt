use Rattle.std.proofs.Common.{◌-◌, ◌*◌, ◌/◌, ◌^◌, ap, ◌∙◌}
use Rattle.std.specs.Int.Bits.{bit_and}
use Rattle.pop_net.specs.LaneWidth.{bits_of}
use Rattle.pop_net.proofs.LaneBits.{masked}
use Rattle.pop_net.proofs.lanes.LaneWidth.state.Goals as goal

pub returns : goal.returns
returns c =
    ap (λ m. bit_and (c.args.word / 2 ^ (c.bits.result * c.args.i)) m) c.mask.ensures
    ∙ ap (λ b. bit_and (c.args.word / 2 ^ (b * c.args.i)) (2 ^ bits_of c.args.self - 1)) c.bits.ensures
    ∙ masked (bits_of c.args.self) c.args.word c.args.i
