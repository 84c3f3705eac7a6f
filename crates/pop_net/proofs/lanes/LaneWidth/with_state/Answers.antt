use Rattle.std.proofs.Common.{◌≡◌, ◌+◌, ◌*◌, ◌%◌, ◌^◌, ap, ◌∙◌, arith}
use Rattle.pop_net.specs.LaneWidth.{bits_of}
use Rattle.pop_net.proofs.LaneBits.{shifted, used, fits}
use Rattle.pop_net.proofs.lanes.LaneWidth.with_state.Goals as goal

lane : (c : goal.After-bits) → c.from.result * 2 ^ (c.bits.result * c.args.i) % 2 ^ 64 ≡ c.args.state * (2 ^ bits_of c.args.self) ^ c.args.i
lane c =
    ap (λ s. s * 2 ^ (c.bits.result * c.args.i) % 2 ^ 64) c.from.ensures
    ∙ ap (λ b. c.args.state * 2 ^ (b * c.args.i) % 2 ^ 64) c.bits.ensures
    ∙ shifted (bits_of c.args.self) c.args.state c.args.i c.requires.small c.requires.lane

pub overflow_add-result : goal.overflow_add-result
overflow_add-result c =
    let e = lane c in
    omega (arith, e, used (2 ^ bits_of c.args.self) c.args.word c.args.state c.args.i c.requires.free c.requires.small, fits (bits_of c.args.self) (c.args.i + 1) c.requires.lane)

pub returns-clause-sum : goal.returns-clause-sum
returns-clause-sum c = let e = lane c in omega (arith, e)

pub returns-clause-used : goal.returns-clause-used
returns-clause-used c =
    let e = lane c in
    omega (arith, e, used (2 ^ bits_of c.args.self) c.args.word c.args.state c.args.i c.requires.free c.requires.small)
