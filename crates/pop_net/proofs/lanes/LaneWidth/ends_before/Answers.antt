use Rattle.std.proofs.Common.{◌≡◌, ◌*◌, ◌/◌, ◌^◌, ap, sym, ◌∙◌}
use Rattle.std.proofs.lemmas.Bool.{eqb-true, eq-eqb}
use Rattle.pop_net.specs.LaneWidth.{bits_of}
use Rattle.pop_net.proofs.LaneBits.{no_more, no_lane}
use Rattle.pop_net.proofs.lanes.LaneWidth.ends_before.Goals as goal

pub returns-else-used-eq-WORD_BITS : goal.returns-else-used-eq-WORD_BITS
returns-else-used-eq-WORD_BITS c =
    let same : c.args.word / 2 ^ (c.bits.result * c.args.n) ≡ c.args.word / 2 ^ (bits_of c.args.self * c.args.n) = ap (λ b. c.args.word / 2 ^ (b * c.args.n)) c.bits.ensures in
    ((λ e. no_more (bits_of c.args.self) c.args.word c.args.n (sym same ∙ eqb-true _ 0 e)), (λ l. eq-eqb _ 0 (same ∙ no_lane (bits_of c.args.self) c.args.word c.args.n l)))
