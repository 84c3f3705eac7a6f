use Rattle.std.proofs.Common.{refl, arith}
use Rattle.std.proofs.lemmas.List.{take_rest}
use Rattle.base_lines.proofs.Pieces.{pieces-ended, pieces-whole, around}
use Rattle.base_lines.proofs.cuts.cut.Goals as goal

pub returns-then-b-byte : goal.returns-then-b-byte
returns-then-b-byte c = rw (take_rest c.args.bytes.now) (
  pieces-ended c.args.byte c.args.bytes.now c.loop-i.i c.loop-i-test.true c.loop-i.invariant c.if-b-byte.true,
  around c.args.byte c.args.bytes.now c.loop-i.i c.loop-i-test.true c.if-b-byte.true,
)

pub returns : goal.returns
returns c = (pieces-whole c.args.byte c.args.bytes.now (λ k h. c.loop-i.invariant k (omega arith)), refl)
