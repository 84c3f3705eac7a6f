use Rattle.std.proofs.Common.{rules}
use Rattle.cert_show.proofs.Pieces.{one_escape}
use Rattle.cert_show.proofs.name.push_bytes.Goals as goal

pub loop-byte-preserved : goal.loop-byte-preserved
loop-byte-preserved c =
    one_escape c.args.bytes.now c.loop-byte.byte-index _ c.args.out.now.items c.loop-byte.out.items c.push_byte.new.out.items (search rules) c.loop-byte.invariant c.in_ok-push_byte.ensures
