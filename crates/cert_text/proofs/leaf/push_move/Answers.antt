use Rattle.std.proofs.Common.{codes, decimal}
use Rattle.cert_text.proofs.Behind.{nine}
use Rattle.cert_text.proofs.leaf.push_move.Goals as goal

pub returns : goal.returns
returns c =
    nine c.args.out.now.items c.push_text.new.out.items c.push_number.new.out.items c.push_text-2.new.out.items c.push_number-2.new.out.items c.push_text-3.new.out.items c.push_number-3.new.out.items c.push_text-4.new.out.items c.push_number-4.new.out.items c.push_text-5.new.out.items
    (codes "[") (decimal c.args.t.p) (codes ",") (decimal c.args.t.q) (codes ",") (decimal c.args.t.r) (codes ",") (decimal c.args.t.s) (codes "]")
    c.in_ok-push_text.ensures (rw c.from.ensures at c.in_ok-push_number.ensures.ok) c.in_ok-push_text-2.ensures (rw c.from-2.ensures at c.in_ok-push_number-2.ensures.ok) c.in_ok-push_text-3.ensures (rw c.from-3.ensures at c.in_ok-push_number-3.ensures.ok) c.in_ok-push_text-4.ensures (rw c.from-4.ensures at c.in_ok-push_number-4.ensures.ok) c.in_ok-push_text-5.ensures
