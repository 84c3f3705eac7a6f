use Rattle.std.proofs.Common.{◌+◌, false, get_or, refl}
use Rattle.std.proofs.lemmas.Option.{slice_get-get_or}
use Rattle.cert_traps.proofs.Lists.{zeros_more, zeros_all}
use Rattle.cert_traps.proofs.facts.push_zeros.Goals as goal

pub loop-t-preserved : goal.loop-t-preserved
loop-t-preserved c =
    zeros_more c.args.first c.loop-t.t (c.args.first + c.loop-t.t) c.args.flags.now (get_or c.args.flags.now c.loop-t.t false) c.args.facts.now.items c.loop-t.facts.items c.push_zero.new.facts.items (slice_get-get_or c.args.flags.now c.loop-t.t false c.loop-t-test.true) refl c.loop-t.invariant c.in_ok-push_zero.ensures

pub returns : goal.returns
returns c =
    zeros_all c.args.first c.loop-t.t c.args.flags.now c.args.facts.now.items c.loop-t.facts.items c.loop-t-test.false c.loop-t.invariant
