use Rattle.std.proofs.Common.{refl, arith, ◌≡◌, true}
use Rattle.pop_net.specs.NetFaults.{names_below}
use Rattle.pop_net.proofs.Trees.{put_low}
use Rattle.pop_net.proofs.combination.put_depth.Goals as goal

pub returns-in-Some-clause-good : goal.returns-in-Some-clause-good
returns-in-Some-clause-good c =
    let named : names_below c.args.leaves c.args.item ≡ true = cc in
    let low = put_low _ _ _ c.in-Some.ensures.rest.0 _ c.requires.low c.in-Some.ensures.rest.1 c.in-Some.ensures.found (omega arith) in
    rw (named, low) refl
