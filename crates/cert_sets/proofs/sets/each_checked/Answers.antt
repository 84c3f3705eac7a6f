use Rattle.std.proofs.Common.{length, refl, arith}
use Rattle.std.proofs.lemmas.Option.{slice_get_read}
use Rattle.cert_base.specs.ValidLayers.{moves_of_layers}
use Rattle.cert_sets.proofs.GoodSets.{more_good, all_good}
use Rattle.cert_sets.proofs.sets.each_checked.Goals as goal

pub loop-j-preserved : goal.loop-j-preserved
loop-j-preserved c =
    let given = c.args.given.now in
    let sets = c.args.sets.now in
    let is = slice_get_read sets (length sets) c.loop-j.j c.index-sets-j.result refl c.loop-j-test.true c.index-sets-j.is in
    more_good given.leaf.now (moves_of_layers given.layers.now) c.args.value sets c.loop-j.j c.index-sets-j.result is c.in_ok-check_set.ensures.good c.loop-j.invariant

pub returns-clause-good : goal.returns-clause-good
returns-clause-good c =
    let given = c.args.given.now in
    all_good given.leaf.now (moves_of_layers given.layers.now) c.args.value c.args.sets.now c.loop-j.j (omega (arith, c.loop-j-test.false)) c.loop-j.invariant
