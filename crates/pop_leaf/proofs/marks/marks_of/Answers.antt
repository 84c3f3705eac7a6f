use Rattle.std.proofs.Common.{get_or}
use Rattle.std.proofs.lemmas.Option.{slice_get-get_or}
use Rattle.pop_leaf.proofs.Marked.{none_marked, one_marked}
use Rattle.pop_leaf.proofs.marks.marks_of.Goals as goal

pub loop-number-init : goal.loop-number-init
loop-number-init c = none_marked c.args.count c.in_ok-marks.marks.items c.in_ok-marks.ensures

pub loop-number-preserved : goal.loop-number-preserved
loop-number-preserved c =
    let kept = c.args.kept.now in
    let k = c.loop-number.number-index in
    one_marked c.args.count kept k (get_or kept k 0) (slice_get-get_or kept k 0 c.loop-number-test.true) c.loop-number.marks.items c.mark.new.marks.items c.loop-number.invariant c.mark.ensures
