use Rattle.std.proofs.Common.{refl, ◌∙◌, arith}
use Rattle.pop_watch.proofs.MoreMeetings.{goes_on_none, goes_on_more, has_no_more, has_more_on}
use Rattle.pop_watch.proofs.missing.make_turns.Goals as goal

pub turns-init : goal.turns-init
turns-init c = record {
  goes_on = goes_on_none c.args.net.now c.args.played.now;
  more = has_no_more c.args.worker c.args.played.now;
  valid = c.requires.valid;
  made = omega arith;
  room = refl;
}

pub turns-preserved : goal.turns-preserved
turns-preserved c =
    let was = c.turns.invariant in
    let one = c.push_next.ensures in
    record {
      goes_on = goes_on_more c.args.net.now c.args.played.now c.turns.played c.push_next.new.played was.goes_on one.goes_on;
      more = has_more_on c.args.worker c.turns.turn 1 c.args.played.now c.turns.played c.push_next.new.played was.more one.more;
      valid = one.valid;
      made = let w = was.made in let o = one.made in omega arith;
      room = one.room ∙ was.room;
    }
