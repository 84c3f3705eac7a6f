use Rattle.std.proofs.Common.{◌≡◌, length, drop, sym, subst, ◌∙◌, ap, arith, rules}
use Rattle.std.proofs.lemmas.List.{length-map, drop_all}
use Rattle.pop_leaf.specs.Step.{Step}
use Rattle.pop_leaf.specs.Reachable.{ReachedWithin}
use Rattle.pop_net.specs.Lanes.{tuple_of, crowd_of}
use Rattle.pop_crowd.specs.Replay.{replay, change_count, AreMeetings}
use Rattle.pop_crowd.proofs.Words.{crowd_tuples}
use Rattle.pop_crowd.proofs.Reached.{replay_reached}
use Rattle.std.proofs.lemmas.Grind.{common_steps}
use Rattle.pop_crowd.proofs.crowd.Crowd.replay.Goals as goal

pub returns : goal.returns
returns c =
    let net = c.args.net.now in
    let crowd = crowd_of net c.args.self.now in
    let end : crowd_of net c.loop-meeting.self ≡ replay net c.args.meetings.now crowd =
    ap (λ ms. replay net ms (crowd_of net c.loop-meeting.self)) (sym (drop_all c.loop-meeting.meeting-index c.args.meetings.now (omega arith))) ∙ c.loop-meeting.invariant.rest in
    let meetings : AreMeetings (length crowd) c.args.meetings.now = rw (length-map c.args.self.now (tuple_of net)) c.requires.meetings in
    let none : change_count net (drop c.loop-meeting.meeting-index c.args.meetings.now) (crowd_of net c.loop-meeting.self) ≡ 0 =
    ap (λ ms. change_count net ms (crowd_of net c.loop-meeting.self)) (drop_all c.loop-meeting.meeting-index c.args.meetings.now (omega arith)) in
    record {
      after = search rules;
      changed = let n = c.loop-meeting.invariant.counted in omega (arith, n, none);
      valid = search rules;
      agents = search rules;
      reached = subst (ReachedWithin (Step net) (length c.args.meetings.now) crowd) (sym end)
          (replay_reached net c.args.meetings.now crowd (crowd_tuples net c.args.self.now) meetings);
    }

pub loop-meeting-preserved : goal.loop-meeting-preserved
loop-meeting-preserved c = grind (arith, common_steps)
