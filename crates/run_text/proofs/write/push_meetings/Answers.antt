use Rattle.std.proofs.Common.{arith, ◌∙◌}
use Rattle.base_lines.proofs.Places.{placed_within}
use Rattle.run_text.proofs.Texts.{meeting_placed}
use Rattle.run_text.proofs.write.push_meetings.Goals as goal

pub loop-meeting-preserved : goal.loop-meeting-preserved
loop-meeting-preserved c =
    let l = c.loop-meeting in
    record {
      within = placed_within (omega (arith, c.in_ok-at.ensures.room)) c.put_meeting-end.ensures;
      size = c.put_meeting-end.ensures.size ∙ l.invariant.size;
      written = meeting_placed c.args.text.now.items l.text.items c.make_room.new.text.items l.page c.put_meeting-end.new.page c.args.meetings.now l.meeting-index _ l.end c.in_ok-at.at c.put_meeting-end.result
          c.loop-meeting-test.true l.invariant.written c.in_ok-at.ensures.same c.put_meeting-end.ensures.front;
    }
