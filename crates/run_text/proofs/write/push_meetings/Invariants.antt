use Rattle.std.proofs.Common.{◌≡◌, ◌≤◌, ◌++◌, length, map, take}
use Rattle.run_text.specs.Journal.{meeting_line, text_of}
use Rattle.run_text.proofs.write.push_meetings.Given as goal

abbrev pub invariant-loop-meeting : goal.invariant-loop-meeting
invariant-loop-meeting l = record {
  within : l.end ≤ length l.page;
  size : length l.page ≡ length l.fn.page;
  written : l.text.items ++ take l.end l.page ≡ l.fn.text.items ++ text_of (map meeting_line (take l.meeting-index l.meetings));
}
