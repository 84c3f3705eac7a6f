use Rattle.std.proofs.Common.{rules}
use Rattle.pop_words.specs.Meetings.{meeting_of}
use Rattle.pop_words.proofs.meeting.read_meeting.Goals as goal

pub returns-clause-meeting : goal.returns-clause-meeting
unfolding meeting_of
returns-clause-meeting c = search rules

pub returns-clause-agents : goal.returns-clause-agents
unfolding meeting_of
returns-clause-agents c = search rules
