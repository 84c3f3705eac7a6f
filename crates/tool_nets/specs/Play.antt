-- What `play` makes of the lines of its input: a net, a crowd line and meeting lines.
use Rattle.std.specs.Prelude.{◌≡◌, ℕ, ◌+◌, List, [], ◌∷◌, ◌++◌, length, codes}
use Rattle.std.specs.Prelude.{decimal, false, Option, Some, None, Result, Ok, Err}
use Rattle.serde_json.specs.Data.{Data}
use Rattle.pop_leaf.specs.NetModel.{NetModel, CrowdModel}
use Rattle.pop_crowd.specs.declared.crowd.Meeting.{Meeting}
use Rattle.pop_crowd.specs.Replay.{replay}
use Rattle.pop_crowd.specs.Tally.{crowd_lines}
use Rattle.pop_words.specs.Meetings.{meeting_of}
use Rattle.pop_words.specs.declared.meeting.MeetingFault.{MeetingFault}
use Rattle.pop_words.specs.declared.meeting.MeetingFault.TheVariants as meeting
use Rattle.tool_texts.specs.declared.refusal.Refusal.{Refusal}
use Rattle.tool_texts.specs.declared.refusal.Refusal.TheVariants.{Line}
use Rattle.tool_texts.specs.declared.refusal.LineWhy.TheVariants.{Form, Agents}
use Rattle.tool_texts.specs.Steps.{◌>>=◌, After}
use Rattle.tool_texts.specs.Lines.{two_and_more}
use Rattle.tool_texts.specs.Json.{HasValue}
use Rattle.tool_nets.specs.declared.play.TheConstants.{MEETINGS_LINE}
use Rattle.tool_bundles.specs.Start.{start_in}
use Rattle.tool_bundles.specs.LastPair.{IsLast}
use Rattle.tool_texts.specs.declared.output.Output.{Output}
use Rattle.tool_texts.specs.declared.output.Ending.TheVariants.{Done}

-- the meeting of two agents
abbrev pub between : ℕ × ℕ → Meeting
between pair = record { worker = 0; a = pair.0; b = pair.1; changed = false }

-- the agents that the line of this number names
abbrev pub paired : ℕ → Result (ℕ × ℕ) MeetingFault → Result (ℕ × ℕ) Refusal
paired number (Ok pair) = Ok pair
paired number (Err meeting.Form) = Err (Line number Form)
paired number (Err meeting.Agents) = Err (Line number Agents)

-- the meetings of all lines from this number on
abbrev pub meetings_in : ℕ → ℕ → List (List ℕ) → Result (List Meeting) Refusal
meetings_in agents number [] = Ok []
meetings_in agents number (line ∷ lines) =
    paired number (meeting_of agents line) >>= λ pair. meetings_in agents (number + 1) lines >>= λ more. Ok
    (between pair ∷ more)

-- the crowd after the meetings of the lines from a number on
abbrev pub on_from : NetModel → ℕ → ℕ → CrowdModel → List (List ℕ) → Result CrowdModel Refusal
on_from net agents number crowd lines = meetings_in agents number lines >>= λ meetings. Ok (replay net meetings crowd)

-- the crowd after the meetings of these lines, the first of which has the number MEETINGS_LINE
unfoldable pub played : NetModel → CrowdModel → List (List ℕ) → Result CrowdModel Refusal
played net crowd lines = meetings_in (length crowd) MEETINGS_LINE lines >>= λ meetings. Ok (replay net meetings crowd)

-- the net, and the crowd at the end
unfoldable pub end_crowd : Option Data → List ℕ → List (List ℕ) → Result (NetModel × CrowdModel) Refusal
end_crowd value line lines = do
  start ← start_in value line
  end ← played start.0 start.1 lines
  Ok (start.0, end)

abbrev pub end_line : Option (ℕ × ℕ) → List ℕ
end_line None = codes "terminal\n"
end_line (Some (a, b)) = codes "enabled " ++ decimal a ++ codes " " ++ decimal b ++ codes "\n"

-- the crowd lines, and the last line
abbrev pub play_output : NetModel → CrowdModel → Option (ℕ × ℕ) → Output
play_output net crowd last = record { text = crowd_lines net crowd ++ end_line last; ending = Done }

abbrev pub OfEnd : NetModel × CrowdModel → Result Output Refusal → Type 0
OfEnd end given = (last : Option (ℕ × ℕ)) × IsLast end.0 end.1 last × (given ≡ Ok (play_output end.0 end.1 last))

abbrev pub OfLines : List ℕ × List ℕ × List (List ℕ) → Result Output Refusal → Type 0
OfLines lines given =
    (value : Option Data) × HasValue lines.0 value × After (end_crowd value lines.1 lines.2) OfEnd given

-- what `play` gives for the lines of its input
abbrev pub PlayGives : List (List ℕ) → Result Output Refusal → Type 0
PlayGives lines given = After (two_and_more lines) OfLines given
