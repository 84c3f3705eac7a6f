-- Meeting lines.
use Rattle.std.specs.Prelude.{ℕ, ◌==◌, ◌&&◌, not, nat_lt, List, [], ◌∷◌, Option, Some, None, option_map}
use Rattle.std.specs.Prelude.{option_and_then, Result, Ok, Err, if◌then◌else◌}
use Rattle.base_lines.specs.Lines.{pieces}
use Rattle.base_lines.specs.Numbers.{number_of}
use Rattle.pop_words.specs.declared.meeting.MeetingFault.{MeetingFault}
use Rattle.pop_words.specs.declared.meeting.MeetingFault.TheVariants.{Form, Agents}

-- two words that are numbers
abbrev pub pair_of : List (List ℕ) → Option (ℕ × ℕ)
pair_of (first ∷ second ∷ []) = option_and_then (λ a. option_map (λ b. (a, b)) (number_of second)) (number_of first)
pair_of _ = None

-- two different agents
abbrev pub two_agents_of : ℕ → Option (ℕ × ℕ) → Result (ℕ × ℕ) MeetingFault
two_agents_of agents None = Err Form
two_agents_of agents (Some pair) =
    if not (pair.0 == pair.1) && (nat_lt pair.0 agents && nat_lt pair.1 agents) then Ok pair else Err Agents

-- a meeting line: the numbers of two different agents, with one space between them
unfoldable pub meeting_of : ℕ → List ℕ → Result (ℕ × ℕ) MeetingFault
meeting_of agents line = two_agents_of agents (pair_of (pieces 32 line))
