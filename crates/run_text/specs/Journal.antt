-- Journals: the lines that record a run, from its first line to the last.
use Rattle.std.specs.Prelude.{ℕ, ◌+◌, List, [], ◌∷◌, ◌++◌, map, flat_map, codes, decimal, if◌then◌else◌}
use Rattle.base_lines.specs.Lines.{ended}
use Rattle.pop_leaf.specs.NetModel.{NetModel, CrowdModel}
use Rattle.pop_crowd.specs.declared.crowd.Meeting.{Meeting}
use Rattle.pop_crowd.specs.Tally.{crowd_lines}
use Rattle.run_spec.specs.declared.kind.RunKind.{RunKind}
use Rattle.run_spec.specs.declared.spec.RunSpec.{RunSpec}
use Rattle.run_spec.specs.Kinds.{kind_word}
use Rattle.run_text.specs.declared.last.Last.{Last}
use Rattle.run_text.specs.declared.last.Last.TheVariants.{Verdict, Terminal, Undecided, Settled}

-- the word of the run's kind, and its options
abbrev pub run_line : RunKind → RunSpec → List ℕ
run_line kind spec =
    (kind_word kind ++ codes " workers " ++ decimal spec.workers)
    ++ (codes " shards " ++ decimal spec.shards) ++ (codes " turns " ++ decimal spec.turns)
    ++ (codes " seed " ++ decimal spec.seed)

abbrev pub round_line : ℕ → List ℕ
round_line k = codes "round " ++ decimal k

-- the worker, the two agents, and a mark if a tuple changed
abbrev pub meeting_line : Meeting → List ℕ
meeting_line m =
    decimal m.worker ++ (codes " " ++ decimal m.a) ++ (codes " " ++ decimal m.b)
    ++ (if m.changed then codes " *" else [])

-- each round from number k on: its line, and one line for each meeting
abbrev pub round_lines : ℕ → List (List Meeting) → List (List ℕ)
round_lines k [] = []
round_lines k (meetings ∷ rounds) = (round_line k ∷ map meeting_line meetings) ++ round_lines (k + 1) rounds

abbrev pub last_line : Last → List ℕ
last_line (Verdict value) = if value then codes "verdict true" else codes "verdict false"
last_line Terminal = codes "terminal"
last_line (Undecided a b) = (codes "undecided " ++ decimal a) ++ codes " " ++ decimal b
last_line (Settled value) = if value then codes "settled true" else codes "settled false"

-- the lines up to `end`
abbrev pub run_lines : RunKind → RunSpec → List (List Meeting) → List (List ℕ)
run_lines kind spec rounds = (run_line kind spec ∷ round_lines 1 rounds) ++ codes "end" ∷ []

-- the text of these lines
abbrev pub text_of : List (List ℕ) → List ℕ
text_of lines = flat_map ended lines

-- the lines of the run, those of its last crowd, and the last line
abbrev pub journal_text : RunKind → NetModel → RunSpec → List (List Meeting) → CrowdModel → Last → List ℕ
journal_text kind net spec rounds crowd last =
    text_of (run_lines kind spec rounds) ++ crowd_lines net crowd ++ ended (last_line last)
