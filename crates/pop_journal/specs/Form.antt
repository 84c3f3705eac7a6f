-- The form of a journal, line by line.
use Rattle.std.specs.Prelude.{◌≡◌, ℕ, ◌+◌, ◌*◌, ◌==◌, ◌&&◌, not, nat_lt, nat_le, Bool, true}
use Rattle.std.specs.Prelude.{false, if◌then◌else◌, List, [], ◌∷◌, ◌++◌, length, codes, Option}
use Rattle.std.specs.Prelude.{Some, None, option_map, option_and_then, Result, Ok, Err}
use Rattle.std.specs.Str.{bytes_eq}
use Rattle.base_lines.specs.Lines.{pieces}
use Rattle.base_lines.specs.Numbers.{printed_number_of, printed_number_of_within}
use Rattle.pop_crowd.specs.declared.crowd.Meeting.{Meeting}
use Rattle.pop_io.specs.declared.gate.TheConstants.{SHARD_LIMIT}
use Rattle.run_spec.specs.declared.kind.RunKind.{RunKind}
use Rattle.run_spec.specs.declared.kind.RunKind.TheVariants.{Whole, Watched}
use Rattle.run_spec.specs.Kinds.{kind_word, most_workers_of}
use Rattle.run_spec.specs.declared.spec.TheConstants.{TURN_LIMIT, MEETING_LIMIT, SEED_LIMIT}
use Rattle.run_spec.specs.declared.spec.RunSpec.{RunSpec}
use Rattle.run_picks.specs.Run.{made_by, turns_in}
use Rattle.pop_journal.specs.declared.form.MeetingLine.{MeetingLine}
use Rattle.run_text.specs.Journal.{round_line}
use Rattle.run_text.specs.declared.fault.JournalWhy.{JournalWhy}
use Rattle.run_text.specs.declared.fault.JournalWhy.TheVariants.{Missing, Form, Worker, Agents, Round}

-- a number in its printed form and within these limits, with the words after it
abbrev pub number_first : ℕ → ℕ → List (List ℕ) → Option (ℕ × List (List ℕ))
number_first least most [] = None
number_first least most (number ∷ more) = option_map (λ n. (n, more)) (printed_number_of_within least most number)

-- such a number after its name
abbrev pub number_named : List ℕ → ℕ → ℕ → List (List ℕ) → Option (ℕ × List (List ℕ))
number_named name least most [] = None
number_named name least most (word ∷ words) = if bytes_eq word name then number_first least most words else None

abbrev pub at_the_end : RunSpec → List (List ℕ) → Option RunSpec
at_the_end spec [] = if nat_le (spec.workers * spec.turns) MEETING_LIMIT then Some spec else None
at_the_end spec (word ∷ more) = None

-- the turns and the seed, after the workers and the shards; workers times turns are within their limit
abbrev pub turns_named : ℕ → ℕ → List (List ℕ) → Option RunSpec
turns_named workers shards words =
    option_and_then
    (λ t. option_and_then
    (λ n. at_the_end (record { workers = workers; shards = shards; turns = t.0; seed = n.0 }) n.1)
    (number_named (codes "seed") 0 SEED_LIMIT t.1))
    (number_named (codes "turns") 0 TURN_LIMIT words)

-- the numbers of a run of at most so many workers
abbrev pub spec_named : ℕ → List (List ℕ) → Option RunSpec
spec_named most words =
    option_and_then
    (λ w. option_and_then (λ s. turns_named w.0 s.0 s.1) (number_named (codes "shards") 1 SHARD_LIMIT w.1))
    (number_named (codes "workers") 1 most words)

-- the kind's word, and the numbers after it
abbrev pub spec_words : RunKind → List (List ℕ) → Option RunSpec
spec_words kind [] = None
spec_words kind (first ∷ words) =
    if bytes_eq first (kind_word kind) then spec_named (most_workers_of kind) words else None

unfoldable pub spec_in : RunKind → List ℕ → Option RunSpec
spec_in kind line = spec_words kind (pieces 32 line)

abbrev pub three_numbers : List ℕ → List ℕ → List ℕ → Bool → Option MeetingLine
three_numbers w a b mark =
    option_and_then
    (λ worker. option_and_then
    (λ first. option_map (λ second. record { worker = worker; first = first; second = second; changed = mark }) (printed_number_of b)) (printed_number_of a))
    (printed_number_of w)

abbrev pub told_words : List (List ℕ) → Option MeetingLine
told_words (w ∷ a ∷ b ∷ []) = three_numbers w a b false
told_words (w ∷ a ∷ b ∷ star ∷ []) = if bytes_eq star (codes "*") then three_numbers w a b true else None
told_words _ = None

unfoldable pub told_in : List ℕ → Option MeetingLine
told_in line = told_words (pieces 32 line)

-- the first of these lines says this about a meeting, and these are the others
abbrev pub Tells : List (List ℕ) → Option MeetingLine → List (List ℕ) → Type 0
Tells [] told others = ⊥
Tells (line ∷ lines) told others = (told_in line ≡ told) × (lines ≡ others)

-- the whole rounds so far, and the meetings of a round that lacks some
abbrev pub Reading : Type 0
Reading = List (List Meeting) × Option (List Meeting)

-- all rounds, the last of which may lack meetings
abbrev pub all_rounds : Reading → List (List Meeting)
all_rounds (rounds, None) = rounds
all_rounds (rounds, Some meetings) = rounds ++ meetings ∷ []

-- how many meetings the round after these has
abbrev pub wanted : RunSpec → List (List Meeting) → ℕ
wanted spec rounds = spec.workers * turns_in spec (length rounds + 1)

abbrev pub settled : RunSpec → List (List Meeting) → List Meeting → Reading
settled spec rounds meetings =
    if length meetings == wanted spec rounds then (rounds ++ meetings ∷ [], None) else (rounds, Some meetings)

-- the meeting that a line says
abbrev pub meeting_of : MeetingLine → Meeting
meeting_of told = record { worker = told.worker; a = told.first; b = told.second; changed = told.changed }

-- a meeting by a worker that lacks meetings of this round, of two different agents
abbrev pub meeting_told : RunSpec → ℕ → List (List Meeting) → List Meeting → Option MeetingLine
    → Result (Option Reading) JournalWhy
meeting_told spec agents rounds meetings None = Err Form
meeting_told spec agents rounds meetings (Some told) =
    if nat_lt told.worker spec.workers && nat_lt (made_by told.worker meetings) (turns_in spec (length rounds + 1))
    then if not (told.first == told.second) && (nat_lt told.first agents && nat_lt told.second agents)
    then Ok (Some (settled spec rounds (meetings ++ meeting_of told ∷ [])))
    else Err Agents
    else Err Worker

-- a reading with one more meeting, if a line gave one
abbrev pub onward : RunSpec → List (List Meeting) → List Meeting → Result Meeting JournalWhy
    → Result (Option Reading) JournalWhy
onward spec rounds meetings (Ok m) = Ok (Some (settled spec rounds (meetings ++ m ∷ [])))
onward spec rounds meetings (Err why) = Err why

-- a watched run may end inside a round that lacks meetings
abbrev pub ends_inside : RunKind → List ℕ → Bool
ends_inside Whole line = false
ends_inside Watched line = bytes_eq line (codes "end")

-- what one line makes of a reading: nothing more if it is `end`
abbrev pub line_read : RunKind → RunSpec → ℕ → Reading → List ℕ → Result (Option Reading) JournalWhy
line_read kind spec agents (rounds, None) line =
    if bytes_eq line (codes "end")
    then Ok None
    else if bytes_eq line (round_line (length rounds + 1))
    then if turns_in spec (length rounds + 1) == 0 then Err Round else Ok (Some (rounds, Some []))
    else Err Form
line_read kind spec agents (rounds, Some meetings) line =
    if ends_inside kind line then Ok None else meeting_told spec agents rounds meetings (told_in line)

-- the first invalid line, and why
abbrev pub Out : Type 0
Out = ℕ × JournalWhy

-- the rounds, and the lines after `end`
abbrev pub Parts : Type 0
Parts = List (List Meeting) × List (List ℕ)

abbrev pub follow : ℕ → Parts → (Reading → Result Parts Out) → Result (Option Reading) JournalWhy → Result Parts Out
follow number ended on (Err why) = Err (number, why)
follow number ended on (Ok None) = Ok ended
follow number ended on (Ok (Some next)) = on next

-- the lines from this number on
abbrev pub lines_read : RunKind → RunSpec → ℕ → ℕ → Reading → List (List ℕ) → Result Parts Out
lines_read kind spec agents number reading [] = Err (number, Missing)
lines_read kind spec agents number reading (line ∷ lines) =
    follow number (all_rounds reading, lines) (λ next. lines_read kind spec agents (number + 1) next lines)
    (line_read kind spec agents reading line)

abbrev pub under : RunSpec → Result Parts Out → Result (RunSpec × Parts) Out
under spec (Ok parts) = Ok (spec, parts)
under spec (Err out) = Err out

abbrev pub with_spec : RunKind → ℕ → ℕ → List (List ℕ) → Option RunSpec → Result (RunSpec × Parts) Out
with_spec kind agents first lines None = Err (first, Form)
with_spec kind agents first lines (Some spec) = under spec (lines_read kind spec agents (first + 1) ([], None) lines)

-- what a text's lines say about a run of this kind
abbrev pub journal_in : RunKind → ℕ → ℕ → List (List ℕ) → Result (RunSpec × Parts) Out
journal_in kind agents first [] = Err (first, Missing)
journal_in kind agents first (line ∷ lines) = with_spec kind agents first lines (spec_in kind line)
