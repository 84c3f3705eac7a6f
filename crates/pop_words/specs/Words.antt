-- What a list of words means.
use Rattle.std.specs.Prelude.{ℕ, ◌≤◌, List, [], ◌∷◌, codes, Option, Some, None}
use Rattle.std.specs.Prelude.{option_map, find, Result, Ok, Err}
use Rattle.std.specs.Str.{bytes_eq}
use Rattle.pop_words.specs.declared.command.Command.{Command}
use Rattle.pop_words.specs.declared.command.Command.TheVariants.{Play, Eval, Check, Show, Run, Watch}
use Rattle.pop_words.specs.declared.command.Command.TheVariants.{Replay, ReplayWatched, Settle, Compile, Flocks}
use Rattle.pop_words.specs.declared.command.Command.TheVariants.{Succinct, Demo}
use Rattle.pop_words.specs.declared.command.Usage.{Usage}
use Rattle.pop_words.specs.declared.command.UsageWhy.TheVariants.{Missing, Unknown, Value}
use Rattle.pop_words.specs.declared.words.Form.{Form}
use Rattle.pop_words.specs.declared.words.Flags.{Flags}
use Rattle.pop_words.specs.declared.words.Flags.TheVariants.{OfCompile, OfReplay}
use Rattle.pop_words.specs.declared.words.Form.TheVariants.{Alone, WithOptions, WithNumber, WithFlag}
use Rattle.base_lines.specs.Numbers.{number_of_within}
use Rattle.run_spec.specs.declared.spec.TheConstants.{WATCHED_WORKERS}
use Rattle.pop_words.specs.declared.command.TheConstants.{DEMO_LIMIT}
use Rattle.run_spec.specs.declared.kind.RunKind.{RunKind}
use Rattle.run_spec.specs.declared.kind.RunKind.TheVariants.{Whole, Watched}
use Rattle.pop_words.specs.Options.{bad_at, options_meaning}
use Rattle.run_spec.specs.RunLimits.{IsWithinLimits}
use Rattle.run_spec.specs.declared.spec.RunSpec.{RunSpec}

-- the words of the commands, and what follows each
abbrev pub commands : List (List ℕ × Form)
commands =
    (codes "play", Alone Play)
    ∷ (codes "eval", Alone Eval)
    ∷ (codes "check", Alone Check)
    ∷ (codes "show", Alone Show)
    ∷ (codes "run", WithOptions Whole)
    ∷ (codes "watch", WithOptions Watched)
    ∷ (codes "replay", WithFlag OfReplay)
    ∷ (codes "settle", Alone Settle)
    ∷ (codes "compile", WithFlag OfCompile)
    ∷ (codes "demo", WithNumber)
    ∷ []

-- what stands in the row of a word, compared whole
abbrev pub row_of : {A : Type 0} → List ℕ → List (List ℕ × A) → Option A
row_of word rows = option_map (λ row. row.1) (find (λ row. bytes_eq word row.0) rows)

-- the form that a word names
abbrev pub form_named : List ℕ → Option Form
form_named word = row_of word commands

-- no word follows the command's own
abbrev pub no_more : Command → List (List ℕ) → Result Command Usage
no_more command [] = Ok command
no_more command (word ∷ rest) = bad_at 1 Unknown

-- the command that makes a run of this kind
abbrev pub run_command : RunKind → RunSpec → Command
run_command Whole spec = Run spec
run_command Watched spec = Watch spec

-- the command that replays a journal of a run of this kind
abbrev pub replay_command : RunKind → Command
replay_command Whole = Replay
replay_command Watched = ReplayWatched

abbrev pub to_run : RunKind → Result RunSpec Usage → Result Command Usage
to_run kind (Ok spec) = Ok (run_command kind spec)
to_run kind (Err usage) = Err usage

abbrev pub demo_with : Option ℕ → List (List ℕ) → Result Command Usage
demo_with None rest = bad_at 1 Value
demo_with (Some number) [] = Ok (Demo number)
demo_with (Some number) (word ∷ rest) = bad_at 2 Unknown

-- one number of a demo case follows `demo`
abbrev pub demo_meaning : List (List ℕ) → Result Command Usage
demo_meaning [] = bad_at 1 Missing
demo_meaning (number ∷ rest) = demo_with (number_of_within 0 DEMO_LIMIT number) rest

abbrev pub unflagged_command : Flags → Command
unflagged_command OfCompile = Compile
unflagged_command OfReplay = Replay

-- the flags, and the command with each
abbrev pub flag_rows : Flags → List (List ℕ × Command)
flag_rows OfCompile = (codes "--flocks", Flocks) ∷ (codes "--succinct", Succinct) ∷ []
flag_rows OfReplay = (codes "--watched", ReplayWatched) ∷ []

abbrev pub flagged_command : Flags → List ℕ → Option Command
flagged_command flags word = row_of word (flag_rows flags)

abbrev pub behind_flag : Option Command → List (List ℕ) → Result Command Usage
behind_flag None rest = bad_at 1 Unknown
behind_flag (Some command) [] = Ok command
behind_flag (Some command) (word ∷ rest) = bad_at 2 Unknown

-- no word follows the plain command's own, and one flag alone follows that of another one
abbrev pub flag_meaning : Flags → List (List ℕ) → Result Command Usage
flag_meaning flags [] = Ok (unflagged_command flags)
flag_meaning flags (word ∷ rest) = behind_flag (flagged_command flags word) rest

-- what the words after the command's own mean
abbrev pub meaning_behind : Option Form → List (List ℕ) → Result Command Usage
meaning_behind None words = bad_at 0 Unknown
meaning_behind (Some (Alone command)) words = no_more command words
meaning_behind (Some (WithOptions kind)) words = to_run kind (options_meaning kind words)
meaning_behind (Some WithNumber) words = demo_meaning words
meaning_behind (Some (WithFlag flags)) words = flag_meaning flags words

-- What the words mean: a command, or the first bad word, counted from 0, and its reason.
abbrev pub meaning_of : List (List ℕ) → Result Command Usage
meaning_of [] = bad_at 0 Missing
meaning_of (first ∷ words) = meaning_behind (form_named first) words

-- the numbers of a run or of a demo case are within their limits
abbrev pub HasLimits : Command → Type 0
HasLimits Play = Unit {0}
HasLimits Eval = Unit {0}
HasLimits Check = Unit {0}
HasLimits Show = Unit {0}
HasLimits (Run spec) = IsWithinLimits spec
HasLimits (Watch spec) = IsWithinLimits spec × (spec.workers ≤ WATCHED_WORKERS)
HasLimits Replay = Unit {0}
HasLimits ReplayWatched = Unit {0}
HasLimits Settle = Unit {0}
HasLimits Compile = Unit {0}
HasLimits Flocks = Unit {0}
HasLimits Succinct = Unit {0}
HasLimits (Demo number) = number ≤ DEMO_LIMIT

abbrev pub FormHasLimits : Form → Type 0
FormHasLimits (Alone command) = HasLimits command
FormHasLimits (WithOptions kind) = Unit {0}
FormHasLimits WithNumber = Unit {0}
FormHasLimits (WithFlag flags) = Unit {0}
