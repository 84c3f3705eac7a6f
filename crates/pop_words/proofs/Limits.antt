-- The numbers of a run and of a demo case are within their limits, and so are workers and turns together.
use Rattle.std.proofs.Common.{◌≡◌, ℕ, ◌≤◌, ◌&&◌, Bool, true, false, List, Option, Some, None, Result, Ok, Err, refl, subst, arith, nat_le}
use Rattle.std.specs.Prelude.{◌%◌, ◌==◌, ◌+◌, ◌*◌, nat_lt, IfOk, IfSome, length, option_and_then, option_map, position, unwrap_or, slice_index_or, if◌then◌else◌, find, ◌∷◌, []}
use Rattle.std.specs.Str.{bytes_eq}
use Rattle.std.proofs.lemmas.Bool.{and_parts, leb-true, ltb-false}
use Rattle.base_lines.specs.Numbers.{number_of, number_of_within}
use Rattle.run_spec.specs.Kinds.{most_workers_of}
use Rattle.run_spec.specs.declared.kind.RunKind.{RunKind}
use Rattle.run_spec.specs.declared.kind.RunKind.TheVariants.{Whole, Watched}
use Rattle.run_spec.specs.declared.spec.TheConstants.{MEETING_LIMIT}
use Rattle.pop_words.specs.declared.command.TheConstants.{DEMO_LIMIT}
use Rattle.run_spec.specs.declared.spec.RunSpec.{RunSpec}
use Rattle.pop_words.specs.declared.options.RunOption.{RunOption}
use Rattle.pop_words.specs.declared.options.RunOption.TheVariants.{Workers, Shards, Turns, Seed}
use Rattle.pop_words.specs.declared.command.Command.{Command}
use Rattle.pop_words.specs.declared.command.Command.TheVariants.{Play, Eval, Check, Show, Run, Watch, Replay, ReplayWatched, Settle, Compile, Flocks, Succinct, Demo}
use Rattle.pop_words.specs.declared.command.Usage.{Usage}
use Rattle.pop_words.specs.declared.command.UsageWhy.{UsageWhy}
use Rattle.pop_words.specs.declared.command.UsageWhy.TheVariants.{Missing, Product}
use Rattle.pop_words.specs.declared.words.Flags.{Flags}
use Rattle.pop_words.specs.declared.words.Flags.TheVariants.{OfCompile, OfReplay}
use Rattle.pop_words.specs.declared.words.Form.{Form}
use Rattle.pop_words.specs.declared.words.Form.TheVariants.{Alone, WithOptions, WithNumber, WithFlag}
use Rattle.pop_words.specs.Options.{least_of, most_of, default_of, name_of, number_behind, option_value, spec_of, bad_at, run_with, or_fault, first_fault, options_meaning, IsWithin}
use Rattle.run_spec.specs.RunLimits.{IsWithinLimits}
use Rattle.pop_words.specs.Words.{row_of, form_named, commands, no_more, run_command, to_run, demo_with, demo_meaning, flag_rows, flagged_command, behind_flag, flag_meaning, meaning_behind, meaning_of}

pub default_within : (kind : RunKind) (option : RunOption) → IsWithin kind option (default_of option)
default_within Whole Workers = (omega arith, omega arith)
default_within Watched Workers = (omega arith, omega arith)
default_within kind Shards = (omega arith, omega arith)
default_within kind Turns = (omega arith, omega arith)
default_within kind Seed = (omega arith, omega arith)

-- what is within the limits of any run is within those of a whole run
pub within_whole : (kind : RunKind) (option : RunOption) (n : ℕ) → IsWithin kind option n → IsWithin Whole option n
within_whole Whole Workers n is = is
within_whole Watched Workers n is = (is.0, omega (arith, is.1))
within_whole kind Shards n is = is
within_whole kind Turns n is = is
within_whole kind Seed n is = is

chosen : (least most n : ℕ) (b : Bool) → nat_le least n && nat_le n most ≡ b → IfSome (if b then Some n else None) (λ m. (least ≤ m) × (m ≤ most))
chosen least most n true is = let parts = and_parts (nat_le least n) (nat_le n most) is in (leb-true least n parts.0, leb-true n most parts.1)
chosen least most n false is = tt

within : (least most : ℕ) (o : Option ℕ) → IfSome (option_and_then (λ n. if nat_le least n && nat_le n most then Some n else None) o) (λ m. (least ≤ m) × (m ≤ most))
within least most None = tt
within least most (Some n) = chosen least most n (nat_le least n && nat_le n most) refl

or_default : (kind : RunKind) (option : RunOption) (o : Option ℕ) → IfSome o (IsWithin kind option) → IsWithin kind option (unwrap_or o (default_of option))
or_default kind option None is = default_within kind option
or_default kind option (Some n) is = is

behind : (kind : RunKind) (option : RunOption) (words : List (List ℕ)) (place : Option ℕ)
    → IfSome (option_and_then (λ i. number_behind kind option (slice_index_or words (i + 1) [])) place) (IsWithin kind option)
behind kind option words None = tt
behind kind option words (Some i) = within (least_of option) (most_of kind option) (number_of (slice_index_or words (i + 1) []))

value_within : (kind : RunKind) (words : List (List ℕ)) (option : RunOption) → IsWithin kind option (option_value kind words option)
value_within kind words option =
    or_default kind option (option_and_then (λ i. number_behind kind option (slice_index_or words (i + 1) [])) (position (λ word. bytes_eq word (name_of option)) words))
    (behind kind option words (position (λ word. bytes_eq word (name_of option)) words))

abbrev IsSpent : RunSpec → Type 0
IsSpent spec = spec.workers * spec.turns ≤ MEETING_LIMIT

-- all that is known of a run of this kind
abbrev IsBounded : RunKind → RunSpec → Type 0
IsBounded kind spec = IsWithinLimits spec × (spec.workers ≤ most_workers_of kind) × IsSpent spec

-- the same for a command: its numbers are within their limits, and those of a run together
abbrev AreBounded : Command → Type 0
AreBounded Play = Unit {0}
AreBounded Eval = Unit {0}
AreBounded Check = Unit {0}
AreBounded Show = Unit {0}
AreBounded (Run spec) = IsBounded Whole spec
AreBounded (Watch spec) = IsBounded Watched spec
AreBounded Replay = Unit {0}
AreBounded ReplayWatched = Unit {0}
AreBounded Settle = Unit {0}
AreBounded Compile = Unit {0}
AreBounded Flocks = Unit {0}
AreBounded Succinct = Unit {0}
AreBounded (Demo number) = number ≤ DEMO_LIMIT

spec_within : (kind : RunKind) (words : List (List ℕ)) → IsWithinLimits (spec_of kind words) × ((spec_of kind words).workers ≤ most_workers_of kind)
spec_within kind words = (
  record {
    workers = within_whole kind Workers (option_value kind words Workers) (value_within kind words Workers);
    shards = within_whole kind Shards (option_value kind words Shards) (value_within kind words Shards);
    turns = (within_whole kind Turns (option_value kind words Turns) (value_within kind words Turns)).1;
    seed = (within_whole kind Seed (option_value kind words Seed) (value_within kind words Seed)).1;
  },
  (value_within kind words Workers).1,
)

run_within : (kind : RunKind) (words : List (List ℕ)) (odd large : Bool) → nat_lt MEETING_LIMIT ((spec_of kind words).workers * (spec_of kind words).turns) ≡ large
    → IfOk (if odd then bad_at (length words + 1) Missing else (if large then bad_at (length words + 1) Product else Ok (spec_of kind words))) (IsBounded kind)
run_within kind words true large is = tt
run_within kind words false true is = tt
run_within kind words false false is =
    let limits = spec_within kind words in (limits.0, limits.1, ltb-false MEETING_LIMIT ((spec_of kind words).workers * (spec_of kind words).turns) is)

fault_within : (kind : RunKind) (o : Option (ℕ × UsageWhy)) (run : Result RunSpec Usage) → IfOk run (IsBounded kind) → IfOk (or_fault o run) (IsBounded kind)
fault_within kind None run is = is
fault_within kind (Some fault) run is = tt

run_limits : (kind : RunKind) (run : Result RunSpec Usage) → IfOk run (IsBounded kind) → IfOk (to_run kind run) AreBounded
run_limits Whole (Ok spec) is = is
run_limits Watched (Ok spec) is = is
run_limits kind (Err usage) is = tt

abbrev FormIsBounded : Form → Type 0
FormIsBounded (Alone command) = AreBounded command
FormIsBounded (WithOptions kind) = Unit {0}
FormIsBounded WithNumber = Unit {0}
FormIsBounded (WithFlag flags) = Unit {0}

found_row : {A : Type 0} (P : A → Type 0) (row : List ℕ × A) (rest : Option (List ℕ × A)) (b : Bool) → P row.1 → IfSome (option_map (λ row. row.1) rest) P
    → IfSome (option_map (λ row. row.1) (if b then Some row else rest)) P
found_row P row rest true here later = here
found_row P row rest false here later = later

abbrev AllRows : {A : Type 0} → (A → Type 0) → List (List ℕ × A) → Type 0
AllRows P [] = Unit {0}
AllRows P (row ∷ rows) = P row.1 × AllRows P rows

found : {A : Type 0} (P : A → Type 0) (word : List ℕ) (rows : List (List ℕ × A)) → AllRows P rows → IfSome (row_of word rows) P
found P word [] all = tt
found P word (row ∷ rows) all = found_row P row (find (λ row. bytes_eq word row.0) rows) (bytes_eq word row.0) all.0 (found P word rows all.1)

alone_within : (command : Command) (words : List (List ℕ)) → AreBounded command → IfOk (no_more command words) AreBounded
alone_within command [] is = is
alone_within command (word ∷ words) is = tt

demo_within : (o : Option ℕ) (rest : List (List ℕ)) → IfSome o (λ number. (0 ≤ number) × (number ≤ DEMO_LIMIT)) → IfOk (demo_with o rest) AreBounded
demo_within None rest is = tt
demo_within (Some number) [] is = is.1
demo_within (Some number) (word ∷ rest) is = tt

number_limits : (words : List (List ℕ)) → IfOk (demo_meaning words) AreBounded
number_limits [] = tt
number_limits (number ∷ rest) = demo_within (number_of_within 0 DEMO_LIMIT number) rest (within 0 DEMO_LIMIT (number_of number))

rows_within : (flags : Flags) → AllRows AreBounded (flag_rows flags)
rows_within OfCompile = (tt, (tt, tt))
rows_within OfReplay = (tt, tt)

flagged_within : (command : Option Command) (rest : List (List ℕ)) → IfSome command AreBounded → IfOk (behind_flag command rest) AreBounded
flagged_within None rest is = tt
flagged_within (Some command) [] is = is
flagged_within (Some command) (word ∷ rest) is = tt

flag_within : (flags : Flags) (words : List (List ℕ)) → IfOk (flag_meaning flags words) AreBounded
flag_within OfCompile [] = tt
flag_within OfReplay [] = tt
flag_within flags (word ∷ rest) = flagged_within (flagged_command flags word) rest (found AreBounded word (flag_rows flags) (rows_within flags))

behind_within : (form : Option Form) (words : List (List ℕ)) → IfSome form FormIsBounded → IfOk (meaning_behind form words) AreBounded
behind_within None words is = tt
behind_within (Some (Alone command)) words is = alone_within command words is
behind_within (Some (WithOptions kind)) words is =
    run_limits kind (options_meaning kind words)
    (fault_within kind (first_fault kind words) (run_with kind words)
    (run_within kind words (length words % 2 == 1) (nat_lt MEETING_LIMIT ((spec_of kind words).workers * (spec_of kind words).turns)) refl))
behind_within (Some WithNumber) words is = number_limits words
behind_within (Some (WithFlag flags)) words is = flag_within flags words

meaning_bounded : (words : List (List ℕ)) → IfOk (meaning_of words) AreBounded
meaning_bounded [] = tt
meaning_bounded (first ∷ words) =
    behind_within (form_named first) words (found FormIsBounded first commands (tt, (tt, (tt, (tt, (tt, (tt, (tt, (tt, (tt, (tt, tt)))))))))))

of_kind : (kind : RunKind) (spec : RunSpec) → AreBounded (run_command kind spec) → IsBounded kind spec
of_kind Whole spec is = is
of_kind Watched spec is = is

-- a run that words ask for, of any kind, is within all its limits
pub run_bounded : (words : List (List ℕ)) (kind : RunKind) (spec : RunSpec) → meaning_of words ≡ Ok (run_command kind spec)
    → IsWithinLimits spec × (spec.workers ≤ most_workers_of kind) × (spec.workers * spec.turns ≤ MEETING_LIMIT)
run_bounded words kind spec is = of_kind kind spec (subst (λ (r : Result Command Usage). IfOk r AreBounded) is (meaning_bounded words))
