-- The options of `run` and `watch`, in any order and each at most once.
use Rattle.std.specs.Prelude.{ℕ, ◌+◌, ◌*◌, ◌-◌, ◌≤◌, ◌%◌, ◌==◌, nat_lt, List, [], ◌∷◌, length, take, codes, Option}
use Rattle.std.specs.Prelude.{Some, None, is_some, option_map, option_and_then, unwrap_or, find, position}
use Rattle.std.specs.Prelude.{slice_index_or, if◌then◌else◌, Result, Ok, Err}
use Rattle.std.specs.List.{list_any, range_with_len}
use Rattle.std.specs.Str.{bytes_eq}
use Rattle.base_lines.specs.Numbers.{number_of_within}
use Rattle.pop_words.specs.declared.options.RunOption.{RunOption}
use Rattle.pop_words.specs.declared.options.RunOption.TheVariants.{Workers, Shards, Turns, Seed}
use Rattle.pop_io.specs.declared.gate.TheConstants.{SHARD_LIMIT}
use Rattle.run_spec.specs.declared.kind.RunKind.{RunKind}
use Rattle.run_spec.specs.Kinds.{most_workers_of}
use Rattle.run_spec.specs.declared.spec.TheConstants.{TURN_LIMIT, MEETING_LIMIT, SEED_LIMIT}
use Rattle.run_spec.specs.declared.spec.RunSpec.{RunSpec}
use Rattle.pop_words.specs.declared.command.UsageWhy.{UsageWhy}
use Rattle.pop_words.specs.declared.command.UsageWhy.TheVariants.{Missing, Unknown, Twice, Value, Product}
use Rattle.pop_words.specs.declared.command.Usage.{Usage}

abbrev pub name_of : RunOption → List ℕ
name_of Workers = codes "--workers"
name_of Shards = codes "--shards"
name_of Turns = codes "--turns"
name_of Seed = codes "--seed"

-- the least and the greatest number of an option, and its default
abbrev pub least_of : RunOption → ℕ
least_of Workers = 1
least_of Shards = 1
least_of Turns = 0
least_of Seed = 0

abbrev pub most_of : RunKind → RunOption → ℕ
most_of kind Workers = most_workers_of kind
most_of kind Shards = SHARD_LIMIT
most_of kind Turns = TURN_LIMIT
most_of kind Seed = SEED_LIMIT

abbrev pub default_of : RunOption → ℕ
default_of Workers = 1
default_of Shards = 16
default_of Turns = 10000
default_of Seed = 0

abbrev pub option_named : List ℕ → Option RunOption
option_named word = find (λ option. bytes_eq word (name_of option)) (Workers ∷ Shards ∷ Turns ∷ Seed ∷ [])

-- a number within the option's limits
abbrev pub number_behind : RunKind → RunOption → List ℕ → Option ℕ
number_behind kind option word = number_of_within (least_of option) (most_of kind option) word

-- an option that no earlier word names
abbrev pub name_fault : List (List ℕ) → List ℕ → Option UsageWhy
name_fault before word =
    if is_some (option_named word)
    then (if list_any (bytes_eq word) before then Some Twice else None)
    else Some Unknown

-- a number that the option before it may have
abbrev pub number_fault : RunKind → Option RunOption → List ℕ → Option UsageWhy
number_fault kind None word = None
number_fault kind (Some option) word = if is_some (number_behind kind option word) then None else Some Value

-- what is wrong with word i after the command's own: options and numbers alternate
abbrev pub word_fault : RunKind → List (List ℕ) → ℕ → Option UsageWhy
word_fault kind words i =
    if i % 2 == 0
    then name_fault (take i words) (slice_index_or words i [])
    else number_fault kind (option_named (slice_index_or words (i - 1) [])) (slice_index_or words i [])

-- what f gives for the first item for which it gives anything
abbrev pub first_given : {A B : Type 0} → (A → Option B) → List A → Option B
first_given f [] = None
first_given f (x ∷ xs) = if is_some (f x) then f x else first_given f xs

abbrev pub fault_with_place : RunKind → List (List ℕ) → ℕ → Option (ℕ × UsageWhy)
fault_with_place kind words i = option_map (λ why. (i, why)) (word_fault kind words i)

-- the first bad word, and what is wrong with it
abbrev pub first_fault : RunKind → List (List ℕ) → Option (ℕ × UsageWhy)
first_fault kind words = first_given (fault_with_place kind words) (range_with_len 0 (length words))

-- the number of an option: the one after its name, or its default
abbrev pub option_value : RunKind → List (List ℕ) → RunOption → ℕ
option_value kind words option =
    unwrap_or
    (option_and_then (λ i. number_behind kind option (slice_index_or words (i + 1) []))
    (position (λ word. bytes_eq word (name_of option)) words))
    (default_of option)

abbrev pub spec_of : RunKind → List (List ℕ) → RunSpec
spec_of kind words =
    record {
      workers = option_value kind words Workers;
      shards = option_value kind words Shards;
      turns = option_value kind words Turns;
      seed = option_value kind words Seed;
    }

-- the word with this number is the first bad one
abbrev pub bad_at : {A : Type 0} → ℕ → UsageWhy → Result A Usage
bad_at word why = Err (record { word = word; why = why })

-- the run that options without a fault ask for, if the last one has its number and workers times turns are within
-- their limit
abbrev pub run_with : RunKind → List (List ℕ) → Result RunSpec Usage
run_with kind words =
    if length words % 2 == 1
    then bad_at (length words + 1) Missing
    else (if nat_lt MEETING_LIMIT ((spec_of kind words).workers * (spec_of kind words).turns)
    then bad_at (length words + 1) Product
    else Ok (spec_of kind words))

abbrev pub or_fault : Option (ℕ × UsageWhy) → Result RunSpec Usage → Result RunSpec Usage
or_fault None run = run
or_fault (Some fault) run = bad_at (fault.0 + 1) fault.1

-- the run of this kind that the words after the command's own ask for, or the first bad one; the command's own is
-- word 0
abbrev pub options_meaning : RunKind → List (List ℕ) → Result RunSpec Usage
options_meaning kind words = or_fault (first_fault kind words) (run_with kind words)

-- a number is within its option's limits
abbrev pub IsWithin : RunKind → RunOption → ℕ → Type 0
IsWithin kind option n = (least_of option ≤ n) × (n ≤ most_of kind option)
