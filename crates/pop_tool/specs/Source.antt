-- What a call leaves of its source.
use Rattle.std.specs.Prelude.{◌≡◌, ◌≤◌, ℕ, List, length, Bool, true, false, Option, Some, Result, Ok, Err}
use Rattle.std.specs.Io.KnownBytes.{Consumes, IsAtEnd}
use Rattle.pop_io.specs.declared.whole.TheConstants.{INPUT_LIMIT}
use Rattle.pop_words.specs.declared.command.Command.{Command}
use Rattle.pop_words.specs.declared.command.Usage.{Usage}
use Rattle.pop_words.specs.Words.{meaning_of}
use Rattle.pop_tool.specs.Commands.{reads}

-- a suffix of what there was
abbrev pub HasSuffix : Option (List ℕ) → Option (List ℕ) → Type 0
HasSuffix left rest = (taken : List ℕ) × Consumes left rest taken

abbrev pub meaning_reads : Result Command Usage → Bool
meaning_reads (Ok command) = reads command
meaning_reads (Err usage) = false

-- whether the words mean a command that reads an input
abbrev pub words_read : List (List ℕ) → Bool
words_read words = meaning_reads (meaning_of words)

-- nothing of an input within its limit, if the words have a command that reads it
abbrev pub IsReadToEnd : List (List ℕ) → Option (List ℕ) → Option (List ℕ) → Type 0
IsReadToEnd words left rest =
    words_read words ≡ true → (input : List ℕ) → left ≡ Some input → length input ≤ INPUT_LIMIT → IsAtEnd rest
