-- Words that need no threads.
use Rattle.std.specs.Prelude.{ℕ, List, IfOk}
use Rattle.pop_words.specs.Words.{meaning_of}
use Rattle.pop_tool.specs.Commands.{IsPlain}

-- the words mean no command, or one that needs no threads
abbrev pub ArePlain : List (List ℕ) → Type 0
ArePlain words = IfOk (meaning_of words) IsPlain
