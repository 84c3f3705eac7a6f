-- The output that a call comes to, and what the sink made of it.
use Rattle.std.specs.Prelude.{◌≡◌, ◌≢◌, ◌⊎◌, ℕ, List, true, Option}
use Rattle.std.specs.Io.KnownBytes.{Appends}
use Rattle.pop_io.specs.Causes.{HasRisen, AppendsPrefix}
use Rattle.tool_texts.specs.declared.output.Output.{Output}
use Rattle.tool_texts.specs.declared.output.Ending.TheVariants.{ReadFault}
use Rattle.tool_texts.specs.declared.status.Status.{Status}
use Rattle.tool_texts.specs.declared.status.Status.TheVariants as status
use Rattle.tool_texts.specs.Refusals.{read_fault}
use Rattle.tool_texts.specs.Statuses.{status_of}
use Rattle.pop_tool.specs.Source.{IsReadToEnd, words_read}
use Rattle.pop_tool.specs.Outcome.{IsAnswer}

-- the output answers, and is no fault of reading; the input was read
pub record Answers (words : List (List ℕ)) (left rest : Option (List ℕ)) (output : Output) : Type 0 where
  pub answer : IsAnswer words left output
  pub other : output.ending ≢ ReadFault
  pub end : IsReadToEnd words left rest

-- the output is that of a fault of reading: there was one, and the words have a command that reads
pub record ReadFailed (words : List (List ℕ)) (before after : ℕ) (output : Output) : Type 0 where
  pub is : output ≡ read_fault
  pub rose : HasRisen before after
  pub read : words_read words ≡ true

-- what a call comes to before it writes
abbrev pub IsRightOutput : List (List ℕ) → Option (List ℕ) → Option (List ℕ) → ℕ → ℕ → Output → Type 0
IsRightOutput words left rest before after output =
    Answers words left rest output ⊎ ReadFailed words before after output

-- the sink took the whole text, or a prefix of it and then its count of faults rose
abbrev pub IsWritten : Output → Option (List ℕ) → Option (List ℕ) → ℕ → ℕ → Status → Type 0
IsWritten output old new before after result =
    ((result ≡ status_of output.ending) × Appends old new output.text)
    ⊎ ((result ≡ status.WriteFault) × AppendsPrefix old new output.text × HasRisen before after)
