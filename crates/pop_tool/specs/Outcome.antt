-- Outcome: what a call did to its sink, by its status.
use Rattle.std.specs.Prelude.{◌≡◌, ◌⊎◌, ℕ, List, Option, Some, None, ⊤}
use Rattle.std.specs.Io.KnownBytes.{Appends, Keeps}
use Rattle.pop_io.specs.Causes.{AppendsPrefix}
use Rattle.tool_texts.specs.declared.output.Output.{Output}
use Rattle.tool_texts.specs.declared.output.Ending.{Ending}
use Rattle.tool_texts.specs.declared.output.Ending.TheVariants as ending
use Rattle.tool_texts.specs.declared.status.Status.{Status}
use Rattle.tool_texts.specs.declared.status.Status.TheVariants.{Done, Usage, Refused, Rejected, Undecided}
use Rattle.tool_texts.specs.declared.status.Status.TheVariants.{Differs, ReadFault, WriteFault, NoMemory}
use Rattle.tool_texts.specs.Refusals.{read_fault}
use Rattle.pop_tool.specs.Answer.{Answer}

-- this is what the source has left, if that is known
abbrev pub HasLeft : Option (List ℕ) → List ℕ → Type 0
HasLeft None input = ⊤
HasLeft (Some left) input = left ≡ input

-- the output answers the words and what the source had left
abbrev pub IsAnswer : List (List ℕ) → Option (List ℕ) → Output → Type 0
IsAnswer words left output = (input : List ℕ) × HasLeft left input × Answer words input output

-- what may be written: an answer, or the line of a fault of reading
abbrev pub IsReply : List (List ℕ) → Option (List ℕ) → Output → Type 0
IsReply words left output = IsAnswer words left output ⊎ (output ≡ read_fault)

-- what the sink holds grew by the text of an answer with this ending
pub record Wrote (words : List (List ℕ)) (left old new : Option (List ℕ)) (ending : Ending) : Type 0 where
  pub output : Output
  pub answer : IsAnswer words left output
  pub ends : output.ending ≡ ending
  pub grew : Appends old new output.text

-- what the sink holds grew by a prefix of a text that may be written
pub record WrotePrefix (words : List (List ℕ)) (left old new : Option (List ℕ)) : Type 0 where
  pub output : Output
  pub reply : IsReply words left output
  pub grew : AppendsPrefix old new output.text

-- by the status: the whole text, a prefix of a text, or nothing
abbrev pub Outcome : List (List ℕ) → Option (List ℕ) → Option (List ℕ) → Option (List ℕ) → Status → Type 0
Outcome words left old new Done = Wrote words left old new ending.Done
Outcome words left old new Usage = Wrote words left old new ending.Usage
Outcome words left old new Refused = Wrote words left old new ending.Refused
Outcome words left old new Rejected = Wrote words left old new ending.Rejected
Outcome words left old new Undecided = Wrote words left old new ending.Undecided
Outcome words left old new Differs = Wrote words left old new ending.Differs
Outcome words left old new ReadFault = Appends old new read_fault.text
Outcome words left old new WriteFault = WrotePrefix words left old new
Outcome words left old new NoMemory = Keeps old new

-- the whole answer was written
abbrev pub IsAnswered : Status → Type 0
IsAnswered Done = Unit {0}
IsAnswered Usage = Unit {0}
IsAnswered Refused = Unit {0}
IsAnswered Rejected = Unit {0}
IsAnswered Undecided = Unit {0}
IsAnswered Differs = Unit {0}
IsAnswered ReadFault = ⊥
IsAnswered WriteFault = ⊥
IsAnswered NoMemory = ⊥
