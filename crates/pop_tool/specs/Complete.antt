-- Valid input is answered if nothing but memory can fail.
use Rattle.std.specs.Prelude.{◌≢◌, ℕ, List}
use Rattle.tool_texts.specs.declared.output.Output.{Output}
use Rattle.tool_texts.specs.declared.output.Ending.TheVariants as ending
use Rattle.tool_texts.specs.declared.status.Status.{Status}
use Rattle.tool_texts.specs.declared.status.Status.TheVariants.{Done, Usage, Refused, Rejected, Undecided}
use Rattle.tool_texts.specs.declared.status.Status.TheVariants.{Differs, ReadFault, WriteFault, NoMemory}
use Rattle.pop_tool.specs.Answer.{Answer}

-- no answer says that the words mean no command, or that the input is refused
abbrev pub IsValidInput : List (List ℕ) → List ℕ → Type 0
IsValidInput words input =
    (output : Output) → Answer words input output → (output.ending ≢ ending.Usage) × (output.ending ≢ ending.Refused)

-- the command was carried out, or memory ran out
abbrev pub IsCarriedOut : Status → Type 0
IsCarriedOut Done = Unit {0}
IsCarriedOut Usage = ⊥
IsCarriedOut Refused = ⊥
IsCarriedOut Rejected = Unit {0}
IsCarriedOut Undecided = Unit {0}
IsCarriedOut Differs = Unit {0}
IsCarriedOut ReadFault = ⊥
IsCarriedOut WriteFault = ⊥
IsCarriedOut NoMemory = Unit {0}
