-- Answer: which output answers the words and the input.
use Rattle.std.specs.Prelude.{◌≡◌, ℕ, ◌&&◌, nat_lt, List, length, MatchBool, Result, Ok, Err}
use Rattle.pop_io.specs.declared.whole.TheConstants.{INPUT_LIMIT}
use Rattle.base_lines.specs.Lines.{lines_of}
use Rattle.pop_words.specs.declared.command.Command.{Command}
use Rattle.pop_words.specs.declared.command.Usage.{Usage}
use Rattle.pop_words.specs.Words.{meaning_of}
use Rattle.tool_texts.specs.declared.refusal.Refusal.{Refusal}
use Rattle.tool_texts.specs.declared.refusal.Refusal.TheVariants.{TooLong}
use Rattle.tool_texts.specs.declared.output.Output.{Output}
use Rattle.tool_texts.specs.Refusals.{usage_output, output_for}
use Rattle.pop_tool.specs.Commands.{CommandGives, reads}

-- what a command gives for an input, which has a limit if it is read
abbrev pub InputGives : Command → List ℕ → Result Output Refusal → Type 0
InputGives command input given =
    MatchBool (reads command && nat_lt INPUT_LIMIT (length input)) (given ≡ Err TooLong)
    (CommandGives command (lines_of input) given)

-- the output is for what the command gives for these lines
abbrev pub IsOfCommand : Command → List (List ℕ) → Output → Type 0
IsOfCommand command lines output =
    (given : Result Output Refusal) × CommandGives command lines given × (output ≡ output_for given)

abbrev pub OfMeaning : Result Command Usage → List ℕ → Output → Type 0
OfMeaning (Err usage) input output = output ≡ usage_output usage
OfMeaning (Ok command) input output =
    (given : Result Output Refusal) × InputGives command input given × (output ≡ output_for given)

abbrev pub Answer : List (List ℕ) → List ℕ → Output → Type 0
Answer words input output = OfMeaning (meaning_of words) input output
