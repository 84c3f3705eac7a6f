-- The words and the input have one answer if the command leaves no choice.
use Rattle.std.specs.Prelude.{◌≡◌, ℕ, List, IfOk}
use Rattle.pop_words.specs.Words.{meaning_of}
use Rattle.tool_texts.specs.declared.output.Output.{Output}
use Rattle.pop_tool.specs.Commands.{IsDetermined}
use Rattle.pop_tool.specs.Answer.{Answer}

-- the words mean no command, or one that leaves no choice
abbrev pub AreDetermined : List (List ℕ) → Type 0
AreDetermined words = IfOk (meaning_of words) IsDetermined

abbrev pub IsOneAnswer : Type 0
IsOneAnswer =
    (words : List (List ℕ)) → AreDetermined words → (input : List ℕ) (one other : Output)
    → Answer words input one → Answer words input other → one ≡ other
