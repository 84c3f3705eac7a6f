-- The words and the input have one answer.
use Rattle.std.proofs.Common.{◌≡◌, ℕ, ◌&&◌, Bool, true, false, nat_lt, List, length, Result, Ok, Err, sym, ap, ◌∙◌}
use Rattle.std.specs.Prelude.{MatchBool, IfOk}
use Rattle.pop_io.specs.declared.whole.TheConstants.{INPUT_LIMIT}
use Rattle.base_lines.specs.Lines.{lines_of}
use Rattle.pop_words.specs.declared.command.Command.{Command}
use Rattle.pop_words.specs.declared.command.Usage.{Usage}
use Rattle.pop_words.specs.Words.{meaning_of}
use Rattle.tool_texts.specs.declared.refusal.Refusal.{Refusal}
use Rattle.tool_texts.specs.declared.refusal.Refusal.TheVariants.{TooLong}
use Rattle.tool_texts.specs.declared.output.Output.{Output}
use Rattle.tool_texts.specs.Refusals.{output_for}
use Rattle.pop_tool.specs.Commands.{CommandGives, IsDetermined, reads}
use Rattle.pop_tool.proofs.OneOutput.{one_given}
use Rattle.pop_tool.specs.Answer.{InputGives, OfMeaning}
use Rattle.pop_tool.specs.OneAnswer.{IsOneAnswer}

by_length : (P Q : Result Output Refusal → Type 0) (b : Bool) → ((x y : Result Output Refusal) → P x → P y → x ≡ y) → ((x y : Result Output Refusal) → Q x → Q y → x ≡ y) → (x y : Result Output Refusal) → MatchBool b (P x) (Q x) → MatchBool b (P y) (Q y) → x ≡ y
by_length P Q true one other x y p q = one x y p q
by_length P Q false one other x y p q = other x y p q

one_input : (command : Command) → IsDetermined command → (input : List ℕ) (x y : Result Output Refusal) → InputGives command input x → InputGives command input y → x ≡ y
one_input command plain input x y p q =
    by_length (λ r. r ≡ Err TooLong) (CommandGives command (lines_of input)) (reads command && nat_lt INPUT_LIMIT (length input)) (λ x y p q. p ∙ sym q) (one_given command plain (lines_of input)) x y p q

one_meaning : (m : Result Command Usage) → IfOk m IsDetermined → (input : List ℕ) (one other : Output) → OfMeaning m input one → OfMeaning m input other → one ≡ other
one_meaning (Err usage) plain input one other p q = p ∙ sym q
one_meaning (Ok command) plain input one other p q = p.2 ∙ ap output_for (one_input command plain input p.0 q.0 p.1 q.1) ∙ sym q.2

pub one_answer : IsOneAnswer
one_answer words plain input one other p q = one_meaning (meaning_of words) plain input one other p q
