-- What is prepared leads to outputs that may be written.
use Rattle.std.proofs.Common.{◌≡◌, inl, inr, ℕ, ◌≤◌, ◌<◌, List, [], length, Option, Some, None, Result, Ok, Err, refl, sym, ap, subst, ◌∙◌, arith}
use Rattle.std.specs.Prelude.{◌≢◌, ◌&&◌, Bool, true, false, nat_lt, MatchBool, IfSome}
use Rattle.std.specs.Io.KnownBytes.{IsAtEnd}
use Rattle.std.proofs.lemmas.Bool.{le-ltb, lt-ltb}
use Rattle.pop_io.specs.Causes.{HasRisen}
use Rattle.pop_io.specs.declared.whole.TheConstants.{INPUT_LIMIT}
use Rattle.base_lines.specs.Lines.{lines_of}
use Rattle.pop_words.specs.declared.command.Command.{Command}
use Rattle.pop_words.specs.declared.command.Command.TheVariants.{Play, Eval, Check, Run, Watch, Replay, ReplayWatched, Settle, Compile, Flocks, Demo}
use Rattle.pop_words.specs.declared.command.Command.TheVariants.{Show, Succinct}
use Rattle.pop_words.specs.declared.command.Usage.{Usage}
use Rattle.pop_words.specs.Words.{meaning_of}
use Rattle.tool_texts.specs.declared.refusal.Refusal.{Refusal}
use Rattle.tool_texts.specs.declared.refusal.Refusal.TheVariants.{TooLong}
use Rattle.tool_texts.specs.declared.output.Output.{Output}
use Rattle.tool_texts.specs.declared.output.Ending.TheVariants.{ReadFault}
use Rattle.tool_texts.specs.Refusals.{usage_output, refusal_output, output_for, read_fault}
use Rattle.pop_tool.specs.Commands.{CommandGives, reads}
use Rattle.pop_tool.proofs.Endings.{given_ending}
use Rattle.pop_tool.specs.Answer.{InputGives, IsOfCommand, OfMeaning, Answer}
use Rattle.pop_tool.specs.Source.{IsReadToEnd, meaning_reads}
use Rattle.pop_tool.specs.Outcome.{HasLeft}
use Rattle.pop_tool.specs.Written.{IsRightOutput}

some_input : (left : Option (List ℕ)) → (input : List ℕ) × HasLeft left input
some_input None = ([], tt)
some_input (Some left) = (left, refl)

usage_ending : (usage : Usage) (output : Output) → output ≡ usage_output usage → output.ending ≢ ReadFault
usage_ending usage output is e = absurd (cc (ap (λ (o : Output). o.ending) is, e))

-- words without a command
pub usage_right : (words : List (List ℕ)) (left rest : Option (List ℕ)) (before after : ℕ) (usage : Usage) (output : Output)
    → meaning_of words ≡ Err usage → output ≡ usage_output usage → IsRightOutput words left rest before after output
usage_right words left rest before after usage output means is =
    let some = some_input left in
    let answer : Answer words some.0 output = subst (λ (m : Result Command Usage). OfMeaning m some.0 output) (sym means) is in
    inl (record { answer = (some.0, some.1, answer); other = usage_ending usage output is; end = λ has. absurd (cc (sym (ap meaning_reads means) ∙ has)) })

never_short : (left : Option (List ℕ)) (input : List ℕ) → left ≡ Some input → IfSome left (λ l. INPUT_LIMIT < length l) → length input ≤ INPUT_LIMIT → ⊥
never_short left input is long short =
    let more : INPUT_LIMIT < length input = subst (λ (l : Option (List ℕ)). IfSome l (λ i. INPUT_LIMIT < length i)) is long in
    absurd (omega (arith, more, short))

-- what a command gives that reads nothing doesn't depend on the lines
unread_given : (command : Command) → reads command ≡ false → (lines others : List (List ℕ)) (given : Result Output Refusal) → CommandGives command lines given → CommandGives command others given
unread_given Play unread lines others given is = absurd cc
unread_given Eval unread lines others given is = absurd cc
unread_given Check unread lines others given is = absurd cc
unread_given Show unread lines others given is = absurd cc
unread_given (Run spec) unread lines others given is = absurd cc
unread_given (Watch spec) unread lines others given is = absurd cc
unread_given Replay unread lines others given is = absurd cc
unread_given ReplayWatched unread lines others given is = absurd cc
unread_given Settle unread lines others given is = absurd cc
unread_given Compile unread lines others given is = absurd cc
unread_given Flocks unread lines others given is = absurd cc
unread_given Succinct unread lines others given is = absurd cc
unread_given (Demo number) unread lines others given is = is

read_given : (command : Command) (input : List ℕ) (given : Result Output Refusal) → length input ≤ INPUT_LIMIT → CommandGives command (lines_of input) given → (b : Bool)
    → MatchBool (b && nat_lt INPUT_LIMIT (length input)) (given ≡ Err TooLong) (CommandGives command (lines_of input) given)
read_given command input given short is true = rw (le-ltb INPUT_LIMIT (length input) short) is
read_given command input given short is false = is

module _ (words : List (List ℕ)) (left rest : Option (List ℕ)) (before after : ℕ) (command : Command) (means : meaning_of words ≡ Ok command) where
  module _ (input : List ℕ) (has : HasLeft left input) where
    given_right : (given : Result Output Refusal) (output : Output) → InputGives command input given → output ≡ output_for given → (output_for given).ending ≢ ReadFault → IsReadToEnd words left rest → IsRightOutput words left rest before after output
    given_right given output allowed is other end =
        let answer : Answer words input output = subst (λ (m : Result Command Usage). OfMeaning m input output) (sym means) (given, allowed, is) in
        inl (record { answer = (input, has, answer); other = λ e. other (sym (ap (λ (o : Output). o.ending) is) ∙ e); end = end })

    -- what a command comes to, for an input that isn't too long
    pub command_right : length input ≤ INPUT_LIMIT → IsAtEnd rest → (output : Output) → IsOfCommand command (lines_of input) output → IsRightOutput words left rest before after output
    command_right short end output of =
        given_right of.0 output (read_given command input of.0 short of.1 (reads command)) of.2 (given_ending command (lines_of input) of.0 of.1) (λ has input is short. end)

    pub long_right : reads command ≡ true → INPUT_LIMIT < length input → IfSome left (λ l. INPUT_LIMIT < length l) → (output : Output) → output ≡ refusal_output TooLong → IsRightOutput words left rest before after output
    long_right does long known output is = given_right (Err TooLong) output (rw (does, lt-ltb INPUT_LIMIT (length input) long) refl) is (λ e. absurd cc) (λ has i same short. absurd (never_short left i same known short))

  pub fault_right : reads command ≡ true → HasRisen before after → (output : Output) → output ≡ read_fault → IsRightOutput words left rest before after output
  fault_right does rose output is = inr (record { is = is; rose = rose; read = ap meaning_reads means ∙ does })

  -- what a command that reads nothing comes to
  pub unread_right : reads command ≡ false → (lines : List (List ℕ)) (output : Output) → IsOfCommand command lines output → IsRightOutput words left rest before after output
  unread_right unread lines output of =
      let some = some_input left in
      given_right some.0 some.1 of.0 output (rw unread (unread_given command unread lines (lines_of some.0) of.0 of.1)) of.2 (given_ending command lines of.0 of.1) (λ has. absurd (cc (sym (ap meaning_reads means ∙ unread) ∙ has)))

-- some input that is too long
pub long_input : (left : Option (List ℕ)) (taken : List ℕ) → INPUT_LIMIT < length taken → IfSome left (λ input. INPUT_LIMIT < length input) → (input : List ℕ) × HasLeft left input × (INPUT_LIMIT < length input)
long_input None taken long is = (taken, tt, long)
long_input (Some left) taken long is = (left, refl, is)

-- what was read is what was left, if that is known
pub whole_input : (left : Option (List ℕ)) (input : List ℕ) → IfSome left (λ l. input ≡ l) → HasLeft left input
whole_input None input is = tt
whole_input (Some left) input is = sym is

-- what the command of the words gives
pub given_for : (words : List (List ℕ)) (command : Command) (input : List ℕ) (output : Output) → meaning_of words ≡ Ok command → Answer words input output
    → (given : Result Output Refusal) × InputGives command input given × (output ≡ output_for given)
given_for words command input output is answer = subst (λ (m : Result Command Usage). OfMeaning m input output) is answer
