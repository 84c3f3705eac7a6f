-- What is written when the words or the input are refused, or the source fails. A text has no line feed yet.
use Rattle.std.specs.Prelude.{ℕ, List, ◌++◌, codes, decimal, Result, Ok, Err}
use Rattle.base_lines.specs.Lines.{ended}
use Rattle.base_json.specs.Reasons.{pred_reason, reason}
use Rattle.pop_words.specs.declared.command.Usage.{Usage}
use Rattle.pop_words.specs.Reasons.{bad_word}
use Rattle.run_text.specs.Reasons.{journal_reason}
use Rattle.tool_texts.specs.declared.refusal.LineWhy.{LineWhy}
use Rattle.tool_texts.specs.declared.refusal.LineWhy.TheVariants as line
use Rattle.tool_texts.specs.declared.refusal.Refusal.{Refusal}
use Rattle.tool_texts.specs.declared.refusal.Refusal.TheVariants.{TooLong, Line, NotJson, Format, Pred, Count, Size}
use Rattle.tool_texts.specs.declared.refusal.Refusal.TheVariants.{Journal, Atoms, Range, Width, States, Wide}
use Rattle.tool_texts.specs.declared.refusal.Refusal.TheVariants.{Settle}
use Rattle.tool_texts.specs.declared.output.Output.{Output}
use Rattle.tool_texts.specs.declared.output.Ending.TheVariants as ending

abbrev pub usage_text : Usage → List ℕ
usage_text usage = codes "fault: usage " ++ bad_word usage

abbrev pub line_reason : LineWhy → List ℕ
line_reason line.Missing = codes "missing"
line_reason line.Extra = codes "extra"
line_reason line.Form = codes "form"
line_reason line.Agents = codes "agents"

abbrev pub refusal_text : Refusal → List ℕ
refusal_text TooLong = codes "fault: too long"
refusal_text (Line number why) = codes "fault: line " ++ decimal number ++ codes " " ++ line_reason why
refusal_text NotJson = codes "fault: not json"
refusal_text (Format path why) = codes "fault: format " ++ path ++ codes " " ++ reason why
refusal_text (Pred why) = codes "fault: pred " ++ pred_reason why
refusal_text (Count word) = codes "fault: count " ++ decimal word
refusal_text (Size agents) = codes "fault: size " ++ decimal agents
refusal_text (Journal number why) = codes "fault: journal " ++ decimal number ++ codes " " ++ journal_reason why
refusal_text (Atoms count) = codes "fault: atoms " ++ decimal count
refusal_text (Range atom) = codes "fault: range " ++ decimal atom
refusal_text (Width atom width) = codes "fault: width " ++ decimal atom ++ codes " " ++ decimal width
refusal_text (States atom states) = codes "fault: states " ++ decimal atom ++ codes " " ++ decimal states
refusal_text (Wide atom) = codes "fault: wide " ++ decimal atom
refusal_text (Settle takes) = codes "fault: settle " ++ decimal takes

-- for words without a command
abbrev pub usage_output : Usage → Output
usage_output usage = record { text = ended (usage_text usage); ending = ending.Usage }

-- for an input that is refused
abbrev pub refusal_output : Refusal → Output
refusal_output refusal = record { text = ended (refusal_text refusal); ending = ending.Refused }

-- for what a command gives
abbrev pub output_for : Result Output Refusal → Output
output_for (Ok output) = output
output_for (Err refusal) = refusal_output refusal

-- for a source that failed
abbrev pub read_fault : Output
read_fault = record { text = codes "fault: read\n"; ending = ending.ReadFault }
