-- What `eval` makes of the lines of its input: a vars line, a predicate and a crowd line.
use Rattle.std.specs.Prelude.{ℕ, Bool, true, false, List, codes, Result, Ok}
use Rattle.pres_ast.specs.PredicateValue.{predicate_value}
use Rattle.pres_read.specs.Reading.{pred_read}
use Rattle.pop_words.specs.Vars.{vars_of}
use Rattle.pop_words.specs.Counts.{counts_of}
use Rattle.tool_texts.specs.declared.refusal.Refusal.{Refusal}
use Rattle.tool_texts.specs.Steps.{◌>>=◌}
use Rattle.tool_texts.specs.Lines.{just_three}
use Rattle.tool_texts.specs.declared.output.Output.{Output}
use Rattle.tool_texts.specs.declared.output.Ending.TheVariants.{Done}
use Rattle.tool_bundles.specs.Named.{named, understood, counted}

abbrev pub truth_line : Bool → List ℕ
truth_line true = codes "true\n"
truth_line false = codes "false\n"

-- the truth of a predicate line at a crowd line
unfoldable pub truth_in : List (List ℕ) → List ℕ → List ℕ → Result Bool Refusal
truth_in names line crowd = do
  pred ← understood (pred_read names line)
  counts ← counted (counts_of names crowd)
  Ok (predicate_value pred.tree counts)

-- what `eval` gives for the lines of its input
unfoldable pub eval_output : List (List ℕ) → Result Output Refusal
eval_output lines = do
  three ← just_three lines
  names ← named (vars_of three.0)
  truth ← truth_in names three.1 three.2
  Ok (record { text = truth_line truth; ending = Done })
