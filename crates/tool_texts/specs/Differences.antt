-- What is written for a journal that isn't that of a run.
use Rattle.std.specs.Prelude.{ℕ, List, ◌++◌, codes, decimal}
use Rattle.run_text.specs.Difference.{Difference}
use Rattle.tool_texts.specs.declared.output.Ending.TheVariants.{Differs}
use Rattle.tool_texts.specs.declared.output.Output.{Output}

-- three lines: the number of the first line that isn't the expected one, what was kept there, and what is expected
abbrev pub difference_text : Difference → List ℕ
difference_text difference =
    codes "differs " ++ decimal difference.line ++ codes "\nkept: " ++ difference.kept
    ++ codes "\nfound: " ++ difference.found ++ codes "\n"

abbrev pub difference_output : Difference → Output
difference_output difference = record { text = difference_text difference; ending = Differs }
