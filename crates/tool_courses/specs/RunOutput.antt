-- What is written of a run on a course: the input lines and its journal. How the command ends.
use Rattle.std.specs.Prelude.{◌≡◌, ℕ, List, length, ◌++◌, Option, Some, None}
use Rattle.pop_leaf.specs.NetModel.{CrowdModel, number_of_helpers}
use Rattle.pop_leaf.specs.InputCrowd.{IsInput, input_crowd}
use Rattle.pop_crowd.specs.declared.crowd.Meeting.{Meeting}
use Rattle.run_spec.specs.declared.kind.RunKind.{RunKind}
use Rattle.run_spec.specs.declared.spec.RunSpec.{RunSpec}
use Rattle.run_picks.specs.WatchedRun.{IsRunOfUntil}
use Rattle.run_picks.specs.declared.alone.End.{End}
use Rattle.run_picks.specs.declared.alone.End.TheVariants.{Terminal, Open}
use Rattle.run_text.specs.Journal.{journal_text}
use Rattle.run_text.specs.declared.last.Last.{Last}
use Rattle.run_text.specs.declared.last.Last.TheVariants as last
use Rattle.tool_texts.specs.declared.output.Ending.{Ending}
use Rattle.tool_texts.specs.declared.output.Ending.TheVariants.{Done, Undecided}
use Rattle.tool_texts.specs.declared.output.Output.{Output}
use Rattle.tool_bundles.specs.LastPair.{IsLast}
use Rattle.tool_courses.specs.Course.{Course}

-- the journal's last line: the one that is told of such an end if no pair is left, else the least pair that changes a
-- tuple
abbrev pub journal_end : Last → Option (ℕ × ℕ) → Last
journal_end told None = told
journal_end told (Some (a, b)) = last.Undecided a b

abbrev pub run_ending : Option (ℕ × ℕ) → Ending
run_ending None = Done
run_ending (Some pair) = Undecided

-- the pair that the end of a run names
abbrev pub open_pair : End → Option (ℕ × ℕ)
open_pair Terminal = None
open_pair (Open a b) = Some (a, b)

-- the input lines, and the journal of a run of this kind on this course from the input crowd
pub record IsRunOutput (kind : RunKind) (spec : RunSpec) (lines : List ℕ) (course : Course) (counts : List ℕ)
    (output : Output) : Type 0 where
  pub input : IsInput (length course.net.variables) (number_of_helpers course.net) counts
  pub rounds : List (List Meeting)
  pub end : CrowdModel
  pub run : IsRunOfUntil kind course.rest course.net (input_crowd course.net counts) spec rounds end
  pub pair : Option (ℕ × ℕ)
  pub last : IsLast course.rest end pair
  pub text : output.text ≡ lines ++ journal_text kind course.net spec rounds end (journal_end course.told pair)
  pub ending : output.ending ≡ run_ending pair
