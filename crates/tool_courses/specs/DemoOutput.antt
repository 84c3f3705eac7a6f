-- What is written of a run of a demo case: its summary. Which runs of a case can be made.
use Rattle.std.specs.Prelude.{◌≡◌, ℕ, ◌+◌, ◌≤◌, List, [], ◌∷◌, ◌++◌}
use Rattle.std.specs.Prelude.{codes, decimal, length, count_by, Option}
use Rattle.pres_ast.specs.PredicateValue.{predicate_value}
use Rattle.pres_read.specs.Canonical.{tree_text}
use Rattle.pop_leaf.specs.NetModel.{NetModel, CrowdModel}
use Rattle.pop_leaf.specs.InputCrowd.{input_crowd}
use Rattle.pop_crowd.specs.declared.crowd.Meeting.{Meeting}
use Rattle.pop_words.specs.declared.command.TheConstants.{DEMO_LIMIT}
use Rattle.run_picks.specs.Run.{IsRun}
use Rattle.run_text.specs.Journal.{last_line, text_of}
use Rattle.run_text.specs.declared.last.Last.{Last}
use Rattle.run_text.specs.declared.last.Last.TheVariants.{Verdict}
use Rattle.pop_demo.specs.DemoCase.{names_of_demo, demo_tree, demo_pred, demo_counts, demo_spec}
use Rattle.comp_net.specs.BuiltNet.{built_net}
use Rattle.tool_texts.specs.declared.output.Output.{Output}
use Rattle.tool_bundles.specs.LastPair.{IsLast}
use Rattle.tool_bundles.specs.Start.{IsStart}
use Rattle.tool_courses.specs.declared.prepared.Case.{Case}
use Rattle.tool_courses.specs.declared.prepared.PendingDemo.{PendingDemo}
use Rattle.tool_courses.specs.RunOutput.{journal_end, run_ending}

-- the net that `compile` builds of the case's predicate, and its input crowd
abbrev pub demo_net : ℕ → NetModel
demo_net number = built_net names_of_demo (demo_tree number)

abbrev pub demo_start : ℕ → CrowdModel
demo_start number = input_crowd (demo_net number) (demo_counts number)

-- how many meetings changed a tuple
abbrev pub changed : List (List Meeting) → ℕ
changed [] = 0
changed (meetings ∷ rounds) = count_by (λ m. m.changed) meetings + changed rounds

abbrev pub summary_lines : ℕ → List (List Meeting) → Last → List (List ℕ)
summary_lines number rounds last =
    (codes "demo " ++ decimal number)
    ∷ (codes "pred " ++ tree_text names_of_demo (demo_tree number))
    ∷ (codes "agents " ++ decimal (length (demo_start number)))
    ∷ (codes "rounds " ++ decimal (length rounds))
    ∷ (codes "changed " ++ decimal (changed rounds))
    ∷ last_line last
    ∷ []

-- the summary of a run of the case
pub record IsDemoOutput (number : ℕ) (output : Output) : Type 0 where
  pub rounds : List (List Meeting)
  pub end : CrowdModel
  pub run : IsRun (demo_net number) (demo_start number) (demo_spec number) rounds end
  pub pair : Option (ℕ × ℕ)
  pub last : IsLast (demo_net number) end pair
  pub text : output.text ≡ text_of
      (summary_lines number rounds
      (journal_end (Verdict (predicate_value (demo_tree number) (demo_counts number))) pair))
  pub ending : output.ending ≡ run_ending pair

-- the case of its number: its net, its predicate and its counts
pub record IsCase (case : Case) : Type 0 where
  pub few : case.number ≤ DEMO_LIMIT
  pub net : case.checked.net ≡ demo_net case.number
  pub pred : case.checked.pred ≡ demo_pred case.number
  pub counts : case.counts ≡ demo_counts case.number

-- a run of the case that can be made
pub record CanDemo (demo : PendingDemo) : Type 0 where
  pub case : IsCase demo.case
  pub start : IsStart demo.case.checked.net (record { counts = demo.case.counts; crowd = demo.crowd })
