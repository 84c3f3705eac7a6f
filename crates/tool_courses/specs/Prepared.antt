-- What is prepared, and the outputs that it leads to.
use Rattle.std.specs.Prelude.{◌≡◌, ℕ, ◌≤◌, List, ◌++◌, length, Result, Ok, Err}
use Rattle.pop_leaf.specs.NetModel.{number_of_helpers}
use Rattle.pop_leaf.specs.InputCrowd.{IsInput, input_crowd}
use Rattle.pop_net.specs.Lanes.{crowd_of, AreValid}
use Rattle.pop_net.specs.declared.net.Word.{Word}
use Rattle.pop_crowd.specs.declared.crowd.Meeting.{Meeting}
use Rattle.run_picks.specs.WatchedRun.{IsRunOfUntil}
use Rattle.run_picks.specs.declared.alone.End.{End}
use Rattle.run_picks.specs.declared.alone.RunEnd.{RunEnd}
use Rattle.run_text.specs.Journal.{run_lines, text_of}
use Rattle.run_spec.specs.declared.kind.RunKind.{RunKind}
use Rattle.run_spec.specs.declared.kind.RunKind.TheVariants.{Whole}
use Rattle.run_spec.specs.declared.spec.RunSpec.{RunSpec}
use Rattle.run_spec.specs.Kinds.{most_workers_of}
use Rattle.run_spec.specs.RunLimits.{IsWithinLimits}
use Rattle.tool_texts.specs.declared.refusal.Refusal.{Refusal}
use Rattle.tool_texts.specs.declared.output.Output.{Output}
use Rattle.tool_texts.specs.Steps.{MayStop, Stop}
use Rattle.tool_courses.specs.declared.prepared.Setting.{Setting}
use Rattle.tool_courses.specs.declared.prepared.PendingRun.{PendingRun}
use Rattle.tool_courses.specs.declared.prepared.Prepared.{Prepared}
use Rattle.tool_courses.specs.declared.prepared.Prepared.TheVariants.{Text, Alone, Threads, Demo}
use Rattle.tool_bundles.specs.Start.{IsStart}
use Rattle.tool_bundles.specs.LastPair.{IsLast}
use Rattle.tool_courses.specs.Course.{Course}
use Rattle.tool_courses.specs.Proved.{proved_net, proved_course, IsProved}
use Rattle.tool_courses.specs.RunOutput.{open_pair, IsRunOutput}
use Rattle.tool_courses.specs.DemoOutput.{CanDemo, IsDemoOutput}

-- a run that can be made
pub record CanRun (run : PendingRun) : Type 0 where
  pub limits : IsWithinLimits run.setting.spec
  pub workers : run.setting.spec.workers ≤ most_workers_of run.setting.kind
  pub proved : IsProved run.setting.proved
  pub start : IsStart (proved_net run.setting.proved) (record { counts = run.setting.counts; crowd = run.crowd })

-- the course of the runs of a setting
abbrev pub course_at : Setting → Course
course_at setting = proved_course setting.proved setting.counts

-- a run of this kind on this course that was made
pub record IsRunOnCourse (kind : RunKind) (course : Course) (counts : List ℕ) (spec : RunSpec) (ran : RunEnd)
    : Type 0 where
  pub input : IsInput (length course.net.variables) (number_of_helpers course.net) counts
  pub run : IsRunOfUntil kind course.rest course.net (input_crowd course.net counts) spec ran.rounds
      (crowd_of course.net ran.crowd)
  pub last : IsLast course.rest (crowd_of course.net ran.crowd) (open_pair ran.end)
  pub valid : AreValid course.net ran.crowd

-- a run of this setting was made to this end, and its lines up to `end` follow these
pub record IsWrittenTo (setting : Setting) (lines written : List ℕ) (crowd : List Word) (end : End) : Type 0 where
  pub rounds : List (List Meeting)
  pub run : IsRunOnCourse setting.kind (course_at setting) setting.counts setting.spec
      (record { rounds = rounds; crowd = crowd; end = end })
  pub text : written ≡ lines ++ text_of (run_lines setting.kind setting.spec rounds)

-- what is given for a run of this setting after these lines
abbrev pub IsOutputOfSetting : Setting → List ℕ → Output → Type 0
IsOutputOfSetting s lines output = IsRunOutput s.kind s.spec lines (course_at s) s.counts output

abbrev pub IsOutputOfRun : PendingRun → Output → Type 0
IsOutputOfRun run output = IsOutputOfSetting run.setting run.lines output

abbrev pub CanBeMade : Prepared → Type 0
CanBeMade (Text output) = Unit {0}
CanBeMade (Alone run) = CanRun run × (run.setting.spec.workers ≡ 1) × (run.setting.kind ≡ Whole)
CanBeMade (Threads run) = CanRun run
CanBeMade (Demo demo) = CanDemo demo

-- an output of what is prepared: the text itself, or that of the run
abbrev pub IsOutputOf : Prepared → Output → Type 0
IsOutputOf (Text whole) output = output ≡ whole
IsOutputOf (Alone run) output = IsOutputOfRun run output
IsOutputOf (Threads run) output = IsOutputOfRun run output
IsOutputOf (Demo demo) output = IsDemoOutput demo.case.number output

abbrev pub NeedsNoThreads : Prepared → Type 0
NeedsNoThreads (Text output) = Unit {0}
NeedsNoThreads (Alone run) = Unit {0}
NeedsNoThreads (Threads run) = ⊥
NeedsNoThreads (Demo demo) = Unit {0}

-- it can be made, and the rule allows each of its outputs
pub record LeadsTo (rule : Output → Type 0) (prepared : Prepared) : Type 0 where
  pub can : CanBeMade prepared
  pub allowed : (output : Output) → IsOutputOf prepared output → rule output

-- the rule allows a refusal and each output of what is prepared, unless out of memory
abbrev pub Prepares : (Result Output Refusal → Type 0) → Result Prepared Stop → Type 0
Prepares rule (Ok prepared) = LeadsTo (λ output. rule (Ok output)) prepared
Prepares rule (Err stop) = MayStop rule stop

-- this run is what is prepared: alone exactly if it is a whole run by one worker
abbrev pub IsPending : PendingRun → Prepared → Type 0
IsPending run (Text output) = ⊥
IsPending run (Alone other) = (other ≡ run) × (run.setting.spec.workers ≡ 1) × (run.setting.kind ≡ Whole)
IsPending run (Threads other) = (other ≡ run) × (run.setting.kind ≡ Whole → run.setting.spec.workers ≡ 1 → ⊥)
IsPending run (Demo demo) = ⊥
