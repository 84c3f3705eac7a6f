-- What `replay` makes of the lines of its input: a bundle, of which leaves may have goals, a crowd line, and a journal
-- of a run of one kind.
use Rattle.std.specs.Prelude.{◌≡◌, ℕ, ◌+◌, List, ◌++◌, length, codes, decimal, Option, Some, None, Result, Ok, Err}
use Rattle.base_lines.specs.Lines.{ended}
use Rattle.pop_leaf.specs.NetModel.{CrowdModel}
use Rattle.pop_leaf.specs.InputCrowd.{input_crowd}
use Rattle.run_spec.specs.declared.kind.RunKind.{RunKind}
use Rattle.run_spec.specs.declared.spec.RunSpec.{RunSpec}
use Rattle.run_picks.specs.Run.{joined}
use Rattle.run_text.specs.declared.fault.JournalFault.{JournalFault}
use Rattle.run_text.specs.declared.fault.JournalFault.TheVariants as fault
use Rattle.pop_journal.specs.declared.journal.Journal.{Journal}
use Rattle.pop_journal.specs.Form.{Parts, Out, journal_in}
use Rattle.run_text.specs.Difference.{Difference}
use Rattle.pop_journal.specs.Expected.{first_difference, journal_compared_until}
use Rattle.pop_checker.specs.declared.stable_fault.StableRejected.{StableRejected}
use Rattle.tool_texts.specs.declared.refusal.Refusal.{Refusal}
use Rattle.tool_texts.specs.declared.refusal.Refusal.TheVariants as refusal
use Rattle.tool_texts.specs.declared.output.Output.{Output}
use Rattle.tool_texts.specs.declared.output.Ending.TheVariants.{Done}
use Rattle.tool_texts.specs.Steps.{◌>>=◌, After}
use Rattle.tool_texts.specs.Lines.{two_and_some}
use Rattle.tool_texts.specs.Differences.{difference_output}
use Rattle.tool_rejections.specs.Rejections.{rejection_output}
use Rattle.tool_replays.specs.declared.replay.TheConstants.{JOURNAL_LINE}
use Rattle.cert_json.specs.declared.stable.StableBundle.{StableBundle}
use Rattle.tool_bundles.specs.Bundles.{IsBegunBy}
use Rattle.tool_rejections.specs.Judged.{IsJudged}
use Rattle.tool_courses.specs.Course.{Course, course_of}

-- the line of a journal that holds, with its number of meetings
abbrev pub holds_text : ℕ → List ℕ
holds_text meetings = codes "holds " ++ decimal meetings

abbrev pub holds_output : ℕ → Output
holds_output meetings = record { text = ended (holds_text meetings); ending = Done }

-- how a text with this fault is refused
abbrev pub journal_refusal : JournalFault → Refusal
journal_refusal (fault.Out line why) = refusal.Journal line why

-- the journal of a run of this kind that lines give, the first of which has the number JOURNAL_LINE
abbrev pub journal_read : RunKind → Result (RunSpec × Parts) Out → Result Journal Refusal
journal_read kind (Ok (spec, parts)) =
    Ok (record { kind = kind; spec = spec; rounds = parts.0; tail = parts.1; first = JOURNAL_LINE })
journal_read kind (Err out) = Err (refusal.Journal out.0 out.1)

abbrev pub compared_output : ℕ → Option Difference → Output
compared_output meetings None = holds_output meetings
compared_output meetings (Some difference) = difference_output difference

-- `holds` with the number of meetings, or the first line that isn't the expected one
abbrev pub journal_output : Course → CrowdModel → Journal → Output
journal_output course start journal =
    compared_output (length (joined journal.rounds))
    (first_difference (journal.first + 1)
    (journal_compared_until course.rest course.outcome course.net start journal))

-- the same for the journal of these lines, if there is one
abbrev pub replay_output : RunKind → Course → CrowdModel → List (List ℕ) → Result Output Refusal
replay_output kind course start lines = journal_read kind
    (journal_in kind (length start) JOURNAL_LINE lines) >>= λ journal. Ok (journal_output course start journal)

-- a valid proof lets its net's journal be replayed from the input crowd
abbrev pub judged_output : RunKind → StableBundle → List ℕ → List (List ℕ) → Option StableRejected
    → Result Output Refusal
judged_output kind bundle counts lines None =
    replay_output kind (course_of bundle counts) (input_crowd (course_of bundle counts).net counts) lines
judged_output kind bundle counts lines (Some rejected) = Ok (rejection_output rejected)

abbrev pub OfBegun : RunKind → List (List ℕ) → StableBundle × List ℕ → Result Output Refusal → Type 0
OfBegun kind lines begin given =
    (judged : Option StableRejected) × IsJudged begin.0 judged
    × (given ≡ judged_output kind begin.0 begin.1 lines judged)

abbrev pub OfLines : RunKind → List ℕ × List ℕ × List (List ℕ) → Result Output Refusal → Type 0
OfLines kind lines given = (begin : Result (StableBundle × List ℕ) Refusal) × IsBegunBy lines.0 lines.1 begin
    × After begin (OfBegun kind lines.2) given

-- what `replay` gives for the lines of its input, for a journal of a run of this kind
abbrev pub ReplayGives : RunKind → List (List ℕ) → Result Output Refusal → Type 0
ReplayGives kind lines given = After (two_and_some lines) (OfLines kind) given
