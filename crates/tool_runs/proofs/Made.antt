-- A run that was made from the crowd in which its setting starts.
use Rattle.std.proofs.Common.{◌≡◌, ℕ, List, ◌++◌, length, Result, Ok, Err, sym, ap, subst, ◌∙◌}
use Rattle.std.specs.Prelude.{IfOk}
use Rattle.pop_net.specs.declared.net.Word.{Word}
use Rattle.pop_leaf.specs.NetModel.{CrowdModel}
use Rattle.pop_net.specs.Lanes.{crowd_of}
use Rattle.run_spec.specs.declared.kind.RunKind.{RunKind}
use Rattle.run_spec.specs.declared.kind.RunKind.TheVariants.{Whole, Watched}
use Rattle.run_spec.specs.declared.spec.RunSpec.{RunSpec}
use Rattle.run_picks.specs.Run.{IsRunUntil}
use Rattle.run_picks.specs.WatchedRun.{IsWatchedRunUntil}
use Rattle.run_picks.specs.Ends.{IsRunFromUntil}
use Rattle.run_picks.specs.declared.alone.End.{End}
use Rattle.run_picks.specs.declared.alone.RunEnd.{RunEnd}
use Rattle.run_text.specs.Journal.{run_lines, text_of}
use Rattle.pop_watch.specs.WrittenAlone.{IsWrittenRunUntil}
use Rattle.pop_watch.specs.WatchedEnds.{IsWatchedRunFromUntil}
use Rattle.pop_watch.specs.WrittenRuns.{IsRunOfKindUntil, IsWrittenRunOfUntil}
use Rattle.tool_texts.specs.declared.output.Output.{Output}
use Rattle.tool_courses.specs.declared.prepared.Setting.{Setting}
use Rattle.tool_bundles.specs.Start.{IsStart}
use Rattle.tool_courses.specs.Course.{Course}
use Rattle.tool_courses.specs.Prepared.{course_at, IsRunOnCourse, IsWrittenTo, IsOutputOfSetting}
use Rattle.tool_courses.proofs.Ends.{run_last}
use Rattle.tool_runs.proofs.Ends.{watched_last}

module _ (course : Course) (counts : List ℕ) (spec : RunSpec) (crowd : List Word) (start : IsStart course.net (record { counts = counts; crowd = crowd })) where
  whole_run : (ran : RunEnd) → IsRunFromUntil course.rest course.net crowd spec ran → IsRunOnCourse Whole course counts spec ran
  whole_run ran is =
      let end = crowd_of course.net ran.crowd in record {
        input = start.input;
        run = subst (λ (s : CrowdModel). IsRunUntil course.rest course.net s spec ran.rounds end) start.crowd is.run;
        last = run_last course.rest end spec (length ran.rounds) ran.end is.ends;
        valid = is.valid;
      }

  watched_run : (ran : RunEnd) → IsWatchedRunFromUntil course.rest course.net crowd spec ran → IsRunOnCourse Watched course counts spec ran
  watched_run ran is =
      let end = crowd_of course.net ran.crowd in record {
        input = start.input;
        run = subst (λ (s : CrowdModel). IsWatchedRunUntil course.rest course.net s spec ran.rounds end) start.crowd is.run;
        last = watched_last course.rest end spec ran.rounds ran.end is.ends;
        valid = is.valid;
      }

  run_of : (kind : RunKind) (ran : RunEnd) → IsRunOfKindUntil kind course.rest course.net crowd spec ran → IsRunOnCourse kind course counts spec ran
  run_of Whole ran is = whole_run ran is
  run_of Watched ran is = watched_run ran is

module _ (setting : Setting) (crowd : List Word) (start : IsStart (course_at setting).net (record { counts = setting.counts; crowd = crowd }))
    (lines before after : List ℕ) (same : before ≡ lines) (last : List Word) (end : End) where
  -- a run that was written after the lines
  pub written_run : IsWrittenRunOfUntil setting.kind (course_at setting).rest (course_at setting).net crowd setting.spec before after last end → IsWrittenTo setting lines after last end
  written_run made = record {
    rounds = made.rounds;
    run = run_of (course_at setting) setting.counts setting.spec crowd start setting.kind (record { rounds = made.rounds; crowd = last; end = end }) made.run;
    text = made.text ∙ ap (λ (t : List ℕ). t ++ text_of (run_lines setting.kind setting.spec made.rounds)) same;
  }

  pub written_alone : setting.kind ≡ Whole → IsWrittenRunUntil (course_at setting).rest (course_at setting).net crowd setting.spec before after last end → IsWrittenTo setting lines after last end
  written_alone kind made =
      written_run (record {
        rounds = made.rounds;
        run = subst (λ (k : RunKind). IsRunOfKindUntil k (course_at setting).rest (course_at setting).net crowd setting.spec (record { rounds = made.rounds; crowd = last; end = end })) (sym kind) made.run.run;
        text = made.text ∙ ap (λ (k : RunKind). before ++ text_of (run_lines k setting.spec made.rounds)) (sym kind);
      })

-- a run that was written to its end leads to its output
pub output_of : {E : Type 0} (setting : Setting) (lines : List ℕ) (r : Result Output E) (text : List ℕ) (last : List Word) (end : End) → IsWrittenTo setting lines text last end
    → IfOk r (λ (output : Output). (lines : List ℕ) → IsWrittenTo setting lines text last end → IsOutputOfSetting setting lines output) → IfOk r (IsOutputOfSetting setting lines)
output_of setting lines (Ok output) text last end written each = each lines written
output_of setting lines (Err fault) text last end written each = tt
