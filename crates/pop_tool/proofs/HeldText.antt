-- A journal that is read and holds is the text of a run, and no other text is.
use Rattle.std.proofs.Common.{◌≡◌, ℕ, ◌*◌, ◌≤◌, List, ◌∷◌, ◌++◌, codes, length, Ok, sym, ap, subst, ◌∙◌, arith}
use Rattle.base_lines.specs.Lines.{lines_of}
use Rattle.pop_leaf.specs.NetModel.{CrowdModel}
use Rattle.pop_leaf.specs.InputCrowd.{input_crowd}
use Rattle.pop_crowd.specs.declared.limits.TheConstants.{AGENT_LIMIT}
use Rattle.run_spec.specs.declared.kind.RunKind.{RunKind}
use Rattle.run_spec.specs.declared.spec.RunSpec.{RunSpec}
use Rattle.run_spec.specs.declared.spec.TheConstants.{MEETING_LIMIT}
use Rattle.run_spec.specs.Kinds.{most_workers_of}
use Rattle.run_spec.specs.RunLimits.{IsWithinLimits}
use Rattle.run_picks.specs.WatchedRun.{IsRunOfUntil}
use Rattle.run_text.specs.declared.last.Last.{Last}
use Rattle.run_text.specs.Journal.{run_line, round_lines, journal_text}
use Rattle.run_text.specs.Ending.{ending_until}
use Rattle.pop_journal.specs.Expected.{whole_tail_until, HoldsUntil}
use Rattle.pop_journal.specs.Form.{journal_in}
use Rattle.pop_journal.specs.Laws.{IsRunReadBackUntil}
use Rattle.pop_journal.specs.Rounds.{AreRoundsOf}
use Rattle.pop_journal.proofs.Written.{journal_form, written_is_held_until, cut_until}
use Rattle.tool_bundles.specs.Bundles.{IsBegunBy}
use Rattle.tool_courses.specs.Course.{Course, course_of}
use Rattle.tool_replays.specs.declared.replay.TheConstants.{JOURNAL_LINE}
use Rattle.tool_replays.specs.Replay.{journal_read}
use Rattle.pop_tool.specs.Headline.{IsHeldInput}
use Rattle.pop_tool.proofs.BundleInput.{bundle_input, input_begins}
use Rattle.pop_tool.proofs.Courses.{least_start, most_start, run_ends, run_ends_only}
use Rattle.pop_tool.proofs.ReplayHeadline.{IsReadHeld, read_ok}

module _ (kind : RunKind) (input : List ℕ) (k : ℕ) (held : IsReadHeld kind input k) where
  abbrev course : Course
  course = course_of held.bundle held.counts

  abbrev start : CrowdModel
  start = input_crowd course.net held.counts

  is : (journal_in kind (length start) JOURNAL_LINE held.more ≡ Ok (held.journal.spec, (held.journal.rounds, held.journal.tail))) × (kind ≡ held.journal.kind)
  is =
      read_ok kind held.first held.second held.bundle held.counts held.begins (journal_in kind (length start) JOURNAL_LINE held.more) held.journal held.read

  few_agents : length start ≤ AGENT_LIMIT
  few_agents = most_start held.first held.second held.bundle held.counts held.begins

  form : (held.more ≡ run_line kind held.journal.spec ∷ (round_lines 1 held.journal.rounds ++ codes "end" ∷ held.journal.tail)) × IsWithinLimits held.journal.spec × AreRoundsOf kind held.journal.spec (length start) held.journal.rounds × (held.journal.spec.workers ≤ most_workers_of kind) × (held.journal.spec.workers * held.journal.spec.turns ≤ MEETING_LIMIT)
  form =
      journal_form kind (length start) JOURNAL_LINE held.more held.journal.spec (held.journal.rounds, held.journal.tail) (omega (arith, few_agents)) is.0

  run : IsRunOfUntil kind course.rest course.net start held.journal.spec held.journal.rounds held.holds.0
  run =
      subst (λ (r : RunKind). IsRunOfUntil r course.rest course.net start held.journal.spec held.journal.rounds held.holds.0) (sym is.1) held.holds.1

  text : held.more ≡ lines_of (journal_text kind course.net held.journal.spec held.journal.rounds held.holds.0 (ending_until course.rest course.outcome course.net held.holds.0))
  text =
      form.0
      ∙ ap (λ (tail : List (List ℕ)). run_line kind held.journal.spec ∷ (round_lines 1 held.journal.rounds ++ codes "end" ∷ tail)) held.holds.2
      ∙ sym (cut_until course.rest course.outcome kind course.net start held.journal.spec held.journal.rounds held.holds.0 (least_start held.first held.second held.bundle held.counts held.begins) few_agents form.1 run)

  pub read_held : IsHeldInput kind input k
  read_held =
      record {
        short = held.short;
        first = held.first;
        second = held.second;
        bundle = held.bundle;
        counts = held.counts;
        begins = bundle_input held.first held.second held.bundle held.counts held.begins;
        valid = held.valid;
        spec = held.journal.spec;
        allowed = record { each = form.1; workers = form.3; meetings = form.4 };
        rounds = held.journal.rounds;
        end = held.holds.0;
        run = run;
        last = ending_until course.rest course.outcome course.net held.holds.0;
        ends = run_ends held.first held.second held.bundle held.counts held.begins held.valid kind held.journal.spec held.journal.rounds held.holds.0 run;
        lines = held.lines ∙ ap (λ (more : List (List ℕ)). held.first ∷ held.second ∷ more) text;
        all = held.all;
      }

module _ (kind : RunKind) (input : List ℕ) (k : ℕ) (held : IsHeldInput kind input k) where
  begins : IsBegunBy held.first held.second (Ok (held.bundle, held.counts))
  begins = input_begins held.first held.second held.bundle held.counts held.begins

  abbrev way : Course
  way = course_of held.bundle held.counts

  abbrev begun : CrowdModel
  begun = input_crowd way.net held.counts

  last : held.last ≡ ending_until way.rest way.outcome way.net held.end
  last =
      run_ends_only held.first held.second held.bundle held.counts begins held.valid kind held.spec held.rounds held.end held.run held.last held.ends

  written : IsRunReadBackUntil way.rest way.outcome kind way.net begun held.spec held.rounds held.end JOURNAL_LINE × HoldsUntil way.rest way.outcome way.net begun (record { kind = kind; spec = held.spec; rounds = held.rounds; tail = lines_of (whole_tail_until way.rest way.outcome way.net held.end); first = JOURNAL_LINE })
  written =
      written_is_held_until way.rest way.outcome kind way.net begun held.spec held.rounds held.end JOURNAL_LINE (least_start held.first held.second held.bundle held.counts begins) (most_start held.first held.second held.bundle held.counts begins) held.allowed.each held.allowed.workers held.allowed.meetings held.run

  pub held_read : IsReadHeld kind input k
  held_read =
      record {
        short = held.short;
        first = held.first;
        second = held.second;
        more = lines_of (journal_text kind way.net held.spec held.rounds held.end (ending_until way.rest way.outcome way.net held.end));
        lines = held.lines ∙ ap (λ (last : Last). held.first ∷ held.second ∷ lines_of (journal_text kind way.net held.spec held.rounds held.end last)) last;
        bundle = held.bundle;
        counts = held.counts;
        begins = begins;
        valid = held.valid;
        journal = record { kind = kind; spec = held.spec; rounds = held.rounds; tail = lines_of (whole_tail_until way.rest way.outcome way.net held.end); first = JOURNAL_LINE };
        read = ap (journal_read kind) written.0;
        holds = written.1;
        all = held.all;
      }
