-- What a run wrote is a journal that holds.
use Rattle.std.proofs.Common.{◌≡◌, ◌≢◌, ℕ, ◌*◌, ◌≤◌, ◌==◌, List, [], ◌∷◌, ◌++◌, length, Ok, All, refl, sym, ap, subst, ◌∙◌, append-nil}
use Rattle.std.specs.List.{list_any}
use Rattle.std.proofs.lemmas.Bool.{ne_eqb, or_from}
use Rattle.std.proofs.lemmas.List.Elements.{All-head, All-tail}
use Rattle.pop_io.specs.declared.whole.TheConstants.{INPUT_LIMIT}
use Rattle.base_lines.specs.Lines.{lines_of, ended}
use Rattle.base_lines.proofs.Joined.{lines-joined}
use Rattle.pop_leaf.specs.NetModel.{CrowdModel, IsTuple}
use Rattle.pop_leaf.specs.InputCrowd.{input_crowd}
use Rattle.run_spec.specs.declared.kind.RunKind.{RunKind}
use Rattle.run_spec.specs.declared.kind.RunKind.TheVariants.{Whole, Watched}
use Rattle.run_spec.specs.declared.spec.RunSpec.{RunSpec}
use Rattle.run_spec.specs.declared.spec.TheConstants.{MEETING_LIMIT}
use Rattle.run_spec.specs.RunLimits.{IsWithinLimits}
use Rattle.run_spec.specs.Kinds.{most_workers_of}
use Rattle.pop_words.specs.Words.{meaning_of, run_command, replay_command}
use Rattle.pop_words.proofs.Limits.{run_bounded}
use Rattle.run_picks.specs.Run.{joined}
use Rattle.pop_journal.specs.declared.journal.Journal.{Journal}
use Rattle.run_text.specs.declared.last.Last.{Last}
use Rattle.run_text.specs.Journal.{journal_text}
use Rattle.run_text.specs.Ending.{ending_until}
use Rattle.pop_journal.specs.Expected.{whole_tail_until, HoldsUntil}
use Rattle.pop_journal.specs.Laws.{IsRunReadBackUntil}
use Rattle.base_lines.proofs.Unbroken.{IsUnbroken}
use Rattle.pop_journal.proofs.Feeds.{lines_text}
use Rattle.pop_journal.proofs.Written.{written_is_held_until}
use Rattle.tool_texts.specs.declared.output.Output.{Output}
use Rattle.tool_texts.specs.Statuses.{status_of}
use Rattle.tool_texts.specs.Refusals.{output_for}
use Rattle.tool_replays.specs.declared.replay.TheConstants.{JOURNAL_LINE}
use Rattle.tool_courses.specs.Course.{Course, course_of}
use Rattle.tool_courses.specs.RunOutput.{journal_end}
use Rattle.tool_replays.specs.Replay.{journal_read}
use Rattle.pop_tool.specs.Headline.{WasRun}
use Rattle.pop_tool.specs.ReplayHeld.{replay_words, IsReplayHeld}
use Rattle.pop_tool.proofs.Replies.{given_for}
use Rattle.pop_tool.proofs.Courses.{least_start, most_start, rest_tuples, run_ends_only}
use Rattle.pop_tool.proofs.RunHeadline.{IsMade, last_line, run_made}
use Rattle.pop_tool.proofs.ReplayHeadline.{IsReadHeld, held_given}

all_unbroken : (line : List ℕ) → All (λ b. b ≢ 10) line → IsUnbroken line
all_unbroken [] all = refl
all_unbroken (b ∷ line) all =
    or_from (b == 10) (list_any (λ c. c == 10) line) (ne_eqb b 10 (All-head (λ (c : ℕ). c ≢ 10) b line all)) (all_unbroken line (All-tail (λ (c : ℕ). c ≢ 10) b line all))

-- two lines of an input have no line feed
two_unbroken : (input first second : List ℕ) → lines_of input ≡ first ∷ second ∷ [] → IsUnbroken first × IsUnbroken second
two_unbroken input first second is =
    let all = subst (λ (ls : List (List ℕ)). All (λ line. All (λ b. b ≢ 10) line) ls) is (lines-joined input).unbroken in
    let rest = All-tail (λ (line : List ℕ). All (λ b. b ≢ 10) line) first (second ∷ []) all in
    (all_unbroken first (All-head (λ (line : List ℕ). All (λ b. b ≢ 10) line) first (second ∷ []) all), all_unbroken second (All-head (λ (line : List ℕ). All (λ b. b ≢ 10) line) second [] rest))

module _ (kind : RunKind) (spec : RunSpec) (input : List ℕ) (output : Output) (made : IsMade kind spec input output)
    (bounded : IsWithinLimits spec × (spec.workers ≤ most_workers_of kind) × (spec.workers * spec.turns ≤ MEETING_LIMIT)) where
  abbrev course : Course
  course = course_of made.bundle made.counts

  abbrev start : CrowdModel
  start = input_crowd course.net made.counts

  abbrev end : CrowdModel
  end = made.is.end

  abbrev ending : Last
  ending = ending_until course.rest course.outcome course.net end

  tuples : All (IsTuple course.rest) end
  tuples = rest_tuples made.first made.second made.bundle made.counts made.begins made.valid kind spec made.is.rounds end made.is.run

  -- the last line of the run is that of its last crowd
  last_is : journal_end course.told made.is.pair ≡ ending
  last_is =
      run_ends_only made.first made.second made.bundle made.counts made.begins made.valid kind spec made.is.rounds end made.is.run (journal_end course.told made.is.pair)
      (last_line course.rest end tuples course.told made.is.pair made.is.last)

  abbrev journal : Journal
  journal = record { kind = kind; spec = spec; rounds = made.is.rounds; tail = lines_of (whole_tail_until course.rest course.outcome course.net end); first = JOURNAL_LINE }

  written : IsRunReadBackUntil course.rest course.outcome kind course.net start spec made.is.rounds end JOURNAL_LINE × HoldsUntil course.rest course.outcome course.net start journal
  written =
      written_is_held_until course.rest course.outcome kind course.net start spec made.is.rounds end JOURNAL_LINE
      (least_start made.first made.second made.bundle made.counts made.begins) (most_start made.first made.second made.bundle made.counts made.begins)
      bounded.0 bounded.1 bounded.2 made.is.run

  lines_are : lines_of output.text ≡ made.first ∷ made.second ∷ lines_of (journal_text kind course.net spec made.is.rounds end ending)
  lines_are =
      let both = two_unbroken input made.first made.second made.lines in
      ap lines_of (made.is.text ∙ ap (λ (l : Last). ended made.first ++ ended made.second ++ journal_text kind course.net spec made.is.rounds end l) last_is
      ∙ ap (λ (t : List ℕ). ended made.first ++ t ++ journal_text kind course.net spec made.is.rounds end ending) (sym (append-nil (ended made.second))))
      ∙ lines_text (made.first ∷ made.second ∷ []) (journal_text kind course.net spec made.is.rounds end ending) (both.0, (both.1, tt))

  pub made_held : length output.text ≤ INPUT_LIMIT → IsReadHeld kind output.text (length (joined made.is.rounds))
  made_held short =
      record {
        short = short;
        first = made.first;
        second = made.second;
        more = lines_of (journal_text kind course.net spec made.is.rounds end ending);
        lines = lines_are;
        bundle = made.bundle;
        counts = made.counts;
        begins = made.begins;
        valid = made.valid;
        journal = journal;
        read = ap (journal_read kind) written.0;
        holds = written.1;
        all = refl;
      }

replay_means : (kind : RunKind) → meaning_of (replay_words kind) ≡ Ok (replay_command kind)
replay_means Whole = refl
replay_means Watched = refl

pub replay_is_held : IsReplayHeld
replay_is_held kind words spec input written answer is answered ran short replayed =
    let a = given_for words (run_command kind spec) input written is answered in
    let made : IsMade kind spec input written = subst (IsMade kind spec input) (sym a.2) (run_made kind spec input a.0 a.1 (subst (λ (o : Output). WasRun (status_of o.ending)) a.2 ran)) in
    let held = made_held kind spec input written made (run_bounded words kind spec is) short in
    let k = length (joined made.is.rounds) in
    let b = given_for (replay_words kind) (replay_command kind) written.text answer (replay_means kind) replayed in
    (k, b.2 ∙ ap output_for (held_given kind written.text k held b.0 b.1))
