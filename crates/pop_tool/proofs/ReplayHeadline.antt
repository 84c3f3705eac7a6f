-- What a printed text of `replay` says of a journal.
use Rattle.std.proofs.Common.{◌≡◌, ℕ, ◌+◌, ◌<◌, ◌≤◌, ◌^◌, Bool, true, false, nat_lt, List, [], ◌∷◌, length, Option, Some, None, Result, Ok, Err, refl, sym, ap, subst, ◌∙◌, arith}
use Rattle.std.specs.Prelude.{MatchBool}
use Rattle.std.proofs.lemmas.Bool.{le-ltb, ltb-false}
use Rattle.std.proofs.lemmas.List.{append_cancel_right}
use Rattle.pop_io.specs.declared.whole.TheConstants.{INPUT_LIMIT}
use Rattle.base_lines.specs.Lines.{lines_of, ended}
use Rattle.pop_leaf.specs.NetModel.{CrowdModel}
use Rattle.pop_leaf.specs.InputCrowd.{input_crowd}
use Rattle.pop_net.proofs.Tuples.{input_tuples}
use Rattle.pop_crowd.specs.declared.limits.TheConstants.{AGENT_LEAST, AGENT_LIMIT}
use Rattle.run_spec.specs.declared.kind.RunKind.{RunKind}
use Rattle.run_spec.specs.declared.kind.RunKind.TheVariants.{Whole, Watched}
use Rattle.pop_words.specs.Words.{replay_command}
use Rattle.run_spec.specs.declared.spec.RunSpec.{RunSpec}
use Rattle.run_spec.specs.RunLimits.{IsWithinLimits}
use Rattle.run_picks.specs.Run.{joined}
use Rattle.pop_journal.specs.declared.journal.Journal.{Journal}
use Rattle.pop_journal.specs.Rounds.{AreRoundsOf}
use Rattle.pop_journal.specs.Form.{Parts, Out, journal_in}
use Rattle.run_text.specs.Difference.{Difference}
use Rattle.pop_journal.specs.Expected.{first_difference, journal_compared_until, HoldsUntil}
use Rattle.pop_journal.proofs.Written.{journal_form, few_meetings}
use Rattle.pop_journal.proofs.Verdicts.{none_held_until, held_none_until}
use Rattle.pop_checker.specs.declared.stable_fault.StableRejected.{StableRejected}
use Rattle.tool_texts.specs.declared.refusal.Refusal.{Refusal}
use Rattle.tool_texts.specs.declared.refusal.Refusal.TheVariants.{TooLong}
use Rattle.tool_texts.specs.declared.output.Output.{Output}
use Rattle.tool_texts.specs.Steps.{◌>>=◌, After}
use Rattle.tool_texts.specs.Lines.{two_and_some}
use Rattle.tool_texts.specs.Differences.{difference_text}
use Rattle.tool_texts.specs.Refusals.{refusal_text, output_for}
use Rattle.tool_rejections.specs.Rejections.{rejected_text}
use Rattle.tool_replays.specs.declared.replay.TheConstants.{JOURNAL_LINE}
use Rattle.cert_json.specs.declared.stable.StableBundle.{StableBundle}
use Rattle.tool_bundles.specs.Bundles.{IsBegunBy}
use Rattle.tool_rejections.specs.Judged.{IsJudged}
use Rattle.tool_courses.specs.Course.{Course, course_of}
use Rattle.tool_replays.specs.Replay.{holds_text, holds_output, journal_read, compared_output, journal_output, replay_output, judged_output, OfBegun, OfLines, ReplayGives}
use Rattle.tool_rejections.proofs.OneJudged.{one_judged}
use Rattle.tool_bundles.proofs.OneBundle.{one_begin}
use Rattle.pop_tool.specs.Answer.{InputGives}
use Rattle.pop_tool.proofs.Decimals.{one_decimal}
use Rattle.pop_tool.proofs.Courses.{least_start, most_start, course_lanes}
use Rattle.pop_tool.proofs.FirstBytes.{first_byte, refusal_begins, rejection_begins, difference_begins}

-- the input is a bundle whose proof is valid, a crowd line, and a journal that is read and holds
pub record IsReadHeld (kind : RunKind) (input : List ℕ) (meetings : ℕ) : Type 0 where
  pub short : length input ≤ INPUT_LIMIT
  pub first : List ℕ
  pub second : List ℕ
  pub more : List (List ℕ)
  pub lines : lines_of input ≡ first ∷ second ∷ more
  pub bundle : StableBundle
  pub counts : List ℕ
  pub begins : IsBegunBy first second (Ok (bundle, counts))
  pub valid : IsJudged bundle None
  pub journal : Journal
  pub read : journal_read kind (journal_in kind (length (input_crowd (course_of bundle counts).net counts)) JOURNAL_LINE more) ≡ Ok journal
  pub holds : HoldsUntil (course_of bundle counts).rest (course_of bundle counts).outcome (course_of bundle counts).net (input_crowd (course_of bundle counts).net counts) journal
  pub all : length (joined journal.rounds) ≡ meetings

-- a refusal begins with an f, a rejection with an r, a difference with a d, and `holds` with an h
not_refusal : (refusal : Refusal) (k : ℕ) → ended (refusal_text refusal) ≡ ended (holds_text k) → ⊥
unfolding first_byte
not_refusal refusal k e = let b : 102 ≡ 104 = sym (refusal_begins refusal) ∙ ap first_byte e in absurd (omega (arith, b))

not_rejection : (rejected : StableRejected) (k : ℕ) → ended (rejected_text rejected) ≡ ended (holds_text k) → ⊥
unfolding first_byte
not_rejection rejected k e = let b : 114 ≡ 104 = sym (rejection_begins rejected) ∙ ap first_byte e in absurd (omega (arith, b))

not_difference : (difference : Difference) (k : ℕ) → difference_text difference ≡ ended (holds_text k) → ⊥
unfolding first_byte
not_difference difference k e = let b : 100 ≡ 104 = sym (difference_begins difference) ∙ ap first_byte e in absurd (omega (arith, b))

tail_of : List ℕ → List ℕ
tail_of [] = []
tail_of (b ∷ bytes) = bytes

-- the number that is printed
one_number : (n k : ℕ) → n < 2 ^ 64 → ended (holds_text n) ≡ ended (holds_text k) → n ≡ k
unfolding tail_of
one_number n k small e =
    let text = append_cancel_right (holds_text n) (holds_text k) (10 ∷ []) e in
    one_decimal n k small (ap (λ (t : List ℕ). tail_of (tail_of (tail_of (tail_of (tail_of (tail_of t)))))) text)

abbrev Printed : Result Output Refusal → ℕ → Type 0
Printed given k = (output_for given).text ≡ ended (holds_text k)

-- how a bundle and its counts begin
module _ (kind : RunKind) (first second : List ℕ) (bundle : StableBundle) (counts : List ℕ) (begins : IsBegunBy first second (Ok (bundle, counts))) where
  abbrev course : Course
  course = course_of bundle counts

  abbrev start : CrowdModel
  start = input_crowd course.net counts

  two : AGENT_LEAST ≤ length start
  two = least_start first second bundle counts begins

  few : length start ≤ AGENT_LIMIT
  few = most_start first second bundle counts begins

  pub read_ok : (r : Result (RunSpec × Parts) Out) (journal : Journal) → journal_read kind r ≡ Ok journal → (r ≡ Ok (journal.spec, (journal.rounds, journal.tail))) × (kind ≡ journal.kind)
  read_ok (Ok (spec, parts)) journal e =
      let made : Journal = record { kind = kind; spec = spec; rounds = parts.0; tail = parts.1; first = JOURNAL_LINE } in
      let same : made ≡ journal = (let ok : ◌≡◌ {A = Result Journal Refusal} (Ok made) (Ok journal) = e in cc) in
      (ap (λ (j : Journal). Ok (j.spec, (j.rounds, j.tail))) same, ap (λ (j : Journal). j.kind) same)
  read_ok (Err out) journal e = absurd cc

  module _ (more : List (List ℕ)) (journal : Journal) (read : journal_read kind (journal_in kind (length start) JOURNAL_LINE more) ≡ Ok journal) where
    formed : IsWithinLimits journal.spec × AreRoundsOf journal.kind journal.spec (length start) journal.rounds
    formed =
        let is = read_ok (journal_in kind (length start) JOURNAL_LINE more) journal read in
        let form = journal_form kind (length start) JOURNAL_LINE more journal.spec (journal.rounds, journal.tail) (omega (arith, few)) is.0 in
        (form.1, subst (λ (k : RunKind). AreRoundsOf k journal.spec (length start) journal.rounds) is.1 form.2)

    abbrev Held : Type 0
    Held = HoldsUntil course.rest course.outcome course.net start journal

    abbrev found_first : Option Difference
    found_first = first_difference (journal.first + 1) (journal_compared_until course.rest course.outcome course.net start journal)

    none_differs : Held → found_first ≡ None
    none_differs =
        held_none_until course.rest course.outcome course.net (course_lanes bundle counts) start journal two few formed.0.workers (input_tuples course.net counts) formed.1

    none_is_held : found_first ≡ None → Held
    none_is_held =
        none_held_until course.rest course.outcome course.net (course_lanes bundle counts) start journal two few formed.0.workers (input_tuples course.net counts) formed.1

    -- a journal that holds is said to hold
    pub held_output : Held → replay_output kind course start more ≡ Ok (holds_output (length (joined journal.rounds)))
    held_output holds =
        ap (λ (r : Result Journal Refusal). r >>= λ j. Ok (journal_output course start j)) read
        ∙ ap (λ (d : Option Difference). Ok (compared_output (length (joined journal.rounds)) d)) (none_differs holds)

    compared_held : (k : ℕ) → (found : Option Difference) → found_first ≡ found
        → (compared_output (length (joined journal.rounds)) found).text ≡ ended (holds_text k) → Held × (length (joined journal.rounds) ≡ k)
    compared_held k None is printed =
        (none_is_held is, one_number (length (joined journal.rounds)) k (few_meetings journal.kind journal.spec (length start) journal.rounds formed.0 formed.1) printed)
    compared_held k (Some difference) is printed = absurd (not_difference difference k printed)

    -- and no other
    pub output_held : (k : ℕ) → (journal_output course start journal).text ≡ ended (holds_text k) → Held × (length (joined journal.rounds) ≡ k)
    output_held k printed = compared_held k found_first refl printed

replay_given : (kind : RunKind) (input : List ℕ) (given : Result Output Refusal) → InputGives (replay_command kind) input given
    → MatchBool (nat_lt INPUT_LIMIT (length input)) (given ≡ Err TooLong) (ReplayGives kind (lines_of input) given)
replay_given Whole input given is = is
replay_given Watched input given is = is

short_lines : (kind : RunKind) (input : List ℕ) (given : Result Output Refusal) → length input ≤ INPUT_LIMIT → InputGives (replay_command kind) input given → ReplayGives kind (lines_of input) given
short_lines kind input given short is = rw (le-ltb INPUT_LIMIT (length input) short) at (replay_given kind input given is)

-- there is a journal only if there is a line
some_more : (kind : RunKind) (agents : ℕ) (first second : List ℕ) (more : List (List ℕ)) (journal : Journal) (given : Result Output Refusal) → journal_read kind (journal_in kind agents JOURNAL_LINE more) ≡ Ok journal
    → After (two_and_some (first ∷ second ∷ more)) (OfLines kind) given → OfLines kind (first, second, more) given
some_more kind agents first second [] journal given read of = absurd cc
some_more kind agents first second (third ∷ more) journal given read of = of

judged_given : (kind : RunKind) (bundle : StableBundle) (counts : List ℕ) (lines : List (List ℕ)) (judged : Option StableRejected) → IsJudged bundle judged → IsJudged bundle None
    → judged_output kind bundle counts lines judged ≡ replay_output kind (course_of bundle counts) (input_crowd (course_of bundle counts).net counts) lines
judged_given kind bundle counts lines judged is valid = ap (judged_output kind bundle counts lines) (one_judged bundle judged None is valid)

-- a journal that holds is answered with `holds`
pub held_given : (kind : RunKind) (input : List ℕ) (k : ℕ) → IsReadHeld kind input k → (given : Result Output Refusal) → InputGives (replay_command kind) input given → given ≡ Ok (holds_output k)
held_given kind input k held given is =
    let start = input_crowd (course_of held.bundle held.counts).net held.counts in
    let lines : After (two_and_some (held.first ∷ held.second ∷ held.more)) (OfLines kind) given = subst (λ (ls : List (List ℕ)). After (two_and_some ls) (OfLines kind) given) held.lines (short_lines kind input given held.short is) in
    let of = some_more kind (length start) held.first held.second held.more held.journal given held.read lines in
    let begin = one_begin held.first held.second of.0 (Ok (held.bundle, held.counts)) of.1 held.begins in
    let begun : OfBegun kind held.more (held.bundle, held.counts) given = subst (λ (r : Result (StableBundle × List ℕ) Refusal). After r (OfBegun kind held.more) given) begin of.2 in
    begun.2 ∙ judged_given kind held.bundle held.counts held.more begun.0 begun.1 held.valid
    ∙ held_output kind held.first held.second held.bundle held.counts held.begins held.more held.journal held.read held.holds
    ∙ ap (λ (n : ℕ). Ok (holds_output n)) held.all

module _ (k : ℕ) where
  refused : (refusal : Refusal) (given : Result Output Refusal) → given ≡ Err refusal → Printed given k → ⊥
  refused refusal given is printed = not_refusal refusal k (subst (λ (g : Result Output Refusal). Printed g k) is printed)

  module _ (kind : RunKind) (input first second : List ℕ) (more : List (List ℕ)) (short : length input ≤ INPUT_LIMIT) (lines : lines_of input ≡ first ∷ second ∷ more) where
    read_only : (bundle : StableBundle) (counts : List ℕ) → IsBegunBy first second (Ok (bundle, counts)) → IsJudged bundle None → (r : Result Journal Refusal) → journal_read kind (journal_in kind (length (input_crowd (course_of bundle counts).net counts)) JOURNAL_LINE more) ≡ r
        → Printed (r >>= λ journal. Ok (journal_output (course_of bundle counts) (input_crowd (course_of bundle counts).net counts) journal)) k → IsReadHeld kind input k
    read_only bundle counts begins valid (Err refusal) read printed = absurd (not_refusal refusal k printed)
    read_only bundle counts begins valid (Ok journal) read printed =
        let held = output_held kind first second bundle counts begins more journal read k printed in
        record {
          short = short;
          first = first;
          second = second;
          more = more;
          lines = lines;
          bundle = bundle;
          counts = counts;
          begins = begins;
          valid = valid;
          journal = journal;
          read = read;
          holds = held.0;
          all = held.1;
        }

    judged_only : (bundle : StableBundle) (counts : List ℕ) → IsBegunBy first second (Ok (bundle, counts)) → (judged : Option StableRejected) → IsJudged bundle judged → Printed (judged_output kind bundle counts more judged) k → IsReadHeld kind input k
    judged_only bundle counts begins None is printed =
        read_only bundle counts begins is (journal_read kind (journal_in kind (length (input_crowd (course_of bundle counts).net counts)) JOURNAL_LINE more)) refl printed
    judged_only bundle counts begins (Some rejected) is printed = absurd (not_rejection rejected k printed)

    begun_only : (r : Result (StableBundle × List ℕ) Refusal) → IsBegunBy first second r → (given : Result Output Refusal) → After r (OfBegun kind more) given → Printed given k → IsReadHeld kind input k
    begun_only (Err refusal) begins given of printed = absurd (refused refusal given of printed)
    begun_only (Ok begin) begins given of printed =
        judged_only begin.0 begin.1 begins of.0 of.1 (subst (λ (g : Result Output Refusal). Printed g k) of.2 printed)

  lines_only : (kind : RunKind) (input : List ℕ) (lines : List (List ℕ)) → length input ≤ INPUT_LIMIT → lines_of input ≡ lines → (given : Result Output Refusal) → ReplayGives kind lines given → Printed given k → IsReadHeld kind input k
  lines_only kind input [] short is given of printed = absurd (refused _ given of printed)
  lines_only kind input (first ∷ []) short is given of printed = absurd (refused _ given of printed)
  lines_only kind input (first ∷ second ∷ []) short is given of printed = absurd (refused _ given of printed)
  lines_only kind input (first ∷ second ∷ third ∷ more) short is given of printed =
      begun_only kind input first second (third ∷ more) short is of.0 of.1 given of.2 printed

  by_length : (kind : RunKind) (input : List ℕ) (long : Bool) → nat_lt INPUT_LIMIT (length input) ≡ long → (given : Result Output Refusal) → MatchBool long (given ≡ Err TooLong) (ReplayGives kind (lines_of input) given) → Printed given k → IsReadHeld kind input k
  by_length kind input true is given of printed = absurd (refused TooLong given of printed)
  by_length kind input false is given of printed = lines_only kind input (lines_of input) (ltb-false INPUT_LIMIT (length input) is) refl given of printed

  -- `holds` is given only for a journal that holds
  pub replay_only : (kind : RunKind) (input : List ℕ) (given : Result Output Refusal) → InputGives (replay_command kind) input given → Printed given k → IsReadHeld kind input k
  replay_only kind input given is printed = by_length kind input (nat_lt INPUT_LIMIT (length input)) refl given (replay_given kind input given is) printed
