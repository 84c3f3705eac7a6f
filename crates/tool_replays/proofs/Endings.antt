-- `replay` doesn't end by a fault of reading.
use Rattle.std.proofs.Common.{ℕ, List, Option, Some, None, Result, Ok, sym, subst}
use Rattle.std.specs.Prelude.{◌+◌, length}
use Rattle.run_spec.specs.declared.kind.RunKind.{RunKind}
use Rattle.pop_leaf.specs.InputCrowd.{input_crowd}
use Rattle.run_picks.specs.Run.{joined}
use Rattle.pop_journal.specs.Form.{journal_in}
use Rattle.run_text.specs.Difference.{Difference}
use Rattle.pop_journal.specs.Expected.{first_difference, journal_compared_until}
use Rattle.pop_checker.specs.declared.stable_fault.StableRejected.{StableRejected}
use Rattle.tool_texts.specs.declared.refusal.Refusal.{Refusal}
use Rattle.tool_texts.specs.declared.output.Output.{Output}
use Rattle.tool_texts.specs.Lines.{two_and_some}
use Rattle.tool_texts.proofs.Goes.{bind_keeps, after_keeps}
use Rattle.cert_json.specs.declared.stable.StableBundle.{StableBundle}
use Rattle.tool_bundles.proofs.OtherEndings.{IsOther, refused}
use Rattle.tool_courses.specs.Course.{course_of}
use Rattle.tool_replays.specs.declared.replay.TheConstants.{JOURNAL_LINE}
use Rattle.tool_replays.specs.Replay.{journal_read, compared_output, journal_output, judged_output, OfBegun, OfLines, ReplayGives}

compared_other : (meetings : ℕ) (found : Option Difference) → IsOther (Ok (compared_output meetings found))
compared_other meetings None e = absurd cc
compared_other meetings (Some difference) e = absurd cc

judged_other : (kind : RunKind) (bundle : StableBundle) (counts : List ℕ) (lines : List (List ℕ)) (judged : Option StableRejected) → IsOther (judged_output kind bundle counts lines judged)
judged_other kind bundle counts lines None =
    let course = course_of bundle counts in
    let start = input_crowd course.net counts in
    bind_keeps IsOther refused (journal_read kind (journal_in kind (length start) JOURNAL_LINE lines)) (λ journal. Ok (journal_output course start journal))
    (λ journal. compared_other (length (joined journal.rounds)) (first_difference (journal.first + 1) (journal_compared_until course.rest course.outcome course.net start journal)))
judged_other kind bundle counts lines (Some rejected) = λ e. absurd cc

pub replay_other : (kind : RunKind) (lines : List (List ℕ)) (given : Result Output Refusal) → ReplayGives kind lines given → IsOther given
replay_other kind lines =
    after_keeps IsOther refused (two_and_some lines) (OfLines kind)
    (λ found given is. after_keeps IsOther refused is.0 (OfBegun kind found.2)
    (λ begin given is. subst IsOther (sym is.2) (judged_other kind begin.0 begin.1 found.2 is.0)) given is.2)
