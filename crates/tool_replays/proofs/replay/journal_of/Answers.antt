use Rattle.std.proofs.Common.{◌≡◌, ℕ, List, Result, Ok, Err, sym, ap, ◌∙◌}
use Rattle.pop_io.specs.declared.failure.Failure.TheVariants.{Fault}
use Rattle.base_lines.specs.Lines.{lines_of}
use Rattle.run_spec.specs.declared.kind.RunKind.{RunKind}
use Rattle.run_spec.specs.declared.spec.RunSpec.{RunSpec}
use Rattle.pop_journal.specs.declared.journal.Journal.{Journal}
use Rattle.run_text.specs.declared.fault.JournalFault.{JournalFault}
use Rattle.run_text.specs.declared.fault.JournalFault.TheVariants as fault
use Rattle.pop_journal.specs.Form.{Parts, Out, journal_in}
use Rattle.pop_journal.specs.ReadLines.{ReadsJournal}
use Rattle.tool_texts.specs.declared.refusal.Refusal.{Refusal}
use Rattle.tool_replays.specs.declared.replay.TheConstants.{JOURNAL_LINE}
use Rattle.tool_replays.specs.Replay.{journal_read, journal_refusal}
use Rattle.tool_replays.proofs.replay.journal_of.Goals as goal

read_as : (kind : RunKind) (step : Result (RunSpec × Parts) Out) (journal : Journal) → step ≡ Ok (journal.spec, (journal.rounds, journal.tail)) → journal.kind ≡ kind → journal.first ≡ JOURNAL_LINE
    → journal_read kind step ≡ Ok journal
read_as kind step journal read of from =
    ap (journal_read kind) read
    ∙ (λ i. let r : Result Journal Refusal = Ok (record { kind = sym of i; spec = journal.spec; rounds = journal.rounds; tail = journal.tail; first = sym from i }) in r)

pub returns-in-Ok-clause-read : goal.returns-in-Ok-clause-read
returns-in-Ok-clause-read c = read_as c.args.kind _ c.in-Ok.journal c.in-Ok.ensures.read c.in-Ok.ensures.kind c.in-Ok.ensures.first

refused : (kind : RunKind) (agents : ℕ) (lines : List (List ℕ)) (why : JournalFault) → ReadsJournal kind agents JOURNAL_LINE lines (Err (Fault why))
    → journal_read kind (journal_in kind agents JOURNAL_LINE lines) ≡ Err (journal_refusal why)
refused kind agents lines (fault.Out line why) read = ap (journal_read kind) read

pub returns-in-Err-Fault-clause-read : goal.returns-in-Err-Fault-clause-read
returns-in-Err-Fault-clause-read c =
    rw c.refusal_of.ensures
    (refused c.args.kind c.args.agents (lines_of c.args.text.now) c.in-Err-Fault.fault (rw c.in-Err-Fault.field-0-is at c.in-Err-Fault.ensures.read))
