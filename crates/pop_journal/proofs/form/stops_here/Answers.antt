use Rattle.std.proofs.Common.{◌≡◌, ℕ, false, List, [], ◌∷◌, sym, ◌∙◌}
use Rattle.std.specs.Prelude.{Option, Some}
use Rattle.base_lines.specs.Lines.{lines_of}
use Rattle.run_spec.specs.declared.kind.RunKind.{RunKind}
use Rattle.pop_journal.specs.declared.form.MeetingLine.{MeetingLine}
use Rattle.pop_journal.specs.Form.{Tells}
use Rattle.pop_journal.specs.ReadLines.{first_ends}
use Rattle.pop_journal.proofs.FormLaws.{told_no_end}
use Rattle.pop_journal.proofs.form.stops_here.Goals as goal

told_first : (kind : RunKind) (lines : List (List ℕ)) (o : Option MeetingLine) (told : MeetingLine) (others : List (List ℕ)) → o ≡ Some told → Tells lines o others → false ≡ first_ends kind lines
told_first kind [] o told others is t = absurd t
told_first kind (line ∷ lines) o told others is t = sym (told_no_end kind line told (t.0 ∙ is))

pub returns-in-Some : goal.returns-in-Some
returns-in-Some c others t = told_first c.args.kind (lines_of c.args.text.now) c.args.told _ others c.in-Some.is t
