-- A run by one worker that is being made and written.
use Rattle.std.proofs.Common.{◌≡◌, ℕ, List, ◌++◌, ap, ◌∙◌, append_assoc}
use Rattle.std.specs.Prelude.{codes}
use Rattle.base_lines.specs.Lines.{ended}
use Rattle.pop_crowd.specs.declared.crowd.Meeting.{Meeting}
use Rattle.run_spec.specs.declared.kind.RunKind.{RunKind}
use Rattle.run_spec.specs.declared.spec.RunSpec.{RunSpec}
use Rattle.run_text.specs.Journal.{run_line, round_lines, run_lines, text_of}
use Rattle.run_text.proofs.Texts.{run_text}

-- the run's lines up to `end`
pub ended_text : (kind : RunKind) (spec : RunSpec) (before text after : List ℕ) (rounds : List (List Meeting)) → text ≡ (before ++ ended (run_line kind spec)) ++ text_of (round_lines 1 rounds) → after ≡ text ++ codes "end\n"
    → after ≡ before ++ text_of (run_lines kind spec rounds)
ended_text kind spec before text after rounds so_far last =
    let line = ended (run_line kind spec) in
    let lines = text_of (round_lines 1 rounds) in
    last ∙ ap (λ (t : List ℕ). t ++ codes "end\n") (so_far ∙ append_assoc before line lines) ∙ append_assoc before (line ++ lines) (codes "end\n") ∙ ap (λ (t : List ℕ). before ++ t) (run_text kind spec rounds)
