-- A replay has one output.
use Rattle.std.proofs.Common.{◌≡◌, ℕ, List, Result, sym, ap, subst, ◌∙◌}
use Rattle.run_spec.specs.declared.kind.RunKind.{RunKind}
use Rattle.cert_json.specs.declared.stable.StableBundle.{StableBundle}
use Rattle.tool_texts.specs.declared.refusal.Refusal.{Refusal}
use Rattle.tool_texts.specs.declared.output.Output.{Output}
use Rattle.tool_texts.specs.Steps.{After}
use Rattle.tool_texts.specs.Lines.{two_and_some}
use Rattle.tool_texts.proofs.Goes.{one_after}
use Rattle.tool_replays.specs.Replay.{judged_output, OfBegun, OfLines, ReplayGives}
use Rattle.tool_rejections.proofs.OneJudged.{one_judged}
use Rattle.tool_bundles.proofs.OneBundle.{one_begin}

of_begun : (kind : RunKind) (lines : List (List ℕ)) (begin : StableBundle × List ℕ) (x y : Result Output Refusal) → OfBegun kind lines begin x → OfBegun kind lines begin y → x ≡ y
of_begun kind lines begin x y p q = p.2 ∙ ap (judged_output kind begin.0 begin.1 lines) (one_judged begin.0 p.0 q.0 p.1 q.1) ∙ sym q.2

of_lines : (kind : RunKind) (lines : List ℕ × List ℕ × List (List ℕ)) (x y : Result Output Refusal) → OfLines kind lines x → OfLines kind lines y → x ≡ y
of_lines kind lines x y p q =
    let same = one_begin lines.0 lines.1 p.0 q.0 p.1 q.1 in
    one_after q.0 (OfBegun kind lines.2) (λ begin is. of_begun kind lines.2 begin) x y
    (subst (λ (r : Result (StableBundle × List ℕ) Refusal). After r (OfBegun kind lines.2) x) same p.2) q.2

pub one_replay : (kind : RunKind) (lines : List (List ℕ)) (x y : Result Output Refusal) → ReplayGives kind lines x → ReplayGives kind lines y → x ≡ y
one_replay kind lines x y p q = one_after (two_and_some lines) (OfLines kind) (λ found is. of_lines kind found) x y p q
