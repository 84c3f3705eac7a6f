-- A play has one output.
use Rattle.std.proofs.Common.{◌≡◌, ℕ, List, Option, Result, Ok, sym, ap, subst, ◌∙◌}
use Rattle.std.specs.Prelude.{All}
use Rattle.serde_json.specs.Data.{Data}
use Rattle.pop_leaf.specs.NetModel.{NetModel, CrowdModel, IsTuple}
use Rattle.tool_texts.specs.declared.refusal.Refusal.{Refusal}
use Rattle.tool_texts.specs.declared.output.Output.{Output}
use Rattle.tool_texts.specs.Steps.{After}
use Rattle.tool_texts.specs.Lines.{two_and_more}
use Rattle.tool_texts.proofs.Goes.{one_after}
use Rattle.tool_texts.proofs.OneValue.{one_value}
use Rattle.tool_nets.specs.Play.{end_crowd, play_output, OfEnd, OfLines, PlayGives}
use Rattle.tool_nets.proofs.PlayTuples.{end_tuples}
use Rattle.tool_bundles.proofs.OneLast.{one_last}

one_end : (end : NetModel × CrowdModel) → All (IsTuple end.0) end.1 → (x y : Result Output Refusal) → OfEnd end x → OfEnd end y → x ≡ y
one_end end tuples x y p q =
    let same = one_last end.0 end.1 tuples p.0 q.0 p.1 q.1 in
    p.2 ∙ ap (λ (o : Option (ℕ × ℕ)). Ok (play_output end.0 end.1 o)) same ∙ sym q.2

one_lines : (lines : List ℕ × List ℕ × List (List ℕ)) (x y : Result Output Refusal) → OfLines lines x → OfLines lines y → x ≡ y
one_lines lines x y p q =
    let same = one_value lines.0 p.0 q.0 p.1 q.1 in
    one_after (end_crowd q.0 lines.1 lines.2) OfEnd (λ end is. one_end end (end_tuples q.0 lines.1 lines.2 end.0 end.1 is)) x y
    (subst (λ (v : Option Data). After (end_crowd v lines.1 lines.2) OfEnd x) same p.2) q.2

pub one_play : (lines : List (List ℕ)) (x y : Result Output Refusal) → PlayGives lines x → PlayGives lines y → x ≡ y
one_play lines x y p q = one_after (two_and_more lines) OfLines (λ found is. one_lines found) x y p q
