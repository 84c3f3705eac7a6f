-- An output is its text and its ending.
use Rattle.std.proofs.Common.{◌≡◌, ℕ, List, ap, ◌∙◌}
use Rattle.tool_texts.specs.declared.output.Output.{Output}
use Rattle.tool_texts.specs.declared.output.Ending.{Ending}

pub same_output : (x y : Output) → x.text ≡ y.text → x.ending ≡ y.ending → x ≡ y
same_output x y text ending =
    ap (λ (t : List ℕ). let o : Output = record { text = t; ending = x.ending } in o) text
    ∙ ap (λ (e : Ending). let o : Output = record { text = y.text; ending = e } in o) ending
