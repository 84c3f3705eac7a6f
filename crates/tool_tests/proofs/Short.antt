-- What is written for no words is short.
use Rattle.std.proofs.Common.{inl, inr, ℕ, ◌≤◌, List, [], length, Option, ap, arith, length-append}
use Rattle.std.proofs.lemmas.Fmt.{length-decimal-le}
use Rattle.tool_texts.specs.declared.output.Output.{Output}
use Rattle.pop_tool.specs.Outcome.{IsReply}

pub no_words_short : (left : Option (List ℕ)) (output : Output) → IsReply [] left output → length output.text ≤ 4096
no_words_short left output (inl answer) =
    let number = length-decimal-le 1 0 (omega arith) (omega arith) (omega arith) in
    omega (arith, simp length-append at (ap (λ (o : Output). length o.text) answer.2), number)
no_words_short left output (inr fault) = omega (arith, ap (λ (o : Output). length o.text) fault)
