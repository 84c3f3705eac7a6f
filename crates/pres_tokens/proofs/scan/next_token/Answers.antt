use Rattle.std.proofs.Common.{rules, ◌≡◌, ◌+◌, ◌<◌, ◌∷◌, ℕ, false, length, drop, get_or, ap, sym, ◌∙◌, arith}
use Rattle.std.proofs.lemmas.List.{take_rest}
use Rattle.pres_tokens.specs.Symbols.{Symbol}
use Rattle.pres_tokens.specs.Tokens.{is_blank_byte, tokens_from}
use Rattle.pres_tokens.proofs.Steps.{tokens-token}
use Rattle.pres_tokens.proofs.scan.next_token.Goals as goal
use Rattle.pres_tokens.proofs.scan.next_token.Goals.{then-loop-start-test+else-is_blank, else-loop-start-test}

pub returns-clause-tokens : goal.returns-clause-tokens
returns-clause-tokens c =
    let within : c.loop-start.start < length c.args.text.now = omega arith in
    let no_blank : is_blank_byte (get_or c.args.text.now c.loop-start.start 0) ≡ false =
    elim c.loop-start-test.branch [ then-loop-start-test+else-is_blank w ↦ search (rules, w.if-is_blank.false) | else-loop-start-test w ↦ absurd (omega arith) ] in
    let first = (rw (take_rest c.args.text.now c.loop-start.start) at c.first_kind-len.ensures.value) in
    sym c.loop-start.invariant.tokens
    ∙ tokens-token c.args.text.now c.loop-start.start c.first_kind-len.result.1 within no_blank
    (ap (λ (p : Symbol × ℕ). p.1) first) c.first_kind-len.ensures.some
    ∙ ap (λ s. record { place = c.loop-start.start; symbol = s } ∷ tokens_from 0 (c.loop-start.start + c.first_kind-len.result.1) (drop (c.loop-start.start + c.first_kind-len.result.1) c.args.text.now))
    (sym (ap (λ (p : Symbol × ℕ). p.0) first))
