use Rattle.std.proofs.Common.{ℕ, length, map, rules, sym, ap, ◌∙◌}
use Rattle.std.proofs.lemmas.List.{length-map}
use Rattle.pop_net.specs.declared.net.Word.{Word}
use Rattle.agent_field.specs.Standing.{founder}
use Rattle.agent_field.specs.Steps.{Mine}
use Rattle.agent_field.proofs.InTurns.{length-opening}
use Rattle.agent_field.proofs.Moves.{founds}
use Rattle.agent_field.proofs.field.Field.open_on.Goals as goal

pub swap-requires : goal.swap-requires
swap-requires g c =
    let made = c.in_ok-table.ensures in
    (search rules, search rules, founds c.in_ok-table.table.shared.key _ _ _ (ap (λ (m : Mine). m.0) made.4 ∙ ap founder (sym made.5)))

pub invariant_of-field-clause-words_are : goal.invariant_of-field-clause-words_are
invariant_of-field-clause-words_are g c =
    let words = c.as_slice-2.result.now in
    c.in_ok-table.ensures.0
    ∙ ap (length {A = ℕ}) (c.as_slice-3.ensures.value ∙ c.in_ok-lay.ensures)
    ∙ length-opening (map (λ (w : Word). w.0) words) c.args.shards (length c.as_slice.result.now)
    (length-map words (λ (w : Word). w.0) ∙ ap (length {A = Word}) (c.as_slice-2.ensures ∙ sym c.as_slice.ensures))
