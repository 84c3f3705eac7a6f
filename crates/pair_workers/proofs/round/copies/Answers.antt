use Rattle.std.proofs.Common.{◌≡◌, ℕ, List, [], ◌∷◌, ◌++◌, get_or, ap, sym, ◌∙◌, arith}
use Rattle.std.proofs.lemmas.List.{take_more}
use Rattle.pair_workers.proofs.round.copies.Goals as goal

pub pickers-preserved : goal.pickers-preserved
pickers-preserved c =
    let pickers = c.args.pickers.now in
    let at = c.pickers.picker-index in
    let picker = c.picker-item.result in
    let copies = c.pickers.copies.items in
    let pushed : c.push.new.self.items ≡ copies ++ c.in_ok-copy.field-0 ∷ [] = c.in_ok-push.ensures.items in
    record {
      items = pushed
          ∙ ap (λ (p : List ℕ). copies ++ p ∷ []) (c.in_ok-copy.ensures ∙ c.picker-item.is)
          ∙ ap (λ (l : List (List ℕ)). l ++ get_or pickers at picker ∷ []) c.pickers.invariant.items
          ∙ sym (take_more pickers at picker (omega arith));
    }
