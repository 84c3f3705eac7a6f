use Rattle.std.proofs.Common.{◌≡◌, ℕ, List, [], ◌∷◌, ◌++◌, Option, None, map, get_or, unwrap_or, ap, sym, ◌∙◌, arith}
use Rattle.std.proofs.lemmas.List.{map_more, take_all}
use Rattle.pop_words.proofs.counts.totals_of.Goals as goal

pub loop-count-preserved : goal.loop-count-preserved
loop-count-preserved c =
    let found = c.args.found.now in
    let k = c.loop-count.count-index in
    let here : c.unwrap_or.result ≡ unwrap_or (get_or found k None) 0 = c.unwrap_or.ensures in
    let pushed : c.push.new.self.items ≡ c.loop-count.counts.items ++ c.unwrap_or.result ∷ [] = c.in_ok-push.ensures.items in
    pushed
    ∙ ap (λ (n : ℕ). c.loop-count.counts.items ++ n ∷ []) here
    ∙ ap (λ (l : List ℕ). l ++ unwrap_or (get_or found k None) 0 ∷ []) c.loop-count.invariant
    ∙ sym (map_more (λ (o : Option ℕ). unwrap_or o 0) found k None (omega arith))

pub returns : goal.returns
returns c =
    let found = c.args.found.now in
    c.from_vec.ensures
    ∙ c.loop-count.invariant
    ∙ ap (map (λ (o : Option ℕ). unwrap_or o 0)) (take_all c.loop-count.count-index found (omega (arith, c.loop-count-test.false)))
