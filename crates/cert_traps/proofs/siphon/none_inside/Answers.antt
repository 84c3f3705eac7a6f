use Rattle.std.proofs.Common.{◌≡◌, ◌∙◌, List, [], ◌∷◌, ◌++◌, ap}
use Rattle.cert_base.specs.declared.fact.Fact.{Fact}
use Rattle.cert_base.specs.declared.fact.Fact.TheVariants.{Eq}
use Rattle.cert_traps.proofs.siphon.none_inside.Goals as goal

-- what was added piece by piece
joined : (empty taken all xs : List Fact) (f g : Fact) → empty ≡ [] → taken ≡ empty ++ xs → all ≡ taken ++ f ∷ [] → f ≡ g → all ≡ xs ++ g ∷ []
joined empty taken all xs f g e h i j =
    i ∙ ap (λ facts. facts ++ f ∷ []) (h ∙ ap (λ facts. facts ++ xs) e) ∙ ap (λ fact. xs ++ fact ∷ []) j

pub returns : goal.returns
returns c =
    c.from_vec.ensures
    ∙ joined c.new-facts.result.items c.none_taken.new.facts.items c.push.new.self.items _ (Eq c.in_ok-count_in.field-0) _
    c.new-facts.ensures.items c.in_ok-none_taken.ensures c.in_ok-push.ensures.items (ap Eq c.in_ok-count_in.ensures.row)
