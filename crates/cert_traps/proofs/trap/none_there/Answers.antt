use Rattle.std.proofs.Common.{◌≡◌, ◌∙◌, List, [], ◌∷◌, ◌++◌, append_assoc, ap}
use Rattle.cert_base.specs.declared.fact.Fact.{Fact}
use Rattle.cert_base.specs.declared.fact.Fact.TheVariants.{Eq}
use Rattle.cert_traps.proofs.trap.none_there.Goals as goal

-- what was added piece by piece
joined : (start taken started counted all xs ys zs : List Fact) (f g : Fact) → taken ≡ start ++ xs → started ≡ taken ++ ys → counted ≡ started ++ f ∷ [] → all ≡ counted ++ zs → f ≡ g → all ≡ start ++ xs ++ ys ++ g ∷ zs
joined start taken started counted all xs ys zs f g h i j k l =
    k
    ∙ ap (λ facts. facts ++ zs) (j ∙ ap (λ facts. facts ++ f ∷ []) (i ∙ ap (λ facts. facts ++ ys) h))
    ∙ append_assoc (start ++ xs ++ ys) (f ∷ []) zs
    ∙ ap (λ fact. start ++ xs ++ ys ++ fact ∷ zs) l

pub returns : goal.returns
returns c =
    joined c.args.facts.now.items c.none_taken.new.facts.items c.none_started.new.facts.items c.push.new.self.items c.none_helps.new.facts.items _ _ _ (Eq c.in_ok-count_in.field-0) _
    c.in_ok-none_taken.ensures c.in_ok-none_started.ensures c.in_ok-push.ensures.items c.in_ok-none_helps.ensures (ap Eq c.in_ok-count_in.ensures.row)
