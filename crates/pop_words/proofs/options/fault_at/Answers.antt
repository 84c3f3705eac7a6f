use Rattle.std.proofs.Common.{◌≡◌, ℕ, ◌%◌, List, [], take, slice_index_or, map, refl, ◌∙◌}
use Rattle.std.proofs.lemmas.Bool.{eq-eqb}
use Rattle.std.proofs.lemmas.List.{get_or-map, take-map}
use Rattle.run_spec.specs.declared.kind.RunKind.{RunKind}
use Rattle.pop_words.specs.Options.{name_fault, word_fault}
use Rattle.pop_words.proofs.options.fault_at.Goals as goal

even : (kind : RunKind) (words : List (List ℕ)) (at : ℕ) → at % 2 ≡ 0 → name_fault (take at words) (slice_index_or words at []) ≡ word_fault kind words at
even kind words at is = rw (eq-eqb (at % 2) 0 is) refl

same : (before before' : List (List ℕ)) (word word' : List ℕ) → before' ≡ before → word' ≡ word → name_fault before word ≡ name_fault before' word'
same before before' word word' e f = rw (e, f) refl

pub returns-then-at-eq0 : goal.returns-then-at-eq0
returns-then-at-eq0 c =
    c.fault_of_name.ensures
    ∙ same _ _ _ _ (take-map (λ w. w.now) c.args.at c.args.words.now) (get_or-map (λ w. w.now) c.args.words.now c.args.at _ [] c.requires)
    ∙ even c.args.kind (map (λ w. w.now) c.args.words.now) c.args.at c.if-at-eq0.true
