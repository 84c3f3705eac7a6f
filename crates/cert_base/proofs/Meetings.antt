-- Two states can meet exactly when a reaction changes them.
use Rattle.std.proofs.Common.{◌≡◌, ℕ, Bool, true, false, cond, List, [], ◌∷◌, refl, sym, ◌∙◌}
use Rattle.std.specs.Prelude.{Some, None, Option, find, is_some, not, ◌&&◌, ◌||◌, ◌==◌}
use Rattle.std.specs.List.{list_any}
use Rattle.std.proofs.lemmas.Bool.{eq-eqb, eqb-true, not-true}
use Rattle.pop_leaf.specs.declared.leaf.Move.{Move}
use Rattle.pop_leaf.specs.LeafModel.{LeafModel, silent_move, same_pair}
use Rattle.pop_leaf.specs.Reaction.{takes_states, after_move, by_move, leaf_reaction}
use Rattle.pop_leaf.proofs.Found.{find_some}
use Rattle.pop_leaf.proofs.Reactions.{and_left, and_right, or_right}
use Rattle.cert_base.specs.FactsAndCases.{can_meet_in}
use Rattle.pop_leaf.proofs.Silent.{stays-silent}

any-find : (test : Move → Bool) (moves : List Move) → list_any test moves ≡ is_some (find test moves)
any-find test [] = refl
any-find test (t ∷ moves) = go (test t) (any-find test moves)
  where
    go : (b : Bool) → list_any test moves ≡ is_some (find test moves) → (b || list_any test moves) ≡ is_some (cond b (Some t) (find test moves))
    go true e = refl
    go false e = e

changed : (x y p q : ℕ) → ((x ≡ p) → (y ≡ q) → ⊥) → (not (x == p) || not (y == q)) ≡ true
changed x y p q h = go (x == p) (y == q) refl refl
  where
    go : (c d : Bool) → (x == p) ≡ c → (y == q) ≡ d → (not c || not d) ≡ true
    go true true e f = absurd (h (eqb-true x p e) (eqb-true y q f))
    go true false e f = refl
    go false d e f = refl

loud-contradicts : (t : Move) → silent_move t ≡ true → silent_move t ≡ false → ⊥
loud-contradicts t e f = absurd (let g : true ≡ false = sym e ∙ f in cc)

after-changes : (p q : ℕ) (t : Move) (b : Bool) → ((p == t.p) && (q == t.q)) ≡ b → takes_states p q t ≡ true → (not ((after_move b t).0 == p) || not ((after_move b t).1 == q)) ≡ true
after-changes p q t true e h =
    let loud = not-true (silent_move t) (and_left (not (silent_move t)) (same_pair p q t.p t.q) h) in
    let first = eqb-true p t.p (and_left (p == t.p) (q == t.q) e) in
    let second = eqb-true q t.q (and_right (p == t.p) (q == t.q) e) in
    changed t.r t.s p q (λ f g. loud-contradicts t (stays-silent t (f ∙ first) (g ∙ second)) loud)
after-changes p q t false e h =
    let loud = not-true (silent_move t) (and_left (not (silent_move t)) (same_pair p q t.p t.q) h) in
    let other = or_right ((p == t.p) && (q == t.q)) ((p == t.q) && (q == t.p)) (and_right (not (silent_move t)) (same_pair p q t.p t.q) h) e in
    let first = eqb-true p t.q (and_left (p == t.q) (q == t.p) other) in
    let second = eqb-true q t.p (and_right (p == t.q) (q == t.p) other) in
    changed t.s t.r p q (λ f g. loud-contradicts t (stays-silent t (g ∙ second) (f ∙ first)) loud)

found-changes : (p q : ℕ) (moves : List Move) (found : Option Move) → find (takes_states p q) moves ≡ found → is_some found ≡ (not ((by_move p q found).0 == p) || not ((by_move p q found).1 == q))
found-changes p q moves None e =
    let a = eq-eqb p p refl in let b = eq-eqb q q refl in rw (a, b) refl
found-changes p q moves (Some t) e =
    sym (after-changes p q t ((p == t.p) && (q == t.q)) refl (find_some (takes_states p q) moves t e).2)

pub meet-react : (leaf : LeafModel) (p q : ℕ) → can_meet_in leaf p q ≡ (not ((leaf_reaction leaf p q).0 == p) || not ((leaf_reaction leaf p q).1 == q))
meet-react leaf p q =
    any-find (takes_states p q) leaf.moves ∙ found-changes p q leaf.moves (find (takes_states p q) leaf.moves) refl
