-- Pairs of words whose reaction changes nothing.
use Rattle.std.proofs.Common.{◌≡◌, ℕ, pred, Bool, true, false, not, ◌&&◌, ◌||◌, List, [], ◌∷◌, length, map, refl, ap, sym, ◌∙◌}
use Rattle.std.specs.Prelude.{Option, Some, None, find, is_none, ◌==◌}
use Rattle.std.proofs.lemmas.Bool.{and_parts, and_from, not-true, false≢true, eqb-true, eq-eqb}
use Rattle.std.proofs.Math.Bool.{or_comm, and_comm}
use Rattle.pop_leaf.specs.declared.leaf.Move.{Move}
use Rattle.pop_leaf.specs.LeafModel.{LeafModel, silent_move, same_pair}
use Rattle.pop_leaf.specs.NetModel.{Tuple}
use Rattle.pop_leaf.specs.Reaction.{takes_states, after_move, by_move, leaf_reaction, reactions}
use Rattle.pop_leaf.proofs.Found.{find_some}
use Rattle.pop_leaf.proofs.Quiet.{leaf_quiet, leaves_quiet}
use Rattle.base_laws.proofs.Lists.{heads, tails}

-- a non-silent move changes the states that take it
after_itself : (t : Move) (x y : ℕ) (b : Bool) → (x == t.p) && (y == t.q) ≡ b → same_pair x y t.p t.q ≡ true → (after_move b t).0 ≡ x → (after_move b t).1 ≡ y → silent_move t ≡ true
after_itself t x y true e s h k =
    let parts = and_parts (x == t.p) (y == t.q) e in
    let first : t.p ≡ t.r = sym (eqb-true x t.p parts.0) ∙ sym h in
    let second : t.q ≡ t.s = sym (eqb-true y t.q parts.1) ∙ sym k in
    rw (eq-eqb t.p t.r first, eq-eqb t.q t.s second) refl
after_itself t x y false e s h k =
    let other : (x == t.q) && (y == t.p) ≡ true = ap (λ b. b || (x == t.q) && (y == t.p)) (sym e) ∙ s in
    let parts = and_parts (x == t.q) (y == t.p) other in
    let first : t.p ≡ t.r = sym (eqb-true y t.p parts.1) ∙ sym k in
    let second : t.q ≡ t.s = sym (eqb-true x t.q parts.0) ∙ sym h in
    rw (eq-eqb t.p t.r first, eq-eqb t.q t.s second) refl

quiet_leaf : (leaf : LeafModel) (x y : ℕ) (found : Option Move) → find (takes_states x y) leaf.moves ≡ found → (by_move x y found).0 ≡ x → (by_move x y found).1 ≡ y → is_none found ≡ true
quiet_leaf leaf x y None e h k = refl
quiet_leaf leaf x y (Some t) e h k =
    let s = find_some (takes_states x y) leaf.moves t e in
    let parts = and_parts (not (silent_move t)) (same_pair x y t.p t.q) s.2 in
    let silent = after_itself t x y ((x == t.p) && (y == t.q)) refl parts.1 h k in
    absurd (false≢true (sym (not-true _ parts.0) ∙ silent))

-- if a reaction changes nothing, no leaf has a move for the two tuples
pub quiet_leaves : (leaves : List LeafModel) (x y : Tuple) → length x ≡ length leaves → length y ≡ length leaves → map (λ z. z.0) (reactions leaves x y) ≡ x → map (λ z. z.1) (reactions leaves x y) ≡ y → leaves_quiet leaves x y ≡ true
quiet_leaves [] x y hx hy e f = refl
quiet_leaves (leaf ∷ leaves) [] y hx hy e f = refl
quiet_leaves (leaf ∷ leaves) (p ∷ x) [] hx hy e f = refl
quiet_leaves (leaf ∷ leaves) (p ∷ x) (q ∷ y) hx hy e f =
    and_from _ _
    (quiet_leaf leaf p q (find (takes_states p q) leaf.moves) refl (heads (leaf_reaction leaf p q).0 p _ x e) (heads (leaf_reaction leaf p q).1 q _ y f))
    (quiet_leaves leaves x y (ap pred hx) (ap pred hy) (tails (leaf_reaction leaf p q).0 p _ x e) (tails (leaf_reaction leaf p q).1 q _ y f))

takes_turned : (x y : ℕ) (t : Move) → takes_states x y t ≡ takes_states y x t
takes_turned x y t =
    ap (λ b. not (silent_move t) && b)
    (or_comm ((x == t.p) && (y == t.q)) ((x == t.q) && (y == t.p)) ∙ ap (λ b. b || (x == t.p) && (y == t.q)) (and_comm (x == t.q) (y == t.p)) ∙ ap (λ b. (y == t.p) && (x == t.q) || b) (and_comm (x == t.p) (y == t.q)))

leaf_turned : (leaf : LeafModel) (x y : ℕ) → leaf_quiet leaf x y ≡ leaf_quiet leaf y x
leaf_turned leaf x y = ap (λ p. is_none (find p leaf.moves)) (λ i t. takes_turned x y t i)

-- it does not matter which of the two comes first
pub quiet_turned : (leaves : List LeafModel) (x y : Tuple) → leaves_quiet leaves x y ≡ true → leaves_quiet leaves y x ≡ true
quiet_turned [] x y h = refl
quiet_turned (leaf ∷ leaves) [] [] h = refl
quiet_turned (leaf ∷ leaves) [] (q ∷ y) h = refl
quiet_turned (leaf ∷ leaves) (p ∷ x) [] h = refl
quiet_turned (leaf ∷ leaves) (p ∷ x) (q ∷ y) h =
    let parts = and_parts (leaf_quiet leaf p q) (leaves_quiet leaves x y) h in
    and_from _ _ (sym (leaf_turned leaf p q) ∙ parts.0) (quiet_turned leaves x y parts.1)
