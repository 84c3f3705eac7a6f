-- The test for a silent move says that the multisets of its states before and after it are the same.
use Rattle.std.proofs.Common.{◌≡◌, ◌⊎◌, inl, inr, ℕ, Bool, true, false, ◌&&◌, ◌||◌, refl, sym}
use Rattle.std.specs.Prelude.{◌==◌}
use Rattle.std.proofs.lemmas.Bool.{eq-eqb, eqb-true}
use Rattle.std.proofs.Math.Bool.{or-true}
use Rattle.pop_leaf.specs.declared.leaf.Move.{Move}
use Rattle.pop_leaf.specs.LeafModel.{one_at, same_pair, silent_move}
use Rattle.pop_leaf.specs.Reaction.{takes_states}
use Rattle.pop_leaf.proofs.Reactions.{and_left, and_right}

-- the same pair, in one order or the other
pub same_pair_cases : (x y u v : ℕ) → same_pair x y u v ≡ true → ((x ≡ u) × (y ≡ v)) ⊎ ((x ≡ v) × (y ≡ u))
same_pair_cases x y u v e = go ((x == u) && (y == v)) refl e
  where
    go : (b : Bool) → (x == u) && (y == v) ≡ b → b || (x == v) && (y == u) ≡ true → ((x ≡ u) × (y ≡ v)) ⊎ ((x ≡ v) × (y ≡ u))
    go true h e = inl (eqb-true x u (and_left _ _ h), eqb-true y v (and_right (x == u) _ h))
    go false h e = inr (eqb-true x v (and_left _ _ e), eqb-true y u (and_right (x == v) _ e))

pub same-self : (p q : ℕ) → same_pair p q p q ≡ true
same-self p q = rw (eq-eqb p p refl, eq-eqb q q refl) refl

pub same-other : (p q : ℕ) → same_pair p q q p ≡ true
same-other p q = rw (eq-eqb p p refl, eq-eqb q q refl) (or-true _)

-- a non-silent move takes the states that it names
pub takes-own : (t : Move) → silent_move t ≡ false → takes_states t.p t.q t ≡ true
takes-own t loud = rw (loud, same-self t.p t.q) refl

pub one_self : (x : ℕ) → one_at x x ≡ 1
one_self x = rw (eq-eqb x x refl) refl

-- a move that leaves both states unchanged is silent
pub stays-silent : (t : Move) → t.r ≡ t.p → t.s ≡ t.q → silent_move t ≡ true
stays-silent t e f = rw (eq-eqb t.p t.r (sym e), eq-eqb t.q t.s (sym f)) refl
