-- Steps of the synchronous product: a reaction makes one, and each is a step of the net.
use Rattle.std.proofs.Common.{◌≡◌, ◌⊎◌, inl, inr, ℕ, zero, suc, Bool, true, false, not, cond, ◌&&◌, ◌==◌, List, [], ◌∷◌, refl, ap, sym, subst, ◌∙◌}
use Rattle.std.specs.Prelude.{Option, Some, None, find, slice_get}
use Rattle.std.proofs.lemmas.Bool.{eq-eqb, eqb-true, not-true}
use Rattle.std.proofs.lemmas.List.{length-map}
use Rattle.std.proofs.Math.Bool.{or-true}
use Rattle.pop_leaf.specs.declared.leaf.Move.{Move}
use Rattle.pop_leaf.specs.LeafModel.{LeafModel, silent_move, same_pair}
use Rattle.pop_leaf.specs.NetModel.{NetModel, Tuple, IsTuple, state_of}
use Rattle.pop_leaf.specs.Step.{Follows, LeafMove, LeafChange, TupleChange}
use Rattle.pop_leaf.specs.Reaction.{takes_states, after_move, by_move, leaf_reaction, reactions, reaction}
use Rattle.pop_leaf.proofs.Found.{find_some}
use Rattle.pop_leaf.proofs.Reactions.{and_left, and_right, or_right, length-reactions, get-reactions, state_of-map}
use Rattle.theory_fair.specs.Synchronous.{LeafReacts, AllReact}
use Rattle.theory_fair.specs.StablyComputes.{Reacts}
use Rattle.theory_fair.specs.Laws.{FairSynchronousStabilise, MapsAndMultisets}
use Rattle.theory_fair.proofs.Reached.{AreChanges, reacts_changes}
use Rattle.theory_fair.proofs.Stable.{fairly, maps_fairly}

followed_by : (x y : ℕ) (t : Move) (b : Bool) → (x == t.p) && (y == t.q) ≡ b → same_pair x y t.p t.q ≡ true → Follows t x y (after_move b t).0 (after_move b t).1 ⊎ Follows t y x (after_move b t).1 (after_move b t).0
followed_by x y t true e h =
    inl (eqb-true x t.p (and_left (x == t.p) (y == t.q) e), eqb-true y t.q (and_right (x == t.p) (y == t.q) e), refl, refl)
followed_by x y t false e h =
    let other = or_right ((x == t.p) && (y == t.q)) ((x == t.q) && (y == t.p)) h e in
    inr (eqb-true y t.p (and_right (x == t.q) (y == t.p) other), eqb-true x t.q (and_left (x == t.q) (y == t.p) other), refl, refl)

pub takes_followed : (x y x' y' : ℕ) (t : Move) → silent_move t ≡ false → Follows t x y x' y' ⊎ Follows t y x y' x' → takes_states x y t ≡ true
takes_followed x y x' y' t e (inl f) = rw (e, eq-eqb x t.p f.0, eq-eqb y t.q f.1) refl
takes_followed x y x' y' t e (inr f) = rw (e, eq-eqb x t.q f.1, eq-eqb y t.p f.0) (or-true ((x == t.p) && (y == t.q)))

pub none_found : {X : Type 0} (p : X → Bool) (ts : List X) (i : ℕ) (t : X) → find p ts ≡ None → slice_get ts i ≡ Some t → p t ≡ false
none_found p [] i t e h = cc
none_found p (u ∷ ts) zero t e h = let same : u ≡ t = cc in subst (λ v. p v ≡ false) same (by (p u) refl)
  where
    by : (b : Bool) → p u ≡ b → p u ≡ false
    by true f = let g : cond true (Some u) (find p ts) ≡ None = ap (λ b. cond b (Some u) (find p ts)) (sym f) ∙ e in cc
    by false f = f
none_found p (u ∷ ts) (suc i) t e h = none_found p ts i t (by (p u) refl) h
  where
    by : (b : Bool) → p u ≡ b → find p ts ≡ None
    by true f = let g : cond true (Some u) (find p ts) ≡ None = ap (λ b. cond b (Some u) (find p ts)) (sym f) ∙ e in cc
    by false f = ap (λ b. cond b (Some u) (find p ts)) (sym f) ∙ e

-- a move that is found for the states is one that changes them
pub found_move : (leaf : LeafModel) (x y : ℕ) (t : Move) → find (takes_states x y) leaf.moves ≡ Some t → LeafMove leaf x y (by_move x y (Some t)).0 (by_move x y (Some t)).1
found_move leaf x y t e =
    let s = find_some (takes_states x y) leaf.moves t e in
    record {
      number = s.0;
      taken = t;
      listed = s.1;
      non_silent = not-true (silent_move t) (and_left (not (silent_move t)) (same_pair x y t.p t.q) s.2);
      followed = followed_by x y t ((x == t.p) && (y == t.q)) refl (and_right (not (silent_move t)) (same_pair x y t.p t.q) s.2);
    }

pub no_move : (leaf : LeafModel) (x y : ℕ) → find (takes_states x y) leaf.moves ≡ None → (u v : ℕ) → ¬ LeafMove leaf x y u v
no_move leaf x y e u v m =
    let takes = takes_followed x y u v m.taken m.non_silent m.followed in
    let not_taken = none_found (takes_states x y) leaf.moves m.number m.taken e m.listed in
    absurd (let f : true ≡ false = sym takes ∙ not_taken in cc)

leaf_reacts : (leaf : LeafModel) (x y : ℕ) → LeafReacts leaf x y (leaf_reaction leaf x y).0 (leaf_reaction leaf x y).1
leaf_reacts leaf x y = by (find (takes_states x y) leaf.moves) refl
  where
    by : (found : Option Move) → find (takes_states x y) leaf.moves ≡ found → LeafReacts leaf x y (by_move x y found).0 (by_move x y found).1
    by None e = inr (refl, refl, no_move leaf x y e)
    by (Some t) e = inl (found_move leaf x y t e)

pub reaction_reacts : (net : NetModel) (x y : Tuple) → IsTuple net x → IsTuple net y → AllReact net x y (reaction net x y).0 (reaction net x y).1
reaction_reacts net x y hx hy =
    record {
      first = length-map (reactions net.leaves x y) (λ z. z.0) ∙ length-reactions net.leaves x y hx hy;
      second = length-map (reactions net.leaves x y) (λ z. z.1) ∙ length-reactions net.leaves x y hx hy;
      each = λ i leaf h.
          let e = get-reactions net.leaves x y i leaf hx hy h in
          rw (state_of-map (λ z. z.0) (reactions net.leaves x y) i _ e, state_of-map (λ z. z.1) (reactions net.leaves x y) i _ e)
          (leaf_reacts leaf (state_of x i) (state_of y i));
    }

pub react_changes : (net : NetModel) → AreChanges net (AllReact net)
react_changes net x y x' y' hx hy c =
    record {
      first = c.first;
      second = c.second;
      each = λ i leaf h. change leaf (state_of x i) (state_of y i) (state_of x' i) (state_of y' i) (c.each i leaf h);
    }
  where
    change : (leaf : LeafModel) (x y x' y' : ℕ) → LeafReacts leaf x y x' y' → LeafChange leaf x y x' y'
    change leaf x y x' y' (inl move) = inr move
    change leaf x y x' y' (inr stay) = inl (stay.0, stay.1)

pub synchronous_compute : FairSynchronousStabilise
synchronous_compute net tree ends = fairly net tree (AllReact net) (react_changes net) ends

pub maps_are_fair : MapsAndMultisets
maps_are_fair = record {
  steps = λ net tree ends. maps_fairly net tree (TupleChange net) (λ x y x' y' hx hy c. c) ends;
  meetings = λ net tree ends. maps_fairly net tree (Reacts net) (reacts_changes net) ends;
  synchronous = λ net tree ends. maps_fairly net tree (AllReact net) (react_changes net) ends;
}
