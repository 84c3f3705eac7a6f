-- A reaction of two tuples is one of the changes that a step allows.
use Rattle.std.proofs.Common.{◌≡◌, ◌≢◌, ◌⊎◌, inl, inr, ℕ, zero, suc, pred, Bool, true, false, not, ◌&&◌, ◌||◌, List, [], ◌∷◌, length, map, refl, ap, ◌∙◌}
use Rattle.std.specs.Prelude.{Option, Some, None, find, slice_get, ◌==◌}
use Rattle.pop_leaf.specs.declared.leaf.Move.{Move}
use Rattle.pop_leaf.specs.LeafModel.{LeafModel, silent_move, same_pair}
use Rattle.pop_leaf.specs.NetModel.{NetModel, Tuple, CrowdModel, IsTuple, state_of}
use Rattle.pop_leaf.specs.Step.{Follows, LeafChange, TupleChange, Step}
use Rattle.pop_leaf.specs.Reaction.{takes_states, after_move, by_move, leaf_reaction, reactions, reaction, after_meeting}
use Rattle.pop_leaf.proofs.Found.{find_some}
use Rattle.std.proofs.lemmas.Bool.{eqb-true, not-true}
use Rattle.std.proofs.lemmas.List.{length-map}
use Rattle.std.proofs.lemmas.Option.{get_or_from_slice_get, same_Some}

-- the two parts of a conjunction that holds
pub and_left : (a b : Bool) → a && b ≡ true → a ≡ true
and_left true b h = refl
and_left false b h = h

pub and_right : (a b : Bool) → a && b ≡ true → b ≡ true
and_right true b h = h
and_right false b h = cc

pub or_right : (a b : Bool) → a || b ≡ true → a ≡ false → b ≡ true
or_right true b h e = cc
or_right false b h e = h

followed_by : (x y : ℕ) (t : Move) (b : Bool) → (x == t.p) && (y == t.q) ≡ b → same_pair x y t.p t.q ≡ true → Follows t x y (after_move b t).0 (after_move b t).1 ⊎ Follows t y x (after_move b t).1 (after_move b t).0
followed_by x y t true e h = inl (eqb-true x t.p (and_left _ _ e), eqb-true y t.q (and_right _ _ e), refl, refl)
followed_by x y t false e h =
    let other = or_right _ _ h e in inr (eqb-true y t.p (and_right _ _ other), eqb-true x t.q (and_left _ _ other), refl, refl)

by_move_change : (leaf : LeafModel) (x y : ℕ) (found : Option Move) → find (takes_states x y) leaf.moves ≡ found → LeafChange leaf x y (by_move x y found).0 (by_move x y found).1
by_move_change leaf x y None e = inl (refl, refl)
by_move_change leaf x y (Some t) e =
    let s = find_some (takes_states x y) leaf.moves t e in
    inr
    (record {
      number = s.0;
      taken = t;
      listed = s.1;
      non_silent = not-true _ (and_left _ _ s.2);
      followed = followed_by x y t ((x == t.p) && (y == t.q)) refl (and_right (not (silent_move t)) _ s.2);
    })

-- a reaction in one leaf is a change of the leaf
pub leaf_reaction_change : (leaf : LeafModel) (x y : ℕ) → LeafChange leaf x y (leaf_reaction leaf x y).0 (leaf_reaction leaf x y).1
leaf_reaction_change leaf x y = by_move_change leaf x y (find (takes_states x y) leaf.moves) refl

-- the reactions are one pair of states per leaf
pub length-reactions : (leaves : List LeafModel) (x y : Tuple) → length x ≡ length leaves → length y ≡ length leaves → length (reactions leaves x y) ≡ length leaves
length-reactions [] x y hx hy = refl
length-reactions (leaf ∷ leaves) [] y hx hy = hx
length-reactions (leaf ∷ leaves) (p ∷ x) [] hx hy = hy
length-reactions (leaf ∷ leaves) (p ∷ x) (q ∷ y) hx hy = ap suc (length-reactions leaves x y (ap pred hx) (ap pred hy))

-- the reaction of leaf i is at place i
pub get-reactions : (leaves : List LeafModel) (x y : Tuple) (i : ℕ) (leaf : LeafModel) → length x ≡ length leaves → length y ≡ length leaves → slice_get leaves i ≡ Some leaf → slice_get (reactions leaves x y) i ≡ Some (leaf_reaction leaf (state_of x i) (state_of y i))
get-reactions [] x y i leaf hx hy h = cc
get-reactions (l ∷ leaves) [] y i leaf hx hy h = cc
get-reactions (l ∷ leaves) (p ∷ x) [] i leaf hx hy h = cc
get-reactions (l ∷ leaves) (p ∷ x) (q ∷ y) zero leaf hx hy h = cc
get-reactions (l ∷ leaves) (p ∷ x) (q ∷ y) (suc i) leaf hx hy h =
    get-reactions leaves x y i leaf (ap pred hx) (ap pred hy) h

-- the number at place i of a mapped list
pub state_of-map : {A : Type 0} (f : A → ℕ) (zs : List A) (i : ℕ) (z : A) → slice_get zs i ≡ Some z → state_of (map f zs) i ≡ f z
state_of-map f [] i z h = cc
state_of-map f (u ∷ zs) zero z h = ap f (same_Some u z h)
state_of-map f (u ∷ zs) (suc i) z h = state_of-map f zs i z h

-- a reaction of two tuples is a change of them
pub reaction_change : (net : NetModel) (x y : Tuple) → IsTuple net x → IsTuple net y → TupleChange net x y (reaction net x y).0 (reaction net x y).1
reaction_change net x y hx hy =
    record {
      first = length-map (reactions net.leaves x y) (λ z. z.0) ∙ length-reactions net.leaves x y hx hy;
      second = length-map (reactions net.leaves x y) (λ z. z.1) ∙ length-reactions net.leaves x y hx hy;
      each = λ i leaf h.
          let e = get-reactions net.leaves x y i leaf hx hy h in
          rw (state_of-map (λ z. z.0) (reactions net.leaves x y) i _ e, state_of-map (λ z. z.1) (reactions net.leaves x y) i _ e)
          (leaf_reaction_change leaf (state_of x i) (state_of y i));
    }

-- a reaction of two different agents is a step
pub reaction_step : (net : NetModel) (crowd : CrowdModel) (a b : ℕ) (x y : Tuple) → a ≢ b → slice_get crowd a ≡ Some x → slice_get crowd b ≡ Some y → IsTuple net x → IsTuple net y → Step net crowd (after_meeting net a b crowd)
reaction_step net crowd a b x y ne ha hb hx hy =
    let ea = get_or_from_slice_get crowd a x [] ha in
    let eb = get_or_from_slice_get crowd b y [] hb in
    record {
      a = a;
      b = b;
      different = ne;
      x = x;
      y = y;
      x' = (reaction net x y).0;
      y' = (reaction net x y).1;
      a_had = ha;
      b_had = hb;
      change = reaction_change net x y hx hy;
      others_stay = rw (ea, eb) refl;
    }
