-- A reaction of states of a leaf gives states of the leaf, and a reaction of valid tuples gives valid tuples.
use Rattle.std.proofs.Common.{◌≡◌, ℕ, ◌<◌, Bool, true, false, List, length, refl, arith}
use Rattle.std.specs.Prelude.{Option, Some, None, All, find, ◌==◌, ◌&&◌, slice_get}
use Rattle.pop_leaf.specs.declared.leaf.Move.{Move}
use Rattle.pop_leaf.specs.LeafModel.{LeafModel, IsLeaf, IsMoveBelow}
use Rattle.pop_leaf.specs.NetModel.{NetModel, Tuple, IsTuple, HasStates, state_of}
use Rattle.pop_leaf.specs.Reaction.{takes_states, after_move, by_move, leaf_reaction, reactions, reaction}
use Rattle.pop_leaf.proofs.Found.{find_some}
use Rattle.pop_leaf.proofs.Quiet.{All-slice_get}
use Rattle.pop_leaf.proofs.Reactions.{get-reactions, state_of-map}
use Rattle.pop_leaf.specs.declared.limits.TheConstants.{STATE_LIMIT}

after_within : (n : ℕ) (t : Move) (b : Bool) → IsMoveBelow n t → ((after_move b t).0 < n) × ((after_move b t).1 < n)
after_within n t true h = (h.2, h.3)
after_within n t false h = (h.3, h.2)

by_move_within : (n x y : ℕ) (moves : List Move) (found : Option Move) → find (takes_states x y) moves ≡ found → All (IsMoveBelow n) moves → x < n → y < n → ((by_move x y found).0 < n) × ((by_move x y found).1 < n)
by_move_within n x y moves None e h hx hy = (hx, hy)
by_move_within n x y moves (Some t) e h hx hy =
    let s = find_some (takes_states x y) moves t e in
    after_within n t ((x == t.p) && (y == t.q)) (All-slice_get (IsMoveBelow n) moves s.0 t h s.1)

pub reaction_within : (leaf : LeafModel) (x y : ℕ) → IsLeaf leaf → x < length leaf.states → y < length leaf.states → ((leaf_reaction leaf x y).0 < length leaf.states) × ((leaf_reaction leaf x y).1 < length leaf.states)
reaction_within leaf x y h hx hy = by_move_within (length leaf.states) x y leaf.moves (find (takes_states x y) leaf.moves) refl h.moves hx hy

-- the states of a move are below the greatest number that a leaf may have
pub move_small : (leaf : LeafModel) (t : ℕ) (taken : Move) → IsLeaf leaf → slice_get leaf.moves t ≡ Some taken → IsMoveBelow STATE_LIMIT taken
move_small leaf t taken is h =
    let below = All-slice_get (IsMoveBelow (length leaf.states)) leaf.moves t taken is.moves h in
    let few = is.states in
    (omega (arith, few, below.0), omega (arith, few, below.1), omega (arith, few, below.2), omega (arith, few, below.3))

-- a reaction of tuples whose states are those of the leaves
pub reaction_states : (net : NetModel) (x y : Tuple) → All IsLeaf net.leaves → IsTuple net x → IsTuple net y → HasStates net x → HasStates net y → HasStates net (reaction net x y).0 × HasStates net (reaction net x y).1
reaction_states net x y leaves tx ty hx hy = (first, second)
  where
    first : HasStates net (reaction net x y).0
    first i leaf h =
        let r = reaction_within leaf (state_of x i) (state_of y i) (All-slice_get IsLeaf net.leaves i leaf leaves h) (hx i leaf h) (hy i leaf h) in
        rw (state_of-map (λ z. z.0) (reactions net.leaves x y) i _ (get-reactions net.leaves x y i leaf tx ty h)) r.0

    second : HasStates net (reaction net x y).1
    second i leaf h =
        let r = reaction_within leaf (state_of x i) (state_of y i) (All-slice_get IsLeaf net.leaves i leaf leaves h) (hx i leaf h) (hy i leaf h) in
        rw (state_of-map (λ z. z.1) (reactions net.leaves x y) i _ (get-reactions net.leaves x y i leaf tx ty h)) r.1
