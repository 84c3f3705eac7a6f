-- Reaction: what a meeting makes of two tuples in a run. Each leaf takes the first non-silent move that matches.
use Rattle.std.specs.Prelude.{◌≡◌, ℕ, Bool, true, false, not, ◌&&◌, ◌==◌, List, [], ◌∷◌, Option}
use Rattle.std.specs.Prelude.{Some, None, find, map, slice_set, slice_index_or, All, AllPairs}
use Rattle.pop_leaf.specs.declared.leaf.Move.{Move}
use Rattle.pop_leaf.specs.LeafModel.{LeafModel, same_pair, silent_move}
use Rattle.pop_leaf.specs.NetModel.{NetModel, Tuple, CrowdModel}

-- whether a move is non-silent and takes x and y, in one order or the other
abbrev pub takes_states : ℕ → ℕ → Move → Bool
takes_states x y t = not (silent_move t) && same_pair x y t.p t.q

-- the states after a move, with the agents in the move's order or the other way round
abbrev pub after_move : Bool → Move → ℕ × ℕ
after_move true t = (t.r, t.s)
after_move false t = (t.s, t.r)

-- what the move that was found makes of x and y; the first way is taken if both ways match
abbrev pub by_move : ℕ → ℕ → Option Move → ℕ × ℕ
by_move x y None = (x, y)
by_move x y (Some t) = after_move ((x == t.p) && (y == t.q)) t

-- the states after a reaction in one leaf
abbrev pub leaf_reaction : LeafModel → ℕ → ℕ → ℕ × ℕ
leaf_reaction leaf x y = by_move x y (find (takes_states x y) leaf.moves)

-- the tuples after a reaction: each leaf reacts by itself
abbrev pub reactions : List LeafModel → Tuple → Tuple → List (ℕ × ℕ)
reactions [] x y = []
reactions (leaf ∷ leaves) [] y = []
reactions (leaf ∷ leaves) (p ∷ x) [] = []
reactions (leaf ∷ leaves) (p ∷ x) (q ∷ y) = leaf_reaction leaf p q ∷ reactions leaves x y

abbrev pub reaction : NetModel → Tuple → Tuple → Tuple × Tuple
reaction net x y = (map (λ z. z.0) (reactions net.leaves x y), map (λ z. z.1) (reactions net.leaves x y))

-- two non-silent moves have different states before them
abbrev pub Differ : Move → Move → Type 0
Differ t u = silent_move t ≡ false → silent_move u ≡ false → same_pair t.p t.q u.p u.q ≡ false

-- no leaf has two non-silent moves with the same states before them
abbrev pub IsSingle : NetModel → Type 0
IsSingle net = All (λ leaf. AllPairs Differ leaf.moves) net.leaves

-- the crowd after agents a and b react
abbrev pub after_meeting : NetModel → ℕ → ℕ → CrowdModel → CrowdModel
after_meeting net a b crowd =
    let both = reaction net (slice_index_or crowd a []) (slice_index_or crowd b []) in
    slice_set (slice_set crowd a both.0) b both.1
