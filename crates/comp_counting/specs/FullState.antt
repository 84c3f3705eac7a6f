-- FullState: what the leaves of flocks share, which have k + 2 states: the full state k + 1, where agents start, the
-- layer, and the nodes that rest on the full state.
use Rattle.std.specs.Prelude.{ℕ, ◌+◌, Bool, true, false, not, ◌==◌, nat_le, if◌then◌else◌, List, [], ◌++◌, map}
use Rattle.std.specs.Prelude.{replicate, ℤ, pos, negsuc, Option, Some, None, nat_abs, ◌∷◌}
use Rattle.std.specs.List.{range_with_len}
use Rattle.pop_leaf.specs.declared.leaf.Move.{Move}
use Rattle.comp_trees.specs.Bits.{power_in}
use Rattle.comp_counting.specs.declared.limits.TheConstants.{POWER_LIMIT}
use Rattle.cert_base.specs.declared.layer.Layer.{Layer}
use Rattle.cert_base.specs.declared.node.Node.{Node}
use Rattle.cert_base.specs.declared.node.Node.TheVariants.{Siphon, Open}
use Rattle.cert_base.specs.Rows.{zeros}
use Rattle.comp_trees.specs.LeaderTree.{weighed_node, mix_over}

-- ---- states and moves

-- a full agent converts another
abbrev pub conversion_move : ℕ → ℕ → Move
conversion_move k q = record { p = k + 1; q = q; r = k + 1; s = k + 1 }

-- the state that stands for n
abbrev pub place_of : Option ℕ → ℕ
place_of None = 0
place_of (Some i) = i + 1

-- an agent that is enough starts in 2^k, any other where it counts for what its state stands for
abbrev pub flock_start : ℕ → ℕ → ℤ → ℕ
flock_start c k a = if nat_le c (nat_abs a) then k + 1 else place_of (power_in POWER_LIMIT (nat_abs a))

abbrev pub flock_state_count : ℕ → ℕ
flock_state_count k = k + 2

-- 2^k alone says that there are enough
abbrev pub flock_output : Bool → ℕ → ℕ → Bool
flock_output true k q = q == k + 1
flock_output false k q = not (q == k + 1)

-- ---- the layer

abbrev pub flock_weight : ℕ → ℕ → ℤ
flock_weight k q = if q == 0 then pos 1 else (if q == k + 1 then pos 0 else pos 2)

-- this many moves, in one layer
abbrev pub counting_layers : ℕ → ℕ → List Layer
counting_layers count k =
    record {
      moves = range_with_len 0 count;
      weights = map (flock_weight k) (range_with_len 0 (flock_state_count k));
    } ∷ []

-- ---- the nodes

abbrev pub for_states : ℕ → (ℕ → ℤ) → List ℤ
for_states k value = map value (range_with_len 0 (flock_state_count k))

-- at the end there is no state but 2^k
abbrev pub converted_mix : ℕ → List ℤ
converted_mix k = mix_over (zeros (flock_state_count k)) (pos 1) (pos 0) (pos 0 ∷ replicate (k + 1) (negsuc 0))

-- an agent that starts as 2^k is enough
abbrev pub start_mix : ℕ → ℕ → List ℤ
start_mix c k = mix_over (zeros (flock_state_count k)) (pos 0) (pos 1) (pos c ∷ [])

-- 2^k never occurred, so no output is true
abbrev pub never_mix : ℕ → List ℤ
never_mix k = mix_over (zeros (flock_state_count k)) (pos 1) (pos 0) (zeros (k + 1) ++ negsuc 0 ∷ [])

-- the tree where there are too few, by the node of the first agent in state k + 1
abbrev pub full_tree : ℕ → ℕ → List ℤ → List Node
full_tree c k first =
    Open (flock_state_count k + 1) ∷ Siphon ((k + 1) ∷ []) ∷ weighed_node first ∷ weighed_node (start_mix c k)
    ∷ weighed_node (never_mix k) ∷ []

-- ---- the bound

-- how many steps per agent the proof allows; without a doubling one is enough
abbrev pub flock_steps : ℕ
flock_steps = 2

abbrev pub offset_steps : ℕ → ℕ
offset_steps k = if k == 0 then 1 else flock_steps
