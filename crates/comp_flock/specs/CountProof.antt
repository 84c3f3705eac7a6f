-- CountProof: the trees and the whole proof for a built leaf with k + 2 states. The full one is state k + 1. The states
-- up to top hold powers of two, and those from top + 1 to k prefixes of t.
use Rattle.std.specs.Prelude.{ℕ, ◌+◌, ◌-◌, ◌==◌, nat_lt, if◌then◌else◌, Bool, true, false, not, List, [], ◌∷◌}
use Rattle.std.specs.Prelude.{◌++◌, map, length, ℤ, pos, neg_ℤ}
use Rattle.std.specs.List.{range_with_len}
use Rattle.pop_leaf.specs.LeafModel.{LeafModel}
use Rattle.cert_base.specs.declared.node.Node.{Node}
use Rattle.cert_base.specs.declared.node.Node.TheVariants.{Present, Twin, Open}
use Rattle.cert_base.specs.declared.proof.LeafProof.{LeafProof}
use Rattle.cert_base.specs.Rows.{zeros}
use Rattle.comp_trees.specs.LeaderTree.{weighed_node, mix_over, company_of, leader_nodes}
use Rattle.comp_counting.specs.FlockAtoms.{says_enough, enough_for, offset_pred_of}
use Rattle.comp_counting.specs.FullState.{flock_state_count, counting_layers, for_states, converted_mix, full_tree}
use Rattle.comp_flock.specs.CountLeaf.{worth_in, count_leaf}

-- ---- the nodes

-- what an agent in a state is worth at most: a full one no less than any coefficient
abbrev pub greatest_worth : ℕ → List ℕ → ℕ → ℕ → ℕ
greatest_worth most ws k q = if q == k + 1 then most else worth_in ws q

abbrev pub lost_worth : ℕ → List ℕ → ℕ → ℕ → ℤ
lost_worth most ws k q = neg_ℤ (pos (greatest_worth most ws k q))

-- the same, but nothing for the full one
abbrev pub lesser_worth : List ℕ → ℕ → ℕ → ℤ
lesser_worth ws k q = if q == k + 1 then pos 0 else pos (worth_in ws q)

-- whether an agent is worth less than what a prefix lacks to the next
abbrev pub is_low : List ℕ → ℕ → ℕ → Bool
is_low ws p q = nat_lt (worth_in ws p + worth_in ws q) (worth_in ws (p + 1))

abbrev pub kept_worth : List ℕ → ℕ → ℕ → ℤ
kept_worth ws p q = if is_low ws p q then pos (worth_in ws q) else pos 0

abbrev pub ruled_worth : ℕ → List ℕ → ℕ → ℕ → ℕ → ℤ
ruled_worth most ws k p q = if is_low ws p q then pos 0 else lost_worth most ws k q

abbrev pub own_worth : List ℕ → ℕ → ℤ
own_worth ws q = pos (worth_in ws q)

-- with a prefix, which is alone: only lesser powers are left, each at most once, so the next prefix isn't reached
abbrev pub with_mix : LeafModel → ℕ → List ℕ → ℕ → ℕ → ℕ → List ℤ
with_mix leaf most ws k top p =
    mix_over (for_states k (lost_worth most ws k)) (pos 0) (pos 1)
    (((pos 0 ∷ map (kept_worth ws p) (range_with_len 1 top)) ++ zeros (p - (top + 1)))
    ++ ((pos 0 ∷ map (ruled_worth most ws k p) (company_of leaf p)) ++ neg_ℤ (own_worth ws p) ∷ []))

-- with no prefix: the powers below 2^top, each at most once, add up to less than t
abbrev pub without_mix : ℕ → List ℕ → ℕ → ℕ → List ℤ
without_mix most ws k top =
    mix_over (for_states k (lost_worth most ws k)) (pos 0) (pos 1)
    ((neg_ℤ (pos most) ∷ map (own_worth ws) (range_with_len 1 top))
    ++ map (lost_worth most ws k) (range_with_len (top + 1) (k - top)))

-- the first full one takes t
abbrev pub first_mix : List ℕ → ℕ → ℕ → List ℤ
first_mix ws t k = mix_over (for_states k (lesser_worth ws k)) (pos 0) (pos 1) (pos t ∷ [])

-- ---- the trees: where there are enough, a full one is absent at the end, or present, and each prefix in turn is
-- present, or absent; where there aren't, a full one was made, or started so, or never occurred
abbrev pub prefix_nodes : LeafModel → ℕ → List ℕ → ℕ → ℕ → List Node
prefix_nodes leaf most ws k top =
    leader_nodes (λ p. weighed_node (with_mix leaf most ws k top p)) (weighed_node (without_mix most ws k top)) (top + 1)
    (k - top)

abbrev pub enough_tree : LeafModel → ℕ → List ℕ → ℕ → ℕ → List Node
enough_tree leaf most ws k top =
    (Open (flock_state_count k + 1) ∷ Present (k + 1) ∷ map Twin (range_with_len 1 top))
    ++ (prefix_nodes leaf most ws k top ++ weighed_node (converted_mix k) ∷ [])

abbrev pub too_few_tree : List ℕ → ℕ → ℕ → ℕ → List Node
too_few_tree ws t c k = full_tree c k (first_mix ws t k)

abbrev pub count_tree : Bool → LeafModel → ℕ → List ℕ → ℕ → ℕ → ℕ → ℕ → List Node
count_tree true leaf most ws t c k top = enough_tree leaf most ws k top
count_tree false leaf most ws t c k top = too_few_tree ws t c k

-- ---- the whole proof of the leaf

-- of a leaf that counts up to t, with any helpers
abbrev pub tree_for : List ℤ → ℤ → Bool → ℕ → ℕ → List ℕ → ℕ → ℕ → Bool → List Node
tree_for coefs bound keeps t most ws top k enough =
    count_tree enough (count_leaf coefs (says_enough bound) (enough_for bound) keeps t ws k []) most ws t
    (enough_for bound)
    k top

abbrev pub count_part : List ℤ → ℤ → Bool → ℕ → ℕ → List ℕ → ℕ → ℕ → LeafProof
count_part coefs bound keeps t most ws top k =
    record {
      pred = offset_pred_of coefs bound;
      layers = counting_layers (length (count_leaf coefs (says_enough bound) (enough_for bound) keeps t ws k []).moves) k;
      on_true = tree_for coefs bound keeps t most ws top k (says_enough bound);
      on_false = tree_for coefs bound keeps t most ws top k (not (says_enough bound));
    }
