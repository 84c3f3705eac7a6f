-- In a reachable crowd each agent has a state of the leaf.
use Rattle.std.proofs.Common.{◌≡◌, ◌⊎◌, inl, inr, ℕ, ◌+◌, ◌<◌, ◌≤◌, List, [], ◌∷◌, length, replicate, sym, subst, arith}
use Rattle.std.specs.Prelude.{slice_set, slice_index}
use Rattle.std.proofs.lemmas.List.Elements.{All-nil, All-set, All-append, All-replicate, All-get_or}
use Rattle.pop_leaf.specs.declared.leaf.Move.{Move}
use Rattle.pop_leaf.specs.LeafModel.{LeafModel, IsLeaf, IsMoveBelow}
use Rattle.pop_leaf.specs.InputCrowd.{starts_from, leaf_input_crowd}
use Rattle.pop_leaf.specs.Step.{Follows, LeafChange, LeafStep}
use Rattle.pop_leaf.specs.Reachable.{Leads}
use Rattle.pop_leaf.proofs.Quiet.{All-slice_get}
use Rattle.cert_base.proofs.Agents.{InRange}

followed_in_range : (n : ℕ) (t : Move) (x y x' y' : ℕ) → IsMoveBelow n t → Follows t x y x' y' ⊎ Follows t y x y' x' → (x' < n) × (y' < n)
followed_in_range n t x y x' y' b (inl f) = (rw f.2 b.2, rw f.3 b.3)
followed_in_range n t x y x' y' b (inr f) = (rw f.3 b.3, rw f.2 b.2)

change_in_range : (leaf : LeafModel) (x y x' y' : ℕ) → IsLeaf leaf → x < length leaf.states → y < length leaf.states → LeafChange leaf x y x' y' → (x' < length leaf.states) × (y' < length leaf.states)
change_in_range leaf x y x' y' is lx ly (inl stay) = (rw stay.0 lx, rw stay.1 ly)
change_in_range leaf x y x' y' is lx ly (inr m) =
    followed_in_range (length leaf.states) m.taken x y x' y' (All-slice_get (IsMoveBelow (length leaf.states)) leaf.moves m.number m.taken is.moves m.listed) m.followed

step_in_range : (leaf : LeafModel) (before after : List ℕ) → IsLeaf leaf → LeafStep leaf before after → InRange leaf before → InRange leaf after
step_in_range leaf before after is s range =
    let lx = All-slice_get (λ (q : ℕ). q < length leaf.states) before s.a s.x range s.a_had in
    let ly = All-slice_get (λ (q : ℕ). q < length leaf.states) before s.b s.y range s.b_had in
    let c = change_in_range leaf s.x s.y s.x' s.y' is lx ly s.change in
    rw s.others_stay
    (All-set (λ (q : ℕ). q < length leaf.states) (slice_set before s.a s.x') s.b s.y' c.1 (All-set (λ (q : ℕ). q < length leaf.states) before s.a s.x' c.0 range))

pub leads_in_range : (leaf : LeafModel) → IsLeaf leaf → (before : List ℕ) (path : List (List ℕ)) (after : List ℕ) → Leads (LeafStep leaf) before path after → InRange leaf before → InRange leaf after
leads_in_range leaf is before [] after way range = subst (λ (c : List ℕ). InRange leaf c) (sym way) range
leads_in_range leaf is before (next ∷ path) after way range =
    leads_in_range leaf is next path after way.1 (step_in_range leaf before next is way.0 range)

starts_in_range : (leaf : LeafModel) → IsLeaf leaf → (k : ℕ) (counts : List ℕ) → k + length counts ≤ length leaf.inputs → InRange leaf (starts_from (λ variable. slice_index leaf.inputs variable) k counts)
starts_in_range leaf is k [] l = All-nil (λ (q : ℕ). q < length leaf.states)
starts_in_range leaf is k (n ∷ counts) l =
    All-append (λ (q : ℕ). q < length leaf.states) (replicate n (slice_index leaf.inputs k)) (starts_from (λ variable. slice_index leaf.inputs variable) (k + 1) counts)
    (All-replicate (λ (q : ℕ). q < length leaf.states) n (slice_index leaf.inputs k) (All-get_or (λ (q : ℕ). q < length leaf.states) leaf.inputs k 0 (omega arith) is.inputs))
    (starts_in_range leaf is (k + 1) counts (omega arith))

pub input_in_range : (leaf : LeafModel) → IsLeaf leaf → (counts : List ℕ) → length counts ≡ length leaf.inputs → InRange leaf (leaf_input_crowd leaf counts)
input_in_range leaf is counts long =
    All-append (λ (q : ℕ). q < length leaf.states) (starts_from (λ variable. slice_index leaf.inputs variable) 0 counts) leaf.helpers (starts_in_range leaf is 0 counts (omega (arith, long))) is.helpers

pub end_in_range : (leaf : LeafModel) → IsLeaf leaf → (counts : List ℕ) (path : List (List ℕ)) (end : List ℕ) → length counts ≡ length leaf.inputs → Leads (LeafStep leaf) (leaf_input_crowd leaf counts) path end → InRange leaf end
end_in_range leaf is counts path end long way =
    leads_in_range leaf is (leaf_input_crowd leaf counts) path end way (input_in_range leaf is counts long)
