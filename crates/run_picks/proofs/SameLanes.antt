-- Words stand for the same crowds in nets with the same lanes.
use Rattle.std.proofs.Common.{◌≡◌, ℕ, zero, suc, ◌<◌, ◌||◌, ◌^◌, List, [], ◌∷◌, length, map, refl, ap, sym, subst, ◌∙◌}
use Rattle.std.specs.Prelude.{Bool, nat_lt, All, Some, slice_get}
use Rattle.std.specs.List.{list_any}
use Rattle.std.proofs.lemmas.List.{length-map}
use Rattle.std.proofs.lemmas.List.Elements.{All-weaker}
use Rattle.base_laws.proofs.Lists.{heads, tails}
use Rattle.pop_leaf.specs.declared.limits.TheConstants.{NARROW_STATE_LIMIT}
use Rattle.pop_net.specs.declared.net.Word.{Word}
use Rattle.pop_net.specs.LaneWidth.{bits_of, width_for}
use Rattle.pop_net.specs.Lanes.{digits, lane_size, tuple_of, crowd_of, IsValid, AreValid}
use Rattle.pop_leaf.specs.LeafModel.{LeafModel}
use Rattle.pop_leaf.specs.NetModel.{NetModel, Tuple, CrowdModel, IsTuple, HasStates, state_of, is_wide, is_wide_leaf}
use Rattle.run_picks.specs.SameLanes.{HaveSameLanes}

abbrev sizes : List LeafModel → List ℕ
sizes leaves = map (λ leaf. length leaf.states) leaves

-- how many states the leaves have says whether a net is wide
wide_by_sizes : (leaves : List LeafModel) → is_wide leaves ≡ list_any (λ n. nat_lt NARROW_STATE_LIMIT n) (sizes leaves)
wide_by_sizes [] = refl
wide_by_sizes (leaf ∷ leaves) = ap (λ (b : Bool). is_wide_leaf leaf || b) (wide_by_sizes leaves)

-- the leaf at the same place has as many states
leaf_at : (ones others : List LeafModel) (i : ℕ) (leaf : LeafModel) → sizes ones ≡ sizes others → slice_get others i ≡ Some leaf
    → (one : LeafModel) × (slice_get ones i ≡ Some one) × (length one.states ≡ length leaf.states)
leaf_at ones [] i leaf e h = cc
leaf_at [] (y ∷ others) i leaf e h = cc
leaf_at (x ∷ ones) (y ∷ others) zero leaf e h =
    let same : y ≡ leaf = cc in
    (x, refl, heads (length x.states) (length y.states) (sizes ones) (sizes others) e ∙ ap (λ (l : LeafModel). length l.states) same)
leaf_at (x ∷ ones) (y ∷ others) (suc i) leaf e h =
    leaf_at ones others i leaf (tails (length x.states) (length y.states) (sizes ones) (sizes others) e) h

module _ (one other : NetModel) (same : HaveSameLanes one other) where
  length_same : length one.leaves ≡ length other.leaves
  length_same =
      sym (length-map one.leaves (λ (leaf : LeafModel). length leaf.states))
      ∙ ap length same
      ∙ length-map other.leaves (λ (leaf : LeafModel). length leaf.states)

  size_same : lane_size one ≡ lane_size other
  size_same =
      ap (λ (b : Bool). 2 ^ bits_of (width_for b))
      (wide_by_sizes one.leaves ∙ ap (λ (ns : List ℕ). list_any (λ n. nat_lt NARROW_STATE_LIMIT n) ns) same ∙ sym (wide_by_sizes other.leaves))

  tuple_same : tuple_of one ≡ tuple_of other
  tuple_same =
      ap (λ (b : ℕ). λ (word : Word). digits b (length one.leaves) word.0) size_same
      ∙ ap (λ (n : ℕ). λ (word : Word). digits (lane_size other) n word.0) length_same

  -- words stand for the same crowds
  pub crowd_same : crowd_of one ≡ crowd_of other
  crowd_same = ap (λ (f : Word → Tuple). λ (words : List Word). map f words) tuple_same

  states_same : (tuple : Tuple) → HasStates one tuple → HasStates other tuple
  states_same tuple has i leaf h =
      let found = leaf_at one.leaves other.leaves i leaf same h in
      subst (λ (n : ℕ). state_of tuple i < n) found.2 (has i found.0 found.1)

  -- tuples of one net are those of the other
  pub tuples_same : (crowd : CrowdModel) → All (IsTuple one) crowd → All (IsTuple other) crowd
  tuples_same crowd are = subst (λ (n : ℕ). All (λ (t : Tuple). length t ≡ n) crowd) length_same are

  word_same : (word : Word) → IsValid one word → IsValid other word
  word_same word is = record {
    states = subst (λ (f : Word → Tuple). HasStates other (f word)) tuple_same (states_same (tuple_of one word) is.states);
    rest = subst (λ (t : ℕ × ℕ). word.0 < t.0 ^ t.1) (λ i. (size_same i, length_same i)) is.rest;
  }

  -- and valid words are valid
  pub valid_same : (words : List Word) → AreValid one words → AreValid other words
  valid_same words are = All-weaker (IsValid one) (IsValid other) word_same words are
