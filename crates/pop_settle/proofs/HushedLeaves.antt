-- The hushed net is a net, and its words stand for the same tuples.
use Rattle.std.proofs.Common.{◌≡◌, ℕ, zero, suc, ◌<◌, ◌||◌, ◌^◌, List, [], ◌∷◌, length, map, refl, ap, sym, subst, ◌∙◌, arith}
use Rattle.std.specs.Prelude.{Some, slice_get, All}
use Rattle.std.proofs.lemmas.List.Elements.{All-cons, All-head, All-tail, All-weaker}
use Rattle.std.proofs.lemmas.Option.{slice_get_within}
use Rattle.pop_net.specs.declared.net.Word.{Word}
use Rattle.pop_net.specs.LaneWidth.{bits_of, width_for}
use Rattle.pop_net.specs.Lanes.{digits, lane_size, tuple_of, crowd_of, IsValid, AreValid}
use Rattle.pop_leaf.specs.LeafModel.{LeafModel, IsLeaf}
use Rattle.pop_leaf.specs.NetModel.{NetModel, Tuple, IsNet, HasStates, is_wide, is_wide_leaf, helpers_of, number_of_helpers, NamesBelow}
use Rattle.pop_leaf.specs.Hushed.{hushed}
use Rattle.pop_leaf.proofs.HushedMoves.{hushed_formed}
use Rattle.base_laws.proofs.Options.{item_within, same_value}
use Rattle.cert_base.specs.declared.proof.LeafProof.{LeafProof}
use Rattle.cert_base.specs.declared.proof.Proof.{Proof}
use Rattle.cert_base.specs.ValidLayers.{moves_of_layers}
use Rattle.cert_sets.specs.Layered.{layered}
use Rattle.pop_settle.specs.HushedNet.{hushed_leaves, hushed_net}

-- ---- the leaves

pub hushed_length : (leaves : List LeafModel) (parts : List LeafProof) → length (hushed_leaves leaves parts) ≡ length leaves
hushed_length [] parts = refl
hushed_length (leaf ∷ leaves) [] = refl
hushed_length (leaf ∷ leaves) (part ∷ parts) = ap suc (hushed_length leaves parts)

-- the leaf at a place
pub hushed_at : (leaves : List LeafModel) (parts : List LeafProof) (i : ℕ) (leaf : LeafModel) (part : LeafProof) → slice_get leaves i ≡ Some leaf → slice_get parts i ≡ Some part → slice_get (hushed_leaves leaves parts) i ≡ Some (layered leaf part.layers)
hushed_at [] parts i leaf part h k = cc
hushed_at (l ∷ leaves) [] i leaf part h k = cc
hushed_at (l ∷ leaves) (p ∷ parts) zero leaf part h k =
    let a : l ≡ leaf = cc in
    let b : p ≡ part = cc in
    ap Some (ap (λ (x : LeafModel). layered x p.layers) a ∙ ap (λ (y : LeafProof). layered leaf y.layers) b)
hushed_at (l ∷ leaves) (p ∷ parts) (suc i) leaf part h k = hushed_at leaves parts i leaf part h k

-- the leaf that was hushed
pub hushed_of : (leaves : List LeafModel) (parts : List LeafProof) (i : ℕ) (made : LeafModel) (part : LeafProof) → slice_get (hushed_leaves leaves parts) i ≡ Some made → slice_get parts i ≡ Some part
    → (leaf : LeafModel) × (slice_get leaves i ≡ Some leaf) × (layered leaf part.layers ≡ made)
hushed_of leaves parts i made part h k =
    let within = slice_get_within (hushed_leaves leaves parts) i made h in
    let lengths = hushed_length leaves parts in
    let leaf = item_within leaves i (omega (arith, within, lengths)) in
    (leaf.0, leaf.1, same_value (slice_get (hushed_leaves leaves parts) i) (layered leaf.0 part.layers) made (hushed_at leaves parts i leaf.0 part leaf.1 k) h)

all_hushed : (P : LeafModel → Type 0) → ((leaf : LeafModel) (kept : List ℕ) → P leaf → P (hushed leaf kept)) → (leaves : List LeafModel) (parts : List LeafProof) → All P leaves → All P (hushed_leaves leaves parts)
all_hushed P keeps [] parts all = all
all_hushed P keeps (leaf ∷ leaves) [] all = all
all_hushed P keeps (leaf ∷ leaves) (part ∷ parts) all =
    All-cons P (layered leaf part.layers) (hushed_leaves leaves parts)
    (keeps leaf (moves_of_layers part.layers) (All-head P leaf leaves all))
    (all_hushed P keeps leaves parts (All-tail P leaf leaves all))

wide_same : (leaves : List LeafModel) (parts : List LeafProof) → is_wide (hushed_leaves leaves parts) ≡ is_wide leaves
wide_same [] parts = refl
wide_same (leaf ∷ leaves) [] = refl
wide_same (leaf ∷ leaves) (part ∷ parts) = ap (λ b. is_wide_leaf leaf || b) (wide_same leaves parts)

helpers_same : (leaves : List LeafModel) (parts : List LeafProof) → helpers_of (hushed_leaves leaves parts) ≡ helpers_of leaves
helpers_same [] parts = refl
helpers_same (leaf ∷ leaves) [] = refl
helpers_same (leaf ∷ leaves) (part ∷ parts) = refl

-- a leaf has as many states
states_at : (leaves : List LeafModel) (parts : List LeafProof) (i : ℕ) (made : LeafModel) → slice_get (hushed_leaves leaves parts) i ≡ Some made → (leaf : LeafModel) × (slice_get leaves i ≡ Some leaf) × (length leaf.states ≡ length made.states)
states_at [] parts i made h = cc
states_at (l ∷ leaves) [] i made h = (made, h, refl)
states_at (l ∷ leaves) (p ∷ parts) zero made h =
    let e : layered l p.layers ≡ made = cc in (l, refl, ap (λ (x : LeafModel). length x.states) e)
states_at (l ∷ leaves) (p ∷ parts) (suc i) made h = states_at leaves parts i made h

-- the leaves have as many states as the given ones
pub states_listed : (leaves : List LeafModel) (parts : List LeafProof) → map (λ (leaf : LeafModel). length leaf.states) (hushed_leaves leaves parts) ≡ map (λ (leaf : LeafModel). length leaf.states) leaves
states_listed [] parts = refl
states_listed (leaf ∷ leaves) [] = refl
states_listed (leaf ∷ leaves) (part ∷ parts) = ap (λ (sizes : List ℕ). length leaf.states ∷ sizes) (states_listed leaves parts)

-- ---- the net

module _ (net : NetModel) (proof : Proof) where
  pub hushed_is_net : IsNet net → IsNet (hushed_net net proof)
  hushed_is_net is =
      let lengths = hushed_length net.leaves proof.leaves in
      record {
        variable_names = is.variable_names;
        some_variable = is.some_variable;
        variables = is.variables;
        some_leaf = (let l = is.some_leaf in omega (arith, l, lengths));
        leaf_count = (let l = is.leaf_count in omega (arith, l, lengths));
        leaves = all_hushed IsLeaf hushed_formed net.leaves proof.leaves is.leaves;
        inputs = all_hushed (λ (leaf : LeafModel). length leaf.inputs ≡ length net.variables) (λ leaf kept e. e) net.leaves proof.leaves is.inputs;
        items = is.items;
        leaf_numbers = subst (λ (n : ℕ). All (NamesBelow n) net.combine) (sym lengths) is.leaf_numbers;
        depth = is.depth;
        helpers = subst (λ (n : ℕ). All (λ (leaf : LeafModel). length leaf.helpers ≡ n) (hushed_leaves net.leaves proof.leaves)) (sym (helpers_same net.leaves proof.leaves))
            (all_hushed (λ (leaf : LeafModel). length leaf.helpers ≡ number_of_helpers net) (λ leaf kept e. e) net.leaves proof.leaves is.helpers);
        wide = λ e. let l = is.wide (sym (wide_same net.leaves proof.leaves) ∙ e) in omega (arith, l, lengths);
      }

  size_same : lane_size (hushed_net net proof) ≡ lane_size net
  size_same = ap (λ b. 2 ^ bits_of (width_for b)) (wide_same net.leaves proof.leaves)

  tuple_same : tuple_of (hushed_net net proof) ≡ tuple_of net
  tuple_same =
      ap (λ (b : ℕ). λ (word : Word). digits b (length (hushed_leaves net.leaves proof.leaves)) word.0) size_same
      ∙ ap (λ (n : ℕ). λ (word : Word). digits (lane_size net) n word.0) (hushed_length net.leaves proof.leaves)

  -- words stand for the same crowds
  pub crowd_same : crowd_of (hushed_net net proof) ≡ crowd_of net
  crowd_same = ap (λ (f : Word → Tuple). λ (words : List Word). map f words) tuple_same

  states_hushed : (tuple : Tuple) → HasStates net tuple → HasStates (hushed_net net proof) tuple
  states_hushed tuple has i made h =
      let leaf = states_at net.leaves proof.leaves i made h in
      let l = has i leaf.0 leaf.1 in
      let e = leaf.2 in
      omega (arith, l, e)

  states_given : (tuple : Tuple) → HasStates (hushed_net net proof) tuple → HasStates net tuple
  states_given tuple has i leaf h =
      let within = slice_get_within net.leaves i leaf h in
      let lengths = hushed_length net.leaves proof.leaves in
      let made = item_within (hushed_leaves net.leaves proof.leaves) i (omega (arith, within, lengths)) in
      let other = states_at net.leaves proof.leaves i made.0 made.1 in
      let same = same_value (slice_get net.leaves i) other.0 leaf other.1 h in
      let sizes : length leaf.states ≡ length made.0.states = sym (ap (λ (x : LeafModel). length x.states) same) ∙ other.2 in
      let l = has i made.0 made.1 in
      omega (arith, l, sizes)

  rest_same : lane_size (hushed_net net proof) ^ length (hushed_leaves net.leaves proof.leaves) ≡ lane_size net ^ length net.leaves
  rest_same =
      ap (λ b. b ^ length (hushed_leaves net.leaves proof.leaves)) size_same
      ∙ ap (λ n. lane_size net ^ n) (hushed_length net.leaves proof.leaves)

  word_hushed : (word : Word) → IsValid net word → IsValid (hushed_net net proof) word
  word_hushed word v =
      record {
        states = states_hushed (tuple_of (hushed_net net proof) word) (subst (λ (f : Word → Tuple). HasStates net (f word)) (sym tuple_same) v.states);
        rest = subst (λ (n : ℕ). word.0 < n) (sym rest_same) v.rest;
      }

  word_given : (word : Word) → IsValid (hushed_net net proof) word → IsValid net word
  word_given word v =
      record {
        states = states_given (tuple_of net word) (subst (λ (f : Word → Tuple). HasStates (hushed_net net proof) (f word)) tuple_same v.states);
        rest = subst (λ (n : ℕ). word.0 < n) rest_same v.rest;
      }

  pub valid_hushed : (words : List Word) → AreValid net words → AreValid (hushed_net net proof) words
  valid_hushed words valid = All-weaker (IsValid net) (IsValid (hushed_net net proof)) word_hushed words valid

  pub valid_given : (words : List Word) → AreValid (hushed_net net proof) words → AreValid net words
  valid_given words valid = All-weaker (IsValid (hushed_net net proof)) (IsValid net) word_given words valid
