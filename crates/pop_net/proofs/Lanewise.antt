-- The steps of the loops over the leaves of a word.
use Rattle.std.proofs.Common.{◌≡◌, inl, inr, ◌⊎◌, ℕ, zero, suc, pred, ◌+◌, ◌*◌, ◌/◌, ◌%◌, ◌^◌, ◌<◌, ◌≤◌, Bool, false, List, [], ◌∷◌, ◌++◌, length, map, take, get_or, set, refl, ap, sym, ◌∙◌, arith}
use Rattle.std.specs.Prelude.{Some, All, slice_get, slice_index, slice_index_or}
use Rattle.std.proofs.lemmas.Bool.{cases_eq}
use Rattle.std.proofs.lemmas.List.{length-map, take_more, take_more_set, take_all}
use Rattle.std.proofs.lemmas.Option.{slice_get_read, get_or_from_slice_get, slice_get-map}
use Rattle.std.specs.Option.{option_map}
use Rattle.pop_leaf.specs.LeafModel.{LeafModel}
use Rattle.pop_leaf.specs.NetModel.{Tuple, AreStates, state_of, leaf_outputs}
use Rattle.pop_leaf.specs.Reaction.{leaf_reaction, reactions}
use Rattle.pop_net.specs.Lanes.{digits}
use Rattle.pop_net.proofs.Digits.{length-digits}
use Rattle.pop_net.proofs.Packing.{Packed, packed_more, lane_at}
use Rattle.pop_leaf.proofs.Quiet.{All-slice_get}
use Rattle.pop_leaf.proofs.Reactions.{get-reactions, length-reactions, state_of-map}

module _ (base : ℕ) (leaves : List LeafModel) (i : ℕ) (leaf : LeafModel) (l : i < length leaves) (is : leaf ≡ get_or leaves i leaf) where
  pub here : slice_get leaves i ≡ Some leaf
  here = slice_get_read leaves (length leaves) i leaf refl l is

  -- each leaf's states fit a lane
  abbrev pub Fit : Type 0
  Fit = All (λ (leaf : LeafModel). length leaf.states ≤ base) leaves

  few_states : Fit → length leaf.states ≤ base
  few_states fit = All-slice_get (λ (leaf : LeafModel). length leaf.states ≤ base) leaves i leaf fit here

  pub lane_state : (word lane : ℕ) → lane ≡ word / base ^ i % base → lane ≡ state_of (digits base (length leaves) word) i
  lane_state word lane e = e ∙ sym (lane_at base (length leaves) word i l)

  pub lane_in : (word lane : ℕ) → AreStates leaves (digits base (length leaves) word) → lane ≡ word / base ^ i % base → lane < length leaf.states
  lane_in word lane states e = rw (lane_state word lane e) (states i leaf here)

  reaction_here : (a b x y : ℕ) (both : ℕ × ℕ) → x ≡ a / base ^ i % base → y ≡ b / base ^ i % base → both ≡ leaf_reaction leaf x y → slice_get (reactions leaves (digits base (length leaves) a) (digits base (length leaves) b)) i ≡ Some both
  reaction_here a b x y both ex ey e =
      get-reactions leaves (digits base (length leaves) a) (digits base (length leaves) b) i leaf (length-digits base (length leaves) a) (length-digits base (length leaves) b) here
      ∙ ap Some (sym (e ∙ ap (λ x. leaf_reaction leaf x y) (lane_state a x ex) ∙ ap (leaf_reaction leaf (state_of (digits base (length leaves) a) i)) (lane_state b y ey)))

  -- one more lane of a reaction; f picks one of its two states
  pub reaction_more : (f : ℕ × ℕ → ℕ) (a b x y word next : ℕ) (both : ℕ × ℕ) → Fit → x ≡ a / base ^ i % base → y ≡ b / base ^ i % base → both ≡ leaf_reaction leaf x y → f both < length leaf.states → next ≡ word + f both * base ^ i → next < base ^ (i + 1) → Packed base i (map f (reactions leaves (digits base (length leaves) a) (digits base (length leaves) b))) word → Packed base (i + 1) (map f (reactions leaves (digits base (length leaves) a) (digits base (length leaves) b))) next
  reaction_more f a b x y word next both formed ex ey e m sum free p =
      let all = reactions leaves (digits base (length leaves) a) (digits base (length leaves) b) in
      let long : length (map f all) ≡ length leaves = length-map all f ∙ length-reactions leaves (digits base (length leaves) a) (digits base (length leaves) b) (length-digits base (length leaves) a) (length-digits base (length leaves) b) in
      packed_more base i (map f all) word (f both) next (omega (arith, few_states formed, m)) p (omega (arith, long)) (sym (state_of-map f all i both (reaction_here a b x y both ex ey e))) (omega (arith, few_states formed)) sum free

  -- one more lane of the states that f gives
  lane_more : (f : LeafModel → ℕ) (state word next : ℕ) → Fit → f leaf ≡ state → state < length leaf.states → next ≡ word + state * base ^ i → next < base ^ (i + 1) → Packed base i (map f leaves) word → Packed base (i + 1) (map f leaves) next
  lane_more f state word next formed e m sum free p =
      let at : slice_get (map f leaves) i ≡ Some (f leaf) = slice_get-map f leaves i ∙ ap (option_map f) here in
      packed_more base i (map f leaves) word state next (omega (arith, few_states formed, m)) p
      (omega (arith, length-map leaves f))
      (sym e ∙ sym (get_or_from_slice_get _ i _ 0 at))
      (omega (arith, few_states formed)) sum free

  -- one more lane of a start
  pub start_more : (variable state word next : ℕ) → Fit → slice_get leaf.inputs variable ≡ Some state → state < length leaf.states → next ≡ word + state * base ^ i → next < base ^ (i + 1) → Packed base i (map (λ (leaf : LeafModel). slice_index leaf.inputs variable) leaves) word → Packed base (i + 1) (map (λ (leaf : LeafModel). slice_index leaf.inputs variable) leaves) next
  start_more variable state word next formed e m sum free p =
      lane_more (λ (leaf : LeafModel). slice_index leaf.inputs variable) state word next formed (get_or_from_slice_get leaf.inputs variable state 0 e) m sum free p

  -- one more lane of a helper
  pub helper_more : (helper state word next : ℕ) → Fit → slice_get leaf.helpers helper ≡ Some state → state < length leaf.states → next ≡ word + state * base ^ i → next < base ^ (i + 1) → Packed base i (map (λ (leaf : LeafModel). slice_index leaf.helpers helper) leaves) word → Packed base (i + 1) (map (λ (leaf : LeafModel). slice_index leaf.helpers helper) leaves) next
  helper_more helper state word next formed e m sum free p =
      lane_more (λ (leaf : LeafModel). slice_index leaf.helpers helper) state word next formed (get_or_from_slice_get leaf.helpers helper state 0 e) m sum free p

  -- one more lane that holds a state
  pub states_more : (word lane : ℕ) → lane ≡ word / base ^ i % base → lane < length leaf.states → ((k : ℕ) (leaf : LeafModel) → k < i → slice_get leaves k ≡ Some leaf → state_of (digits base (length leaves) word) k < length leaf.states) → (k : ℕ) (leaf : LeafModel) → k < i + 1 → slice_get leaves k ≡ Some leaf → state_of (digits base (length leaves) word) k < length leaf.states
  states_more word lane e m before k other h at = go (cases_eq k i)
    where
      go : (k ≡ i) ⊎ (k ≡ i → ⊥) → state_of (digits base (length leaves) word) k < length other.states
      go (inl same) =
          let now : slice_get leaves i ≡ Some other = rw same at at in
          let one : leaf ≡ other = let t = here in cc in
          rw (same, ← one, ← lane_state word lane e) m
      go (inr ne) = before k other (omega arith) at

  -- a lane that holds no state
  pub not_valid : (word lane : ℕ) → lane ≡ word / base ^ i % base → length leaf.states ≤ lane → AreStates leaves (digits base (length leaves) word) → ⊥
  not_valid word lane e m states = let n = lane_in word lane states e in omega arith

length-leaf_outputs : (leaves : List LeafModel) (x : Tuple) → length x ≡ length leaves → length (leaf_outputs leaves x) ≡ length leaves
length-leaf_outputs [] x e = refl
length-leaf_outputs (leaf ∷ leaves) [] e = e
length-leaf_outputs (leaf ∷ leaves) (p ∷ x) e = ap suc (length-leaf_outputs leaves x (ap pred e))

output_at : (leaves : List LeafModel) (x : Tuple) (i : ℕ) (leaf : LeafModel) → length x ≡ length leaves → slice_get leaves i ≡ Some leaf → get_or (leaf_outputs leaves x) i false ≡ slice_index_or leaf.outputs (state_of x i) false
output_at [] x i leaf e h = cc
output_at (l ∷ leaves) [] i leaf e h = cc
output_at (l ∷ leaves) (p ∷ x) zero leaf e h = let same : l ≡ leaf = cc in rw same refl
output_at (l ∷ leaves) (p ∷ x) (suc i) leaf e h = output_at leaves x i leaf (ap pred e) h

-- one more output
pub outputs_more : (base : ℕ) (leaves : List LeafModel) (i : ℕ) (leaf : LeafModel) (l : i < length leaves) (is : leaf ≡ get_or leaves i leaf) (word lane : ℕ) (output : Bool) (outputs : List Bool) → lane ≡ word / base ^ i % base → slice_get leaf.outputs lane ≡ Some output → i < length outputs → take i outputs ≡ take i (leaf_outputs leaves (digits base (length leaves) word)) → take (i + 1) (set outputs i output) ≡ take (i + 1) (leaf_outputs leaves (digits base (length leaves) word))
outputs_more base leaves i leaf l is word lane output outputs e h m before =
    let tuple = digits base (length leaves) word in
    let long : length (leaf_outputs leaves tuple) ≡ length leaves = length-leaf_outputs leaves tuple (length-digits base (length leaves) word) in
    let same : get_or (leaf_outputs leaves tuple) i false ≡ output =
    output_at leaves tuple i leaf (length-digits base (length leaves) word) (here base leaves i leaf l is)
    ∙ ap (λ n. slice_index_or leaf.outputs n false) (sym (lane_state base leaves i leaf l is word lane e))
    ∙ get_or_from_slice_get leaf.outputs lane output false h in
    take_more_set outputs i output m
    ∙ ap (λ xs. xs ++ output ∷ []) before
    ∙ ap (λ b. take i (leaf_outputs leaves tuple) ++ b ∷ []) (sym same)
    ∙ sym (take_more (leaf_outputs leaves tuple) i false (omega (arith, long)))

pub outputs_all : (base : ℕ) (leaves : List LeafModel) (i word : ℕ) (outputs : List Bool) → length leaves ≤ i → i ≤ length leaves → take i outputs ≡ take i (leaf_outputs leaves (digits base (length leaves) word)) → take (length leaves) outputs ≡ leaf_outputs leaves (digits base (length leaves) word)
outputs_all base leaves i word outputs l m before =
    let tuple = digits base (length leaves) word in
    ap (λ n. take n outputs) (let s : length leaves ≡ i = omega arith in s) ∙ before
    ∙ take_all i (leaf_outputs leaves tuple) (omega (arith, length-leaf_outputs leaves tuple (length-digits base (length leaves) word)))
