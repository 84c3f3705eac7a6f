-- Leaves and layers that are quiet stay so.
use Rattle.std.proofs.Common.{◌≡◌, ◌⊎◌, inl, inr, ℕ, ◌+◌, ◌<◌, ◌≤◌, List, length, refl, ap, sym, subst, ◌∙◌, arith}
use Rattle.std.specs.Prelude.{Some, slice_get, slice_set, All}
use Rattle.std.proofs.lemmas.Bool.{cases_lt}
use Rattle.std.proofs.lemmas.Option.{slice_get_within, slice_get-get_or, get_or_from_slice_get}
use Rattle.pop_leaf.specs.declared.leaf.Move.{Move}
use Rattle.pop_leaf.specs.LeafModel.{LeafModel}
use Rattle.pop_leaf.specs.NetModel.{NetModel, CrowdModel, IsTuple}
use Rattle.cert_base.specs.declared.layer.Layer.{Layer}
use Rattle.cert_base.specs.declared.proof.Proof.{Proof}
use Rattle.cert_base.specs.declared.proof.LeafProof.{LeafProof}
use Rattle.cert_base.specs.ValidLayers.{IsInLayer, ValidLayers}
use Rattle.cert_base.proofs.Agents.{agents_of, enabled_test-true, move_change}
use Rattle.cert_base.proofs.Dead.{AreDead, IsEnabledIn, stay_dead, two_there}
use Rattle.pop_settle.specs.declared.take.Take.{Take}
use Rattle.pop_settle.specs.Settlement.{states_in, CanMake, CanTake, IsNext, crowd_after_take}
use Rattle.pop_settle.specs.Search.{IsIdle}
use Rattle.pop_settle.specs.Walks.{IsQuietBefore}
use Rattle.pop_settle.proofs.Taking.{leaf_step, elsewhere, here}
use Rattle.base_laws.proofs.Options.{same_value}

-- the move of a take that can be made, in its layer
abbrev pub in_layer : (net : NetModel) (proof : Proof) (crowd : CrowdModel) (layer place : ℕ) (take : Take) (c : CanTake net proof crowd layer place take) → IsInLayer c.leaf c.part.layers layer c.move
in_layer net proof crowd layer place take c = record {
  layer = c.list;
  number = take.step;
  layer_is = c.layer_is;
  lists = (place, slice_get_within c.list.moves place take.step c.step_is, get_or_from_slice_get c.list.moves place take.step take.step c.step_is);
  move_is = c.move_is;
  non_silent = c.made.non_silent;
}

pub enabled : (states : List ℕ) (t : Move) (a b : ℕ) → CanMake states t a b → IsEnabledIn states t
enabled states t a b can = λ z. two_there z states a b t.p t.q can.different can.first can.second

-- quiet layers are dead
pub quiet_dead : (net : NetModel) (proof : Proof) (crowd : CrowdModel) (i j : ℕ) (leaf : LeafModel) (part : LeafProof) → slice_get net.leaves i ≡ Some leaf → slice_get proof.leaves i ≡ Some part → IsQuietBefore net proof crowd i j → AreDead leaf part.layers j (states_in i crowd)
quiet_dead net proof crowd i j leaf part h k quiet j' u l at on =
    let two = agents_of (states_in i crowd) u (enabled_test-true (states_in i crowd) u on) in
    let step_is : slice_get at.layer.moves at.lists.0 ≡ Some at.number = slice_get-get_or at.layer.moves at.lists.0 at.number at.lists.1 ∙ ap Some at.lists.2 in
    quiet j' at.lists.0 (record { leaf = i; step = at.number; a = two.0; b = two.1 })
    (record {
      leaf = leaf;
      part = part;
      list = at.layer;
      move = u;
      leaf_is = h;
      part_is = k;
      layer_is = at.layer_is;
      step_is = step_is;
      move_is = at.move_is;
      made = record { non_silent = at.non_silent; different = two.2; first = two.3; second = two.4 };
    })
    (inr (refl, l))

-- a take that can be made in a crowd can be made in any other with the same states of the take's leaf
moved : (net : NetModel) (proof : Proof) (crowd other : CrowdModel) (layer place : ℕ) (take : Take) → states_in take.leaf other ≡ states_in take.leaf crowd → CanTake net proof other layer place take → CanTake net proof crowd layer place take
moved net proof crowd other layer place take e c = record {
  leaf = c.leaf;
  part = c.part;
  list = c.list;
  move = c.move;
  leaf_is = c.leaf_is;
  part_is = c.part_is;
  layer_is = c.layer_is;
  step_is = c.step_is;
  move_is = c.move_is;
  made = subst (λ (states : List ℕ). CanMake states c.move take.a take.b) e c.made;
}

-- a take of a dead layer cannot be made
not_dead : (net : NetModel) (proof : Proof) (crowd : CrowdModel) (j layer place : ℕ) (take : Take) (c : CanTake net proof crowd layer place take) → layer < j → AreDead c.leaf c.part.layers j (states_in take.leaf crowd) → ⊥
not_dead net proof crowd j layer place take c l dead =
    dead layer c.move l (in_layer net proof crowd layer place take c) (enabled (states_in take.leaf crowd) c.move take.a take.b c.made)

module _ (net : NetModel) (proof : Proof) (crowd : CrowdModel) (tuples : All (IsTuple net) crowd) where
  -- what is quiet stays quiet while moves of the next layer are taken
  pub stays_quiet : (layer place : ℕ) (take : Take) (c : CanTake net proof crowd layer place take) → ValidLayers c.leaf c.part.layers → IsQuietBefore net proof crowd take.leaf layer → IsQuietBefore net proof (crowd_after_take take.leaf c.move take.a take.b crowd) take.leaf layer
  stays_quiet layer place take c v quiet layer' place' other c' (inl l) =
      quiet layer' place' other
      (moved net proof crowd (crowd_after_take take.leaf c.move take.a take.b crowd) layer' place' other (elsewhere net proof crowd layer place take c other.leaf (λ e. omega (arith, l, e))) c')
      (inl l)
  stays_quiet layer place take c v quiet layer' place' other c' (inr m) =
      let after = crowd_after_take take.leaf c.move take.a take.b crowd in
      let states = states_in take.leaf crowd in
      let same : c.leaf ≡ c'.leaf = same_value (slice_get net.leaves take.leaf) c.leaf c'.leaf c.leaf_is (subst (λ (n : ℕ). slice_get net.leaves n ≡ Some c'.leaf) m.0 c'.leaf_is) in
      let same_part : c.part ≡ c'.part = same_value (slice_get proof.leaves take.leaf) c.part c'.part c.part_is (subst (λ (n : ℕ). slice_get proof.leaves n ≡ Some c'.part) m.0 c'.part_is) in
      let before : AreDead c.leaf c.part.layers layer states = quiet_dead net proof crowd take.leaf layer c.leaf c.part c.leaf_is c.part_is quiet in
      let dead : AreDead c.leaf c.part.layers layer (slice_set (slice_set states take.a c.move.r) take.b c.move.s) =
      stay_dead c.leaf c.part.layers v layer states (slice_set (slice_set states take.a c.move.r) take.b c.move.s) (leaf_step net proof crowd layer place take c) (move_change c.leaf take.step c.move c.move_is c.made.non_silent) (in_layer net proof crowd layer place take c) before in
      let dead' : AreDead c.leaf c.part.layers layer (states_in take.leaf after) = subst (λ (s : List ℕ). AreDead c.leaf c.part.layers layer s) (sym (here net proof crowd layer place take c tuples)) dead in
      let dead'' : AreDead c'.leaf c'.part.layers layer (states_in other.leaf after) =
      subst (λ (n : ℕ). AreDead c'.leaf c'.part.layers layer (states_in n after)) (sym m.0)
      (subst (λ (p : LeafProof). AreDead c'.leaf p.layers layer (states_in take.leaf after)) same_part
      (subst (λ (l : LeafModel). AreDead l c.part.layers layer (states_in take.leaf after)) same dead')) in
      not_dead net proof after layer layer' place' other c' m.1 dead''

module _ (net : NetModel) (proof : Proof) (crowd : CrowdModel) where
  -- a layer whose moves are idle is quiet
  pub quiet_layer : (i j : ℕ) (leaf : LeafModel) (part : LeafProof) (list : Layer) → slice_get net.leaves i ≡ Some leaf → slice_get proof.leaves i ≡ Some part → slice_get part.layers j ≡ Some list → IsQuietBefore net proof crowd i j → ((k : ℕ) → IsIdle leaf list.moves (states_in i crowd) k) → IsQuietBefore net proof crowd i (j + 1)
  quiet_layer i j leaf part list h k m quiet idle layer place take c (inl l) = quiet layer place take c (inl l)
  quiet_layer i j leaf part list h k m quiet idle layer place take c (inr e) = by_order (cases_lt layer j)
    where
      same : leaf ≡ c.leaf
      same = same_value (slice_get net.leaves i) leaf c.leaf h (subst (λ (n : ℕ). slice_get net.leaves n ≡ Some c.leaf) e.0 c.leaf_is)

      same_part : part ≡ c.part
      same_part = same_value (slice_get proof.leaves i) part c.part k (subst (λ (n : ℕ). slice_get proof.leaves n ≡ Some c.part) e.0 c.part_is)

      here_is : layer ≡ j → list ≡ c.list
      here_is s =
          same_value (slice_get part.layers j) list c.list m
          (subst (λ (n : ℕ). slice_get part.layers n ≡ Some c.list) s (subst (λ (p : LeafProof). slice_get p.layers layer ≡ Some c.list) (sym same_part) c.layer_is))

      by_order : (layer < j) ⊎ (j ≤ layer) → ⊥
      by_order (inl l) = quiet layer place take c (inr (e.0, l))
      by_order (inr l) =
          let s : layer ≡ j = (let r = e.1 in omega arith) in
          idle place take.step c.move take.a take.b
          (subst (λ (y : Layer). slice_get y.moves place ≡ Some take.step) (sym (here_is s)) c.step_is)
          (subst (λ (y : LeafModel). slice_get y.moves take.step ≡ Some c.move) (sym same) c.move_is)
          (subst (λ (n : ℕ). CanMake (states_in n crowd) c.move take.a take.b) e.0 c.made)

  -- a leaf whose layers are quiet is quiet
  pub quiet_leaf : (i : ℕ) (part : LeafProof) → slice_get proof.leaves i ≡ Some part → IsQuietBefore net proof crowd i (length part.layers) → IsQuietBefore net proof crowd (i + 1) 0
  quiet_leaf i part k quiet layer place take c (inr e) = absurd (let r = e.1 in omega arith)
  quiet_leaf i part k quiet layer place take c (inl l) = by_order (cases_lt take.leaf i)
    where
      by_order : (take.leaf < i) ⊎ (i ≤ take.leaf) → ⊥
      by_order (inl m) = quiet layer place take c (inl m)
      by_order (inr m) =
          let s : take.leaf ≡ i = omega arith in
          let same_part : part ≡ c.part = same_value (slice_get proof.leaves i) part c.part k (subst (λ (n : ℕ). slice_get proof.leaves n ≡ Some c.part) s c.part_is) in
          quiet layer place take c (inr (s, rw same_part (slice_get_within c.part.layers layer c.list c.layer_is)))

  -- if all leaves are quiet, no take can be made
  pub quiet_all : IsQuietBefore net proof crowd (length net.leaves) 0 → (layer place : ℕ) (take : Take) → CanTake net proof crowd layer place take → ⊥
  quiet_all quiet layer place take c = quiet layer place take c (inl (slice_get_within net.leaves take.leaf c.leaf c.leaf_is))

  -- before the least take, everything is quiet
  pub least_quiet : (take : Take) (n : IsNext net proof crowd take) → IsQuietBefore net proof crowd take.leaf n.layer
  least_quiet take n layer place other c (inl l) = n.least layer place other c (inl l)
  least_quiet take n layer place other c (inr m) = n.least layer place other c (inr (m.0, inl m.1))
