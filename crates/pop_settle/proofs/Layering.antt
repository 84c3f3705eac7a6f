-- One more take of a layer.
use Rattle.std.proofs.Common.{◌≡◌, ℕ, zero, suc, ◌<◌, List, [], ◌∷◌, length, sym, subst, arith}
use Rattle.std.specs.Prelude.{Option, Some, None, IfSome, slice_get, All}
use Rattle.std.specs.BTreeSet.{BTreeSet}
use Rattle.std.proofs.lemmas.Option.{slice_get_within}
use Rattle.pop_leaf.specs.LeafModel.{LeafModel, IsLeaf}
use Rattle.pop_leaf.specs.NetModel.{NetModel, CrowdModel}
use Rattle.cert_base.specs.declared.layer.Layer.{Layer}
use Rattle.cert_base.specs.declared.proof.Proof.{Proof}
use Rattle.cert_base.specs.declared.proof.LeafProof.{LeafProof}
use Rattle.cert_base.specs.ValidLayers.{ValidLayers, moves_of_layers}
use Rattle.pop_settle.specs.declared.take.Take.{Take}
use Rattle.pop_settle.specs.Settlement.{states_in, CanTake, IsNext, crowd_after_take}
use Rattle.pop_settle.specs.Settling.{AreLayersValid}
use Rattle.pop_settle.specs.Groups.{AreGroups, states_after_move}
use Rattle.pop_settle.specs.Search.{IsFirstTake, FindsTake}
use Rattle.pop_settle.specs.Walks.{TakesTo, IsQuietBefore}
use Rattle.pop_settle.proofs.Taking.{here}
use Rattle.pop_settle.proofs.Hushed.{stays_quiet}
use Rattle.pop_settle.proofs.Firsts.{can_first, next_first}
use Rattle.pop_settle.proofs.Fuel.{fuel}
use Rattle.pop_settle.proofs.Lasting.{InRanges, uses_fuel}
use Rattle.base_laws.proofs.Lists.{all_front, all_back}
use Rattle.base_laws.proofs.Options.{item_within}

-- layer j of leaf i
pub record AtLayer (net : NetModel) (proof : Proof) (j : ℕ) (layer : Layer) (leaf : LeafModel) (i : ℕ) : Type 0 where
  pub part : LeafProof
  pub leaf_is : slice_get net.leaves i ≡ Some leaf
  pub part_is : slice_get proof.leaves i ≡ Some part
  pub layer_is : slice_get part.layers j ≡ Some layer
  pub valid : ValidLayers leaf part.layers

pub at_layer : (net : NetModel) (proof : Proof) (i j : ℕ) (layer : Layer) (leaf : LeafModel) → AreLayersValid net proof → slice_get net.leaves i ≡ Some leaf → IfSome (slice_get proof.leaves i) (λ part. slice_get part.layers j ≡ Some layer) → AtLayer net proof j layer leaf i
at_layer net proof i j layer leaf v h k =
    let part = item_within proof.leaves i (omega (arith, slice_get_within net.leaves i leaf h, v.one_each)) in
    record {
      part = part.0;
      leaf_is = h;
      part_is = part.1;
      layer_is = subst (λ (o : Option LeafProof). IfSome o (λ part. slice_get part.layers j ≡ Some layer)) part.1 k;
      valid = v.valid i leaf part.0 h part.1;
    }

-- what holds for all listed moves holds for those of each layer
pub all_listed : (P : ℕ → Type 0) (layers : List Layer) (j : ℕ) (layer : Layer) → slice_get layers j ≡ Some layer → All P (moves_of_layers layers) → All P layer.moves
all_listed P [] j layer h all = cc
all_listed P (y ∷ layers) zero layer h all =
    let same : y ≡ layer = cc in
    subst (λ (l : Layer). All P l.moves) same (all_front P y.moves (moves_of_layers layers) all)
all_listed P (y ∷ layers) (suc j) layer h all = all_listed P layers j layer h (all_back P y.moves (moves_of_layers layers) all)

pub moves_in : (net : NetModel) (proof : Proof) (i j : ℕ) (layer : Layer) (leaf : LeafModel) → AtLayer net proof j layer leaf i → All (λ step. step < length leaf.moves) layer.moves
moves_in net proof i j layer leaf at = all_listed (λ step. step < length leaf.moves) at.part.layers j layer at.layer_is at.valid.in_range

pub found_some : (leaf : LeafModel) (number : ℕ) (moves moves' states : List ℕ) (o : Option Take) (groups : List (BTreeSet ℕ)) (take : Take) → moves ≡ moves' → o ≡ Some take → FindsTake leaf number moves states o groups → FindsTake leaf number moves' states (Some take) groups
found_some leaf number moves moves' states o groups take e f found =
    subst (λ (ms : List ℕ). FindsTake leaf number ms states (Some take) groups) e (subst (λ (o : Option Take). FindsTake leaf number moves states o groups) f found)

pub found_none : (leaf : LeafModel) (number : ℕ) (moves moves' states : List ℕ) (o : Option Take) (groups : List (BTreeSet ℕ)) → moves ≡ moves' → o ≡ None → FindsTake leaf number moves states o groups → FindsTake leaf number moves' states None groups
found_none leaf number moves moves' states o groups e f found =
    subst (λ (ms : List ℕ). FindsTake leaf number ms states None groups) e (subst (λ (o : Option Take). FindsTake leaf number moves states o groups) f found)

module _ (net : NetModel) (proof : Proof) (j : ℕ) (layer : Layer) (leaf : LeafModel) (crowd : CrowdModel) (take : Take) (groups : List (BTreeSet ℕ)) where
  -- the first take of layer j of leaf i was found
  record Found (i : ℕ) : Type 0 where
    at : AtLayer net proof j layer leaf i
    first : IsFirstTake leaf layer.moves (states_in i crowd) take
    grouped : AreGroups (states_after_move (states_in i crowd) first.move take.a take.b) groups
    quiet : IsQuietBefore net proof crowd i j

  -- it was made
  pub record Advanced (after : CrowdModel) (i : ℕ) : Type 0 where
    pub next : IsNext net proof crowd take
    pub quiet : IsQuietBefore net proof after i j
    pub grouped : AreGroups (states_in i after) groups
    pub falls : fuel layer.weights (states_in i after) < fuel layer.weights (states_in i crowd)

  advance : (after : CrowdModel) → All IsLeaf net.leaves → InRanges net crowd → TakesTo net take crowd after → Found take.leaf → Advanced after take.leaf
  advance after are in_ranges to f =
      let at = f.at in
      let first = f.first in
      let can : CanTake net proof crowd j first.place take = can_first net proof crowd take j leaf at.part layer at.leaf_is at.part_is at.layer_is first in
      let is : after ≡ crowd_after_take take.leaf first.move take.a take.b crowd = to leaf first.move at.leaf_is first.move_is in
      let states = here net proof crowd j first.place take can in_ranges.tuples in
      record {
        next = next_first net proof crowd take j leaf at.part layer at.leaf_is at.part_is at.layer_is first f.quiet;
        quiet = subst (λ (c : CrowdModel). IsQuietBefore net proof c take.leaf j) (sym is) (stays_quiet net proof crowd in_ranges.tuples j first.place take can at.valid f.quiet);
        grouped = subst (λ (c : CrowdModel). AreGroups (states_in take.leaf c) groups) (sym is) (subst (λ (s : List ℕ). AreGroups s groups) (sym states) f.grouped);
        falls = subst (λ (c : CrowdModel). fuel layer.weights (states_in take.leaf c) < fuel layer.weights (states_in take.leaf crowd)) (sym is) (uses_fuel net proof are crowd j first.place take can in_ranges at.valid);
      }

  pub advanced : (i : ℕ) (after : CrowdModel) → All IsLeaf net.leaves → InRanges net crowd → AtLayer net proof j layer leaf i → IsQuietBefore net proof crowd i j → FindsTake leaf i layer.moves (states_in i crowd) (Some take) groups → TakesTo net take crowd after → Advanced after i
  advanced i after are in_ranges at quiet found to =
      let f : Found i = record { at = at; first = found.1; grouped = found.2; quiet = quiet } in
      subst (Advanced after) found.0 (advance after are in_ranges to (subst Found (sym found.0) f))
