-- The first take of a quiet crowd's layer is the least that can be made.
use Rattle.std.proofs.Common.{◌≡◌, inl, inr, ℕ, ◌<◌, sym, subst}
use Rattle.std.specs.Prelude.{Some, slice_get}
use Rattle.pop_leaf.specs.declared.leaf.Move.{Move}
use Rattle.pop_leaf.specs.LeafModel.{LeafModel}
use Rattle.pop_leaf.specs.NetModel.{NetModel, CrowdModel}
use Rattle.cert_base.specs.declared.layer.Layer.{Layer}
use Rattle.cert_base.specs.declared.proof.Proof.{Proof}
use Rattle.cert_base.specs.declared.proof.LeafProof.{LeafProof}
use Rattle.pop_settle.specs.declared.take.Take.{Take}
use Rattle.pop_settle.specs.Settlement.{states_in, CanMake, CanTake, Then, IsBefore, IsNext}
use Rattle.pop_settle.specs.Search.{IsFirstTake}
use Rattle.pop_settle.specs.Walks.{IsQuietBefore}
use Rattle.base_laws.proofs.Options.{same_value}

module _ (net : NetModel) (proof : Proof) (crowd : CrowdModel) (take : Take) (j : ℕ) (leaf : LeafModel) (part : LeafProof) (list : Layer) (h : slice_get net.leaves take.leaf ≡ Some leaf) (k : slice_get proof.leaves take.leaf ≡ Some part) (m : slice_get part.layers j ≡ Some list) (first : IsFirstTake leaf list.moves (states_in take.leaf crowd) take) where
  abbrev pub can_first : CanTake net proof crowd j first.place take
  can_first = record {
    leaf = leaf;
    part = part;
    list = list;
    move = first.move;
    leaf_is = h;
    part_is = k;
    layer_is = m;
    step_is = first.step_is;
    move_is = first.move_is;
    made = first.least.0;
  }

  module _ (quiet : IsQuietBefore net proof crowd take.leaf j) where
    none_before : (layer place : ℕ) (other : Take) → CanTake net proof crowd layer place other → IsBefore layer place other j first.place take → ⊥
    none_before layer place other c (inl l) = quiet layer place other c (inl l)
    none_before layer place other c (inr (e, inl l)) = quiet layer place other c (inr (e, l))
    none_before layer place other c (inr (e, inr (f, rest))) = in_layer rest
      where
        same : leaf ≡ c.leaf
        same = same_value (slice_get net.leaves take.leaf) leaf c.leaf h (subst (λ (n : ℕ). slice_get net.leaves n ≡ Some c.leaf) e c.leaf_is)

        same_part : part ≡ c.part
        same_part = same_value (slice_get proof.leaves take.leaf) part c.part k (subst (λ (n : ℕ). slice_get proof.leaves n ≡ Some c.part) e c.part_is)

        same_list : list ≡ c.list
        same_list =
            same_value (slice_get part.layers j) list c.list m
            (subst (λ (n : ℕ). slice_get part.layers n ≡ Some c.list) f (subst (λ (p : LeafProof). slice_get p.layers layer ≡ Some c.list) (sym same_part) c.layer_is))

        step_is : slice_get list.moves place ≡ Some other.step
        step_is = subst (λ (y : Layer). slice_get y.moves place ≡ Some other.step) (sym same_list) c.step_is

        move_is : slice_get leaf.moves other.step ≡ Some c.move
        move_is = subst (λ (y : LeafModel). slice_get y.moves other.step ≡ Some c.move) (sym same) c.move_is

        made : CanMake (states_in take.leaf crowd) c.move other.a other.b
        made = subst (λ (n : ℕ). CanMake (states_in n crowd) c.move other.a other.b) e c.made

        in_layer : Then place first.place (Then other.a take.a (other.b < take.b)) → ⊥
        in_layer (inl l) = first.idle place l other.step c.move other.a other.b step_is move_is made
        in_layer (inr (g, pair)) =
            let same_step : other.step ≡ take.step = same_value (slice_get list.moves first.place) other.step take.step (subst (λ (n : ℕ). slice_get list.moves n ≡ Some other.step) g step_is) first.step_is in
            let same_move : c.move ≡ first.move = same_value (slice_get leaf.moves take.step) c.move first.move (subst (λ (n : ℕ). slice_get leaf.moves n ≡ Some c.move) same_step move_is) first.move_is in
            first.least.1 other.a other.b (subst (λ (t : Move). CanMake (states_in take.leaf crowd) t other.a other.b) same_move made) pair

    pub next_first : IsNext net proof crowd take
    next_first = record { layer = j; place = first.place; can = can_first; least = none_before }
