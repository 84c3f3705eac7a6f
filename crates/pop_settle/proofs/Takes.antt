-- The takes of the hushed net are those of the given net.
use Rattle.std.proofs.Common.{◌≡◌, ℕ, List, [], ◌∷◌, sym, subst}
use Rattle.std.specs.Prelude.{Some, slice_get, Contains}
use Rattle.std.proofs.lemmas.Option.{slice_get_within, get_or_from_slice_get}
use Rattle.pop_leaf.specs.LeafModel.{LeafModel}
use Rattle.pop_leaf.specs.NetModel.{NetModel, CrowdModel}
use Rattle.pop_leaf.proofs.HushedMoves.{hushed_move, kept_move}
use Rattle.cert_base.specs.declared.proof.Proof.{Proof}
use Rattle.cert_base.specs.ValidLayers.{moves_of_layers}
use Rattle.cert_layers.proofs.NotLower.{contains-listed}
use Rattle.cert_sets.specs.Layered.{layered}
use Rattle.pop_settle.specs.declared.take.Take.{Take}
use Rattle.pop_settle.specs.Settlement.{CanTake, IsNext, crowd_after_take, LeadsBy, IsSettlement}
use Rattle.pop_settle.specs.HushedNet.{hushed_net}
use Rattle.pop_settle.proofs.HushedLeaves.{hushed_at, hushed_of}

-- what stands at a place is listed
pub listed_there : (numbers : List ℕ) (place n : ℕ) → slice_get numbers place ≡ Some n → Contains numbers n
listed_there numbers place n h = (place, slice_get_within numbers place n h, get_or_from_slice_get numbers place n n h)

module _ (net : NetModel) (proof : Proof) where
  abbrev in_given : (crowd : CrowdModel) (layer place : ℕ) (take : Take) → CanTake (hushed_net net proof) proof crowd layer place take → CanTake net proof crowd layer place take
  in_given crowd layer place take c =
      let leaf = hushed_of net.leaves proof.leaves take.leaf c.leaf c.part c.leaf_is c.part_is in
      let there : slice_get (layered leaf.0 c.part.layers).moves take.step ≡ Some c.move = subst (λ (l : LeafModel). slice_get l.moves take.step ≡ Some c.move) (sym leaf.2) c.move_is in
      record {
        leaf = leaf.0;
        part = c.part;
        list = c.list;
        move = c.move;
        leaf_is = leaf.1;
        part_is = c.part_is;
        layer_is = c.layer_is;
        step_is = c.step_is;
        move_is = (hushed_move leaf.0 (moves_of_layers c.part.layers) take.step c.move there c.made.non_silent).move_is;
        made = c.made;
      }

  in_hushed : (crowd : CrowdModel) (layer place : ℕ) (take : Take) → CanTake net proof crowd layer place take → CanTake (hushed_net net proof) proof crowd layer place take
  in_hushed crowd layer place take c =
      let listed = contains-listed c.part.layers layer take.step c.list c.layer_is (listed_there c.list.moves place take.step c.step_is) in
      record {
        leaf = layered c.leaf c.part.layers;
        part = c.part;
        list = c.list;
        move = c.move;
        leaf_is = hushed_at net.leaves proof.leaves take.leaf c.leaf c.part c.leaf_is c.part_is;
        part_is = c.part_is;
        layer_is = c.layer_is;
        step_is = c.step_is;
        move_is = (kept_move c.leaf (moves_of_layers c.part.layers) take.step c.move (record { kept_is = listed; move_is = c.move_is; non_silent = c.made.non_silent })).0;
        made = c.made;
      }

  abbrev next_given : (crowd : CrowdModel) (take : Take) → IsNext (hushed_net net proof) proof crowd take → IsNext net proof crowd take
  next_given crowd take n =
      record {
        layer = n.layer;
        place = n.place;
        can = in_given crowd n.layer n.place take n.can;
        least = λ layer place other c before. n.least layer place other (in_hushed crowd layer place other c) before;
      }

  leads_given : (crowd end : CrowdModel) (takes : List Take) → LeadsBy (hushed_net net proof) proof crowd takes end → LeadsBy net proof crowd takes end
  leads_given crowd end [] l = l
  leads_given crowd end (take ∷ takes) l =
      (next_given crowd take l.0, leads_given (crowd_after_take take.leaf l.0.can.move take.a take.b crowd) end takes l.1)

  pub settlement_given : (crowd end : CrowdModel) (takes : List Take) → IsSettlement (hushed_net net proof) proof crowd takes end → IsSettlement net proof crowd takes end
  settlement_given crowd end takes s =
      let ended = s.ended in
      record {
        leads = leads_given crowd end takes s.leads;
        ended = λ layer place take c. ended layer place take (in_hushed end layer place take c);
      }
