-- A leaf breaks no rule exactly when its names are well-formed and its numbers in range.
use Rattle.std.proofs.Common.{◌≡◌, ℕ, ◌<◌, ◌≤◌, ◌&&◌, nat_le, nat_lt, length}
use Rattle.std.specs.Prelude.{None, Decides, All}
use Rattle.std.proofs.lemmas.Bool.Decides.{Decides-eqb, Decides-ltb, Decides-and, Decides-like}
use Rattle.std.proofs.lemmas.Bool.{leb-true, le-leb}
use Rattle.pop_io.specs.Names.{AreNames, state_name}
use Rattle.pop_io.specs.declared.names.TheConstants.{VARIABLE_LIMIT}
use Rattle.pop_leaf.specs.declared.limits.TheConstants.{STATE_LIMIT, MOVE_LIMIT, HELPER_LIMIT}
use Rattle.pop_leaf.specs.declared.leaf.Move.{Move}
use Rattle.pop_leaf.specs.declared.fault.LeafFault.{LeafFault}
use Rattle.pop_leaf.specs.declared.fault.LeafFault.TheVariants as fault
use Rattle.pop_leaf.specs.LeafModel.{LeafModel, IsLeaf, IsMoveBelow}
use Rattle.pop_leaf.specs.LeafFaults.{fault_of_leaf, is_move_below, RefusesLeaf}
use Rattle.pop_leaf.proofs.FirstFault.{NoneIff, first_of-nil, first_of-cons, none_unless, none_map, none_position, none_bad}

pub Decides-le : (a b : ℕ) → Decides (nat_le a b) (a ≤ b)
Decides-le a b = (leb-true a b, le-leb a b)

pub within : (least most n : ℕ) → Decides (nat_le least n && nat_le n most) ((least ≤ n) × (n ≤ most))
within least most n = Decides-and _ _ (Decides-le least n) (Decides-le n most)

move_below : (n : ℕ) (t : Move) → Decides (is_move_below n t) (IsMoveBelow n t)
move_below n t =
    Decides-like (is_move_below n t) (λ w. (w.0.0.0, w.0.0.1, w.0.1, w.1)) (λ w. (((w.0, w.1), w.2), w.3))
    (Decides-and _ _ (Decides-and _ _ (Decides-and _ _ (Decides-ltb t.p n) (Decides-ltb t.q n)) (Decides-ltb t.r n)) (Decides-ltb t.s n))

-- the rules in their order
abbrev KeepsRules : LeafModel → Type 0
KeepsRules leaf =
    ((1 ≤ length leaf.states) × (length leaf.states ≤ STATE_LIMIT)) × (AreNames state_name leaf.states × ((length leaf.moves ≤ MOVE_LIMIT) × (All (IsMoveBelow (length leaf.states)) leaf.moves
    × (((1 ≤ length leaf.inputs) × (length leaf.inputs ≤ VARIABLE_LIMIT)) × (All (λ q. q < length leaf.states) leaf.inputs × ((length leaf.outputs ≡ length leaf.states) × ((length leaf.helpers ≤ HELPER_LIMIT) × (All (λ q. q < length leaf.states) leaf.helpers × Unit {0}))))))))

rules_of : (leaf : LeafModel) → NoneIff (fault_of_leaf leaf) (KeepsRules leaf)
rules_of leaf =
    first_of-cons _ _ (none_unless _ _ (within 1 STATE_LIMIT (length leaf.states)))
    (first_of-cons _ _ (none_map fault.Name _ (none_bad state_name leaf.states))
    (first_of-cons _ _ (none_unless _ _ (Decides-le (length leaf.moves) MOVE_LIMIT))
    (first_of-cons _ _ (none_map fault.Move _ (none_position (is_move_below (length leaf.states)) (IsMoveBelow (length leaf.states)) (move_below (length leaf.states)) leaf.moves))
    (first_of-cons _ _ (none_unless _ _ (within 1 VARIABLE_LIMIT (length leaf.inputs)))
    (first_of-cons _ _ (none_map fault.Input _ (none_position (λ q. nat_lt q (length leaf.states)) (λ q. q < length leaf.states) (λ q. Decides-ltb q (length leaf.states)) leaf.inputs))
    (first_of-cons _ _ (none_unless _ _ (Decides-eqb (length leaf.outputs) (length leaf.states)))
    (first_of-cons _ _ (none_unless _ _ (Decides-le (length leaf.helpers) HELPER_LIMIT))
    (first_of-cons _ _ (none_map fault.Helper _ (none_position (λ q. nat_lt q (length leaf.states)) (λ q. q < length leaf.states) (λ q. Decides-ltb q (length leaf.states)) leaf.helpers)) first_of-nil))))))))

-- a leaf that breaks no rule
pub unbroken_leaf : (leaf : LeafModel) → fault_of_leaf leaf ≡ None → IsLeaf leaf
unbroken_leaf leaf e =
    let k = (rules_of leaf).0 e in
    record {
      names = k.1.0;
      some_state = k.0.0;
      states = k.0.1;
      move_count = k.1.1.0;
      moves = k.1.1.1.0;
      some_input = k.1.1.1.1.0.0;
      input_count = k.1.1.1.1.0.1;
      inputs = k.1.1.1.1.1.0;
      outputs = k.1.1.1.1.1.1.0;
      helper_count = k.1.1.1.1.1.1.1.0;
      helpers = k.1.1.1.1.1.1.1.1.0;
    }

-- a leaf that keeps the rules breaks none
pub right_leaf : (leaf : LeafModel) (f : LeafFault) → RefusesLeaf leaf f → IsLeaf leaf → ⊥
right_leaf leaf f e h =
    let none = (rules_of leaf).1 ((h.some_state, h.states), (h.names, (h.move_count, (h.moves, ((h.some_input, h.input_count), (h.inputs, (h.outputs, (h.helper_count, (h.helpers, tt))))))))) in
    cc
