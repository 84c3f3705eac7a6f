-- The first rule that a leaf breaks.
use Rattle.std.specs.Prelude.{◌≡◌, ℕ, Bool, not, ◌&&◌, ◌==◌, nat_lt, nat_le, [], ◌∷◌, length, Option, Some}
use Rattle.std.specs.Prelude.{position}
use Rattle.std.specs.Option.{option_map}
use Rattle.pop_io.specs.Names.{state_name}
use Rattle.pop_io.specs.declared.names.TheConstants.{VARIABLE_LIMIT}
use Rattle.pop_leaf.specs.declared.limits.TheConstants.{STATE_LIMIT, MOVE_LIMIT, HELPER_LIMIT}
use Rattle.pop_leaf.specs.declared.leaf.Move.{Move}
use Rattle.pop_leaf.specs.declared.fault.LeafFault.{LeafFault}
use Rattle.pop_leaf.specs.declared.fault.LeafFault.TheVariants as fault
use Rattle.pop_leaf.specs.LeafModel.{LeafModel}
use Rattle.pop_leaf.specs.FirstFault.{unless, first_of, first_bad_name}

-- whether each state of a move is below n
abbrev pub is_move_below : ℕ → Move → Bool
is_move_below n t = nat_lt t.p n && nat_lt t.q n && nat_lt t.r n && nat_lt t.s n

abbrev pub fault_of_leaf : LeafModel → Option LeafFault
fault_of_leaf leaf =
    let states = length leaf.states in
    let inputs = length leaf.inputs in
    first_of
    (unless (nat_le 1 states && nat_le states STATE_LIMIT) (fault.States states)
    ∷ option_map fault.Name (first_bad_name state_name leaf.states)
    ∷ unless (nat_le (length leaf.moves) MOVE_LIMIT) (fault.Moves (length leaf.moves))
    ∷ option_map fault.Move (position (λ t. not (is_move_below states t)) leaf.moves)
    ∷ unless (nat_le 1 inputs && nat_le inputs VARIABLE_LIMIT) (fault.Inputs inputs)
    ∷ option_map fault.Input (position (λ q. not (nat_lt q states)) leaf.inputs)
    ∷ unless (length leaf.outputs == states) (fault.Outputs (length leaf.outputs))
    ∷ unless (nat_le (length leaf.helpers) HELPER_LIMIT) (fault.Helpers (length leaf.helpers))
    ∷ option_map fault.Helper (position (λ q. not (nat_lt q states)) leaf.helpers)
    ∷ [])

-- the fault is the first rule that the leaf breaks
abbrev pub RefusesLeaf : LeafModel → LeafFault → Type 0
RefusesLeaf leaf f = fault_of_leaf leaf ≡ Some f
