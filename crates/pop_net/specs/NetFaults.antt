-- The first rule that a net breaks.
use Rattle.std.specs.Prelude.{◌≡◌, ℕ, ◌+◌, Bool, true, not, ◌&&◌, ◌==◌, nat_lt, nat_le, List, [], ◌∷◌, length}
use Rattle.std.specs.Prelude.{take, Option, Some, None, if◌then◌else◌, position, false, ◌≤◌, All, IsSomeAnd}
use Rattle.std.specs.List.{list_all}
use Rattle.std.specs.Option.{option_map, option_map_or}
use Rattle.pop_io.specs.Names.{variable_name}
use Rattle.pop_leaf.specs.declared.item.Item.{Item}
use Rattle.pop_leaf.specs.declared.item.Item.TheVariants as item
use Rattle.pop_net.specs.declared.fault.CombinationFault.{CombinationFault}
use Rattle.pop_net.specs.declared.fault.CombinationFault.TheVariants as combination
use Rattle.pop_net.specs.declared.fault.NetFault.{NetFault}
use Rattle.pop_net.specs.declared.fault.NetFault.TheVariants as fault
use Rattle.pop_io.specs.declared.names.TheConstants.{VARIABLE_LIMIT}
use Rattle.pop_leaf.specs.declared.limits.TheConstants.{LEAF_LIMIT, ITEM_LIMIT, WIDE_LEAF_LIMIT, DEPTH_LIMIT}
use Rattle.pop_leaf.specs.LeafModel.{LeafModel}
use Rattle.pop_leaf.specs.NetModel.{NetModel, NamesBelow, number_of_helpers, is_wide_leaf, after_items, combined}
use Rattle.pop_leaf.specs.NetModel.{depth_operators}
use Rattle.pop_leaf.specs.FirstFault.{unless, first_of, first_below, first_bad_name}

-- whether an item is an operator or names one of n leaves
abbrev pub names_below : ℕ → Item → Bool
names_below n (item.Leaf i) = nat_lt i n
names_below n item.Not = true
names_below n item.And = true
names_below n item.Or = true

-- whether the operands were found and none is too deep
abbrev pub are_low : Option (List ℕ) → Bool
are_low operands = option_map_or (list_all (λ d. nat_le d DEPTH_LIMIT)) operands false

-- whether the items name only leaves of the net, find their operands, and make no tree that is too deep
abbrev pub stands : ℕ → List Item → Bool
stands leaves items = list_all (names_below leaves) items && are_low (after_items depth_operators items [])

-- the first item that breaks one of these rules
abbrev pub first_bad_item : ℕ → List Item → Option ℕ
first_bad_item leaves items = first_below (length items) (λ k. not (stands leaves (take (k + 1) items)))

-- how many operands the items leave
abbrev pub operands_left : List Item → ℕ
operands_left items = option_map_or length (after_items depth_operators items []) 0

abbrev pub fault_of_combination : ℕ → List Item → Option CombinationFault
fault_of_combination leaves items =
    first_of
    (option_map combination.Item (first_bad_item leaves items)
    ∷ unless (operands_left items == 1) (combination.Open (operands_left items))
    ∷ [])

-- a combination of n leaves that is one tree within the depth limit
pub record IsTree (leaves : ℕ) (items : List Item) : Type 0 where
  pub named : All (NamesBelow leaves) items
  pub depth : IsSomeAnd (combined depth_operators items) (λ d. d ≤ DEPTH_LIMIT)

abbrev pub net_fault : CombinationFault → NetFault
net_fault (combination.Item k) = fault.Item k
net_fault (combination.Open n) = fault.Open n

-- the first wide leaf, if there are too many leaves for one
abbrev pub first_wide_leaf : List LeafModel → Option ℕ
first_wide_leaf leaves = if nat_lt WIDE_LEAF_LIMIT (length leaves) then position is_wide_leaf leaves else None

abbrev pub fault_of_net : NetModel → Option NetFault
fault_of_net net =
    let variables = length net.variables in
    let leaves = length net.leaves in
    let items = length net.combine in
    first_of
    (unless (nat_le 1 variables && nat_le variables VARIABLE_LIMIT) (fault.Vars variables)
    ∷ option_map fault.VarName (first_bad_name variable_name net.variables)
    ∷ unless (nat_le 1 leaves && nat_le leaves LEAF_LIMIT) (fault.Leaves leaves)
    ∷ option_map fault.LeafInputs (position (λ leaf. not (length leaf.inputs == variables)) net.leaves)
    ∷ unless (nat_le 1 items && nat_le items ITEM_LIMIT) (fault.Items items)
    ∷ option_map net_fault (fault_of_combination leaves net.combine)
    ∷ option_map fault.LeafHelpers (position (λ leaf. not (length leaf.helpers == number_of_helpers net)) net.leaves)
    ∷ option_map fault.Wide (first_wide_leaf net.leaves)
    ∷ [])

-- the fault is the first rule that the net breaks
abbrev pub RefusesNet : NetModel → NetFault → Type 0
RefusesNet net f = fault_of_net net ≡ Some f
