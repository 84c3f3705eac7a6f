-- The order in which a net's value is examined: member by member, each fully before the next; a list for its kind, its
-- length, and then item by item. The first rule that is broken is the fault.
use Rattle.std.specs.Prelude.{ℕ, ◌-◌, ◌==◌, ◌&&◌, Bool, not, List, [], ◌∷◌, ◌++◌, length, codes, Option, Some, None}
use Rattle.std.specs.Prelude.{is_some, Result, Ok, if◌then◌else◌}
use Rattle.std.specs.List.{list_any}
use Rattle.std.specs.Str.{bytes_eq}
use Rattle.serde_json.specs.Data.{Data}
use Rattle.serde_json.specs.Find.{as_array, as_str}
use Rattle.pop_io.specs.Names.{variable_name, state_name}
use Rattle.base_json.specs.declared.fault.Why.TheVariants.{Kind, Name, Shape}
use Rattle.base_json.specs.Faults.{Fault, ◌>>=◌, broken}
use Rattle.base_json.specs.Paths.{member_path, item_path}
use Rattle.base_json.specs.Shapes.{of_kind, object_at, member_by, list_at, number_at}
use Rattle.base_json.specs.Shapes.{text_at, truth_at, each, each_at, listed}
use Rattle.pop_leaf.specs.declared.leaf.Move.{Move}
use Rattle.pop_leaf.specs.declared.item.Item.{Item}
use Rattle.pop_leaf.specs.declared.item.Item.TheVariants.{Leaf, Not, And, Or}
use Rattle.pop_leaf.specs.LeafModel.{LeafModel}
use Rattle.pop_leaf.specs.NetModel.{NetModel, after_items, combined, depth_operators}
use Rattle.pop_net.specs.NetFaults.{are_low, first_wide_leaf}
use Rattle.pop_io.specs.declared.names.TheConstants.{VARIABLE_LIMIT}
use Rattle.pop_leaf.specs.declared.limits.TheConstants.{STATE_LIMIT, MOVE_LIMIT, HELPER_LIMIT, LEAF_LIMIT, ITEM_LIMIT}
use Rattle.net_json.specs.declared.format.TheConstants.{PLAIN_FORMAT, HELPER_FORMAT}

-- a name of this form that differs from those before it
unfoldable pub name_at : (List ℕ → Bool) → List ℕ → List (List ℕ) → Data → Result (List ℕ) Fault
name_at is_name path found d = do
  s ← text_at path d
  if is_name s && not (list_any (bytes_eq s) found) then Ok s else broken path Name

-- 1 to most names
abbrev pub names_at : (List ℕ → Bool) → ℕ → List ℕ → Data → Result (List (List ℕ)) Fault
names_at is_name most path d = each_at (name_at is_name) path 1 most d

-- four numbers of states; a list of another length is of another kind
abbrev pub four_at : List ℕ → ℕ → List Data → Result Move Fault
four_at path states (a ∷ b ∷ c ∷ d ∷ []) = do
  p ← number_at (item_path path 0) 0 (states - 1) a
  q ← number_at (item_path path 1) 0 (states - 1) b
  r ← number_at (item_path path 2) 0 (states - 1) c
  s ← number_at (item_path path 3) 0 (states - 1) d
  Ok (record { p = p; q = q; r = r; s = s })
four_at path states _ = broken path Kind

unfoldable pub move_at : List ℕ → ℕ → Data → Result Move Fault
move_at path states d = do
  ds ← of_kind path (as_array d)
  four_at path states (listed ds)

abbrev pub move_item : ℕ → List ℕ → List Move → Data → Result Move Fault
move_item states path found d = move_at path states d

abbrev pub leaf_moves_at : ℕ → List ℕ → Data → Result (List Move) Fault
leaf_moves_at states path d = each_at (move_item states) path 0 MOVE_LIMIT d

abbrev pub leaf_state_item : ℕ → List ℕ → List ℕ → Data → Result ℕ Fault
leaf_state_item states path found d = number_at path 0 (states - 1) d

-- so many numbers of states
abbrev pub leaf_states_at : ℕ → ℕ → ℕ → List ℕ → Data → Result (List ℕ) Fault
leaf_states_at least most states path d = each_at (leaf_state_item states) path least most d

-- a number of a state for each variable
abbrev pub inputs_at : ℕ → ℕ → List ℕ → Data → Result (List ℕ) Fault
inputs_at variables states path d = leaf_states_at variables variables states path d

-- how many helpers a leaf may have: none in format 1; in format 2 as many as leaf 0
abbrev pub range_after : List LeafModel → ℕ × ℕ
range_after [] = (0, HELPER_LIMIT)
range_after (leaf ∷ found) = (length leaf.helpers, length leaf.helpers)

abbrev pub helpers_allowed : ℕ → List LeafModel → Option (ℕ × ℕ)
helpers_allowed format found = if format == PLAIN_FORMAT then None else Some (range_after found)

abbrev pub helpers_at : Option (ℕ × ℕ) → ℕ → List ℕ → Data → Result (List ℕ) Fault
helpers_at None states path d = Ok []
helpers_at (Some range) states path d = member_by path (codes "helpers") (leaf_states_at range.0 range.1 states) d

abbrev pub truth_item : List ℕ → List Bool → Data → Result Bool Fault
truth_item path found d = truth_at path d

-- an output for each state
abbrev pub outputs_at : ℕ → List ℕ → Data → Result (List Bool) Fault
outputs_at states path d = each_at truth_item path states states d

unfoldable pub leaf_at : Option (ℕ × ℕ) → ℕ → List ℕ → Data → Result LeafModel Fault
leaf_at range variables path d = do
  o ← object_at path d
  ss ← member_by path (codes "states") (names_at state_name STATE_LIMIT) d
  ts ← member_by path (codes "moves") (leaf_moves_at (length ss)) d
  qs ← member_by path (codes "input") (inputs_at variables (length ss)) d
  bs ← member_by path (codes "output") (outputs_at (length ss)) d
  hs ← helpers_at range (length ss) path d
  Ok (record { states = ss; moves = ts; inputs = qs; outputs = bs; helpers = hs })

abbrev pub leaf_item : ℕ → ℕ → List ℕ → List LeafModel → Data → Result LeafModel Fault
leaf_item format variables path found d = leaf_at (helpers_allowed format found) variables path d

abbrev pub leaves_at : ℕ → ℕ → List ℕ → Data → Result (List LeafModel) Fault
leaves_at format variables path d = each_at (leaf_item format variables) path 1 LEAF_LIMIT d

abbrev pub operator_at : List ℕ → List ℕ → Result Item Fault
operator_at path s =
    if bytes_eq s (codes "not") then Ok Not
    else (if bytes_eq s (codes "and") then Ok And else (if bytes_eq s (codes "or") then Ok Or else broken path Name))

-- an operator if the value is a text, else the number of a leaf
abbrev pub operand_at : List ℕ → ℕ → Data → Option (List ℕ) → Result Item Fault
operand_at path leaves d (Some s) = operator_at path s
operand_at path leaves d None = number_at path 0 (leaves - 1) d >>= λ i. Ok (Leaf i)

-- the depths of the trees left open by these items, the newest first
abbrev pub open_depths : List Item → Option (List ℕ)
open_depths items = after_items depth_operators items []

-- an item that finds its operands and makes no tree that is too deep
unfoldable pub item_at : List ℕ → ℕ → List Item → Data → Result Item Fault
item_at path leaves found d = do
  item ← operand_at path leaves d (as_str d)
  if are_low (open_depths (found ++ item ∷ [])) then Ok item else broken path Shape

abbrev pub combine_item : List ℕ → ℕ → List Item → ℕ → Data → Result Item Fault
combine_item path leaves found i d = item_at (item_path path i) leaves found d

unfoldable pub combine_items_at : ℕ → List ℕ → Data → Result (List Item) Fault
combine_items_at leaves path d = do
  ds ← list_at path 1 ITEM_LIMIT d
  each (combine_item path leaves) [] 0 ds

-- a combination in postfix that leaves one tree at the end
unfoldable pub combine_at : ℕ → List ℕ → Data → Result (List Item) Fault
combine_at leaves path d = do
  items ← combine_items_at leaves path d
  if is_some (combined depth_operators items) then Ok items else broken path Shape

-- the net, unless this leaf is wide and there are too many leaves beside it
abbrev pub fitting_net : List ℕ → Option ℕ → NetModel → Result NetModel Fault
fitting_net path None net = Ok net
fitting_net path (Some i) net = broken (item_path (member_path path (codes "leaves")) i) Shape

unfoldable pub net_at : List ℕ → Data → Result NetModel Fault
net_at path d = do
  o ← object_at path d
  format ← member_by path (codes "format") (λ p. number_at p PLAIN_FORMAT HELPER_FORMAT) d
  vars ← member_by path (codes "vars") (names_at variable_name VARIABLE_LIMIT) d
  leaves ← member_by path (codes "leaves") (leaves_at format (length vars)) d
  items ← member_by path (codes "combine") (combine_at (length leaves)) d
  fitting_net path (first_wide_leaf leaves) (record { variables = vars; leaves = leaves; combine = items })
