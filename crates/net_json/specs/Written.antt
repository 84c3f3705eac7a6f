-- What is written: only the named members, in the byte order of their names.
use Rattle.std.specs.Prelude.{ℕ, Bool, true, false, nat_lt, if◌then◌else◌, List, [], ◌∷◌, codes, map}
use Rattle.serde_json.specs.Data.{Data, number, unsigned, string, boolean, array, object, member, no_members}
use Rattle.serde_json.specs.View.{items_of}
use Rattle.pop_leaf.specs.declared.leaf.Move.{Move}
use Rattle.pop_leaf.specs.declared.item.Item.{Item}
use Rattle.pop_leaf.specs.declared.item.Item.TheVariants.{Leaf, Not, And, Or}
use Rattle.pop_leaf.specs.LeafModel.{LeafModel}
use Rattle.pop_leaf.specs.NetModel.{NetModel, number_of_helpers}
use Rattle.net_json.specs.declared.format.TheConstants.{PLAIN_FORMAT, HELPER_FORMAT}

abbrev pub number_data : ℕ → Data
number_data n = number (unsigned n)

abbrev pub list_data : List Data → Data
list_data ds = array (items_of ds)

abbrev pub texts_data : List (List ℕ) → Data
texts_data texts = list_data (map string texts)

abbrev pub numbers_data : List ℕ → Data
numbers_data numbers = list_data (map number_data numbers)

abbrev pub truths_data : List Bool → Data
truths_data truths = list_data (map boolean truths)

abbrev pub move_data : Move → Data
move_data t = numbers_data (t.p ∷ t.q ∷ t.r ∷ t.s ∷ [])

abbrev pub item_data : Item → Data
item_data (Leaf i) = number_data i
item_data Not = string (codes "not")
item_data And = string (codes "and")
item_data Or = string (codes "or")

abbrev pub leaf_members : Data → Data → Data → Data → Data
leaf_members input moves output states =
    object
    (member (codes "input") input
    (member (codes "moves") moves (member (codes "output") output (member (codes "states") states no_members))))

abbrev pub helped_members : Data → Data → Data → Data → Data → Data
helped_members helpers input moves output states =
    object
    (member (codes "helpers") helpers
    (member (codes "input") input
    (member (codes "moves") moves (member (codes "output") output (member (codes "states") states no_members)))))

-- a leaf, in format 1 or in format 2
unfoldable pub leaf_data : Bool → LeafModel → Data
leaf_data false leaf =
    leaf_members (numbers_data leaf.inputs) (list_data (map move_data leaf.moves)) (truths_data leaf.outputs)
    (texts_data leaf.states)
leaf_data true leaf =
    helped_members (numbers_data leaf.helpers) (numbers_data leaf.inputs) (list_data (map move_data leaf.moves))
    (truths_data leaf.outputs) (texts_data leaf.states)

abbrev pub net_members : Data → Data → Data → Data → Data
net_members combine format leaves vars =
    object
    (member (codes "combine") combine
    (member (codes "format") format (member (codes "leaves") leaves (member (codes "vars") vars no_members))))

-- a net has helpers when its leaves have some
abbrev pub is_helped : NetModel → Bool
is_helped net = nat_lt 0 (number_of_helpers net)

abbrev pub format_of : Bool → ℕ
format_of helped = if helped then HELPER_FORMAT else PLAIN_FORMAT

unfoldable pub net_data : NetModel → Data
net_data net =
    net_members (list_data (map item_data net.combine)) (number_data (format_of (is_helped net)))
    (list_data (map (leaf_data (is_helped net)) net.leaves)) (texts_data net.variables)
