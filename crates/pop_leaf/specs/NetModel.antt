-- NetModel: protocols that run side by side on the same agents, and a combination of their outputs in postfix.
use Rattle.std.specs.Prelude.{◌≡◌, ℕ, ◌+◌, max, ◌<◌, ◌≤◌, Bool, true, false, not, nat_lt, ◌&&◌, ◌||◌, List, [], ◌∷◌}
use Rattle.std.specs.Prelude.{length, All}
use Rattle.std.specs.Prelude.{Option, Some, None, IsSomeAnd, option_and_then, unwrap_or, slice_get, slice_index}
use Rattle.std.specs.Prelude.{slice_index_or}
use Rattle.pop_io.specs.Names.{AreNames, variable_name}
use Rattle.pop_leaf.specs.declared.item.Item.{Item}
use Rattle.pop_leaf.specs.declared.item.Item.TheVariants.{Leaf, Not, And, Or}
use Rattle.std.specs.List.{list_any}
use Rattle.pop_io.specs.declared.names.TheConstants.{VARIABLE_LIMIT}
use Rattle.pop_leaf.specs.declared.limits.TheConstants.{LEAF_LIMIT, NARROW_STATE_LIMIT, WIDE_LEAF_LIMIT, ITEM_LIMIT}
use Rattle.pop_leaf.specs.declared.limits.TheConstants.{DEPTH_LIMIT}
use Rattle.pop_leaf.specs.LeafModel.{LeafModel, IsLeaf}

pub record NetModel : Type 0 where
  -- the variables' names
  pub variables : List (List ℕ)
  pub leaves : List LeafModel
  -- the combination in postfix
  pub combine : List Item

-- how many helpers each leaf has
abbrev pub helpers_of : List LeafModel → ℕ
helpers_of [] = 0
helpers_of (leaf ∷ leaves) = length leaf.helpers

abbrev pub number_of_helpers : NetModel → ℕ
number_of_helpers net = helpers_of net.leaves

abbrev pub is_wide_leaf : LeafModel → Bool
is_wide_leaf leaf = nat_lt NARROW_STATE_LIMIT (length leaf.states)

-- a net is wide when one of its leaves is
abbrev pub is_wide : List LeafModel → Bool
is_wide leaves = list_any is_wide_leaf leaves

-- an agent: one state per leaf
abbrev pub Tuple : Type 0
Tuple = List ℕ

-- a crowd: the tuples of its agents
abbrev pub CrowdModel : Type 0
CrowdModel = List Tuple

abbrev pub IsTuple : NetModel → Tuple → Type 0
IsTuple net tuple = length tuple ≡ length net.leaves

-- the state of leaf i in a tuple
abbrev pub state_of : Tuple → ℕ → ℕ
state_of tuple i = slice_index tuple i

-- each state of a tuple is a state of its leaf
abbrev pub AreStates : List LeafModel → Tuple → Type 0
AreStates leaves tuple =
    (i : ℕ) (leaf : LeafModel) → slice_get leaves i ≡ Some leaf → state_of tuple i < length leaf.states

abbrev pub HasStates : NetModel → Tuple → Type 0
HasStates net tuple = AreStates net.leaves tuple

-- what a leaf number and the three operators of a combination mean
pub record Operators (A : Type 0) : Type 0 where
  pub leaf : ℕ → A
  pub negation : A → A
  pub conjunction : A → A → A
  pub disjunction : A → A → A

module _ {A : Type 0} where
  -- the operands after one item, the newest first; None if there are too few of them
  abbrev pub after_item : Operators A → Item → List A → Option (List A)
  after_item ops (Leaf i) operands = Some (ops.leaf i ∷ operands)
  after_item ops Not (a ∷ operands) = Some (ops.negation a ∷ operands)
  after_item ops And (b ∷ a ∷ operands) = Some (ops.conjunction a b ∷ operands)
  after_item ops Or (b ∷ a ∷ operands) = Some (ops.disjunction a b ∷ operands)
  after_item ops Not [] = None
  after_item ops And [] = None
  after_item ops And (b ∷ []) = None
  after_item ops Or [] = None
  after_item ops Or (b ∷ []) = None

  abbrev pub after_items : Operators A → List Item → List A → Option (List A)
  after_items ops [] operands = Some operands
  after_items ops (item ∷ items) operands = option_and_then (after_items ops items) (after_item ops item operands)

  -- the only operand
  abbrev pub only_one : List A → Option A
  only_one [] = None
  only_one (a ∷ []) = Some a
  only_one (a ∷ b ∷ operands) = None

  -- the value of a combination in postfix, if it is one tree
  abbrev pub combined : Operators A → List Item → Option A
  combined ops items = option_and_then only_one (after_items ops items [])

-- the output of each leaf at its state
abbrev pub leaf_outputs : List LeafModel → Tuple → List Bool
leaf_outputs [] tuple = []
leaf_outputs (leaf ∷ leaves) [] = []
leaf_outputs (leaf ∷ leaves) (x ∷ tuple) = slice_index_or leaf.outputs x false ∷ leaf_outputs leaves tuple

abbrev pub truth : List Bool → Operators Bool
truth outputs =
    record { leaf = λ i. slice_index_or outputs i false; negation = not; conjunction = ◌&&◌; disjunction = ◌||◌ }

-- the output of a tuple: the combination's value at its leaf outputs
abbrev pub output_of : NetModel → Tuple → Bool
output_of net tuple = unwrap_or (combined (truth (leaf_outputs net.leaves tuple)) net.combine) false

-- the depth of the tree that a combination in postfix stands for
abbrev pub depth_operators : Operators ℕ
depth_operators =
    record { leaf = λ i. 1; negation = λ d. d + 1; conjunction = λ d e. max d e + 1; disjunction = λ d e. max d e + 1 }

-- the leaf numbers that a combination names are below n
abbrev pub NamesBelow : ℕ → Item → Type 0
NamesBelow n (Leaf i) = i < n
NamesBelow n Not = Unit {0}
NamesBelow n And = Unit {0}
NamesBelow n Or = Unit {0}

-- the names of a net are well-formed, its numbers in range, and its combination is one tree
pub record IsNet (net : NetModel) : Type 0 where
  pub variable_names : AreNames variable_name net.variables
  pub some_variable : 1 ≤ length net.variables
  pub variables : length net.variables ≤ VARIABLE_LIMIT
  pub some_leaf : 1 ≤ length net.leaves
  pub leaf_count : length net.leaves ≤ LEAF_LIMIT
  pub leaves : All IsLeaf net.leaves
  pub inputs : All (λ leaf. length leaf.inputs ≡ length net.variables) net.leaves
  pub items : length net.combine ≤ ITEM_LIMIT
  pub leaf_numbers : All (NamesBelow (length net.leaves)) net.combine
  pub depth : IsSomeAnd (combined depth_operators net.combine) (λ d. d ≤ DEPTH_LIMIT)
  pub helpers : All (λ leaf. length leaf.helpers ≡ number_of_helpers net) net.leaves
  pub wide : is_wide net.leaves ≡ true → length net.leaves ≤ WIDE_LEAF_LIMIT
