-- What is written for a proof that is not valid. A text has no line feed yet.
use Rattle.std.specs.Prelude.{ℕ, Bool, List, ◌++◌, codes, decimal, if◌then◌else◌}
use Rattle.base_lines.specs.Lines.{ended}
use Rattle.cert_layers.specs.declared.fault.LayerWhy.{LayerWhy}
use Rattle.cert_layers.specs.declared.fault.LayerWhy.TheVariants.{Shape, NoLayer, NotLower, Wakes}
use Rattle.cert_tree.specs.declared.fault.TreeWhy.{TreeWhy}
use Rattle.cert_tree.specs.declared.fault.TreeWhy.TheVariants.{Missing, TooDeep, BadIndex, NoTwin}
use Rattle.cert_tree.specs.declared.fault.TreeWhy.TheVariants.{NotOpen, NotClosed, TooManyFacts, Rest}
use Rattle.pop_checker.specs.declared.fault.Rejected.{Rejected}
use Rattle.pop_checker.specs.declared.fault.Rejected.TheVariants.{Layers, Tree, Predicate}
use Rattle.cert_sets.specs.declared.fault.SetFault.{SetFault}
use Rattle.cert_sets.specs.declared.fault.SetFault.TheVariants.{Output as HasOutput, Leaves, Wakes as WakesMove}
use Rattle.cert_goals.specs.declared.fault.GoalWhy.{GoalWhy}
use Rattle.cert_goals.specs.declared.fault.GoalWhy.TheVariants.{Layers as OfLayers, Set, Node}
use Rattle.pop_checker.specs.declared.stable_fault.StableRejected.{StableRejected}
use Rattle.pop_checker.specs.declared.stable_fault.StableRejected.TheVariants.{Plain, Goal}
use Rattle.tool_texts.specs.declared.output.Ending.TheVariants as ending
use Rattle.tool_texts.specs.declared.output.Output.{Output}

abbrev pub layer_words : LayerWhy → List ℕ
layer_words (Shape number) = codes "shape " ++ decimal number
layer_words (NoLayer move) = codes "no-layer " ++ decimal move
layer_words (NotLower move) = codes "not-lower " ++ decimal move
layer_words (Wakes move woken) = codes "wakes " ++ decimal move ++ codes " " ++ decimal woken

abbrev pub tree_words : TreeWhy → List ℕ
tree_words Missing = codes "missing"
tree_words TooDeep = codes "too-deep"
tree_words BadIndex = codes "bad-index"
tree_words NoTwin = codes "no-twin"
tree_words NotOpen = codes "not-open"
tree_words NotClosed = codes "not-closed"
tree_words TooManyFacts = codes "too-many-facts"
tree_words Rest = codes "rest"

abbrev pub value_word : Bool → List ℕ
value_word value = if value then codes "true" else codes "false"

abbrev pub silent_text : Rejected → List ℕ
silent_text (Layers leaf why) = codes "rejected leaf " ++ decimal leaf ++ codes " layers " ++ layer_words why
silent_text (Tree leaf value node why) =
    codes "rejected leaf " ++ decimal leaf ++ codes " " ++ value_word value ++ codes " " ++ decimal node ++ codes " "
    ++ tree_words why
silent_text Predicate = codes "rejected predicate"

-- what is wrong with a set of a goal
abbrev pub set_words : SetFault → List ℕ
set_words (HasOutput set state) = codes "set " ++ decimal set ++ codes " output " ++ decimal state
set_words (Leaves set move) = codes "set " ++ decimal set ++ codes " leaves " ++ decimal move
set_words (WakesMove set move woken) =
    codes "set " ++ decimal set ++ codes " wakes " ++ decimal move ++ codes " " ++ decimal woken

abbrev pub goal_words : GoalWhy → List ℕ
goal_words (OfLayers why) = codes "layers " ++ layer_words why
goal_words (Set fault) = set_words fault
goal_words (Node fault) = decimal fault.node ++ codes " " ++ tree_words fault.why

abbrev pub rejected_text : StableRejected → List ℕ
rejected_text (Plain rejected) = silent_text rejected
rejected_text (Goal leaf value why) =
    codes "rejected leaf " ++ decimal leaf ++ codes " " ++ value_word value ++ codes " " ++ goal_words why

-- for a proof that is not valid
abbrev pub rejection_output : StableRejected → Output
rejection_output rejected = record { text = ended (rejected_text rejected); ending = ending.Rejected }
