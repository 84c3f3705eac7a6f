-- Halts: what a check says of a node that it passes, and of one that it refuses.
use Rattle.std.specs.Prelude.{◌≡◌, ℕ, ◌+◌, List, ◌∷◌, Option, Some, None}
use Rattle.pop_leaf.specs.LeafModel.{LeafModel}
use Rattle.cert_base.specs.declared.fact.Fact.{Fact}
use Rattle.cert_base.specs.declared.node.Node.{Node}
use Rattle.cert_tree.specs.declared.fault.TreeWhy.{TreeWhy}
use Rattle.cert_tree.specs.declared.fault.TreeFault.{TreeFault}
use Rattle.pop_io.specs.declared.failure.Failure.{Failure}
use Rattle.pop_io.specs.declared.failure.Failure.TheVariants.{Fault, NoMemory}
use Rattle.cert_tree.specs.Refusals.{Waiting, cases_at, own_refusal, first_from}

-- the node is passed, and these are its cases of the end
pub record IsPassed (leaf dead : LeafModel) (facts : List Fact) (node : Node) (cases : List (List Fact)) : Type 0 where
  pub cases_are : cases ≡ cases_at leaf dead facts node
  pub unrefused : own_refusal leaf dead facts node ≡ None

-- the reason of a halt is this one, unless memory ran out
abbrev pub HaltsBy : Option TreeWhy → Failure TreeWhy → Type 0
HaltsBy why (Fault reason) = why ≡ Some reason
HaltsBy why NoMemory = Unit {0}

-- a node is passed: the first refused node is the same with it and without it
abbrev pub GoesOn : (leaf dead : LeafModel) → List Waiting → Node → List Waiting → Type 0
GoesOn leaf dead before node after =
    (number : ℕ) (nodes : List Node)
    → first_from leaf dead before number (node ∷ nodes) ≡ first_from leaf dead after (number + 1) nodes

-- a node is the first that is refused
abbrev pub HaltsAt : (leaf dead : LeafModel) → List Waiting → Node → Failure TreeWhy → Type 0
HaltsAt leaf dead before node (Fault why) =
    (number : ℕ) (nodes : List Node) → first_from leaf dead before number (node ∷ nodes) ≡ Some (number, why)
HaltsAt leaf dead before node NoMemory = Unit {0}

-- the fault of a halt at a node
abbrev pub fault_at : ℕ → Failure TreeWhy → Failure TreeFault
fault_at node (Fault why) = Fault (record { node = node; why = why })
fault_at node NoMemory = NoMemory
